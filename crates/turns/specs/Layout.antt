use Rattle.std.specs.Prelude.{ℕ, Bool, List, [], ◌∷◌, slice_index}
use Rattle.std.specs.Option.{unwrap_or}
use Rattle.std.specs.List.{between}
use Rattle.std.specs.Str.{bytes_eq}
use Rattle.turns.specs.declared.reading.Parts.{Parts}
use Rattle.turns.specs.declared.state.Amounts.{Amounts}
use Rattle.turns.specs.declared.state.Kind.TheVariants as K
use Rattle.turns.specs.declared.state.Position.{Position}
use Rattle.turns.specs.declared.state.State.{State}
use Rattle.turns.specs.Bytes.{big_endian}
use Rattle.turns.specs.Kinds.{kind_at}

-- the letters FMS and version 1
abbrev pub mark : List ℕ
mark = 70 ∷ 77 ∷ 83 ∷ 0 ∷ 1 ∷ []

-- what stands where in the 96 bytes of a state
module _ (bytes : List ℕ) where
  unfoldable pub marked : Bool
  marked = bytes_eq (between 0 5 bytes) mark

  unfoldable pub docket_of : ℕ
  docket_of = big_endian (between 5 9 bytes)

  abbrev pub match_of : ℕ
  match_of = slice_index bytes 9

  abbrev pub code_of : ℕ
  code_of = slice_index bytes 10

  abbrev pub turn_of : ℕ
  turn_of = slice_index bytes 11

  abbrev pub kind_byte : ℕ
  kind_byte = slice_index bytes 12

  abbrev pub amounts_of : Amounts
  amounts_of = record { seat0 = big_endian (between 13 21 bytes); seat1 = big_endian (between 21 29 bytes) }

  abbrev pub data_of : List ℕ
  data_of = between 29 96 bytes

  unfoldable pub position_of : Position
  position_of = record { amounts = amounts_of; «data» = data_of }

  -- what 96 bytes say between the mark and the position
  abbrev pub parts_of : Parts
  parts_of =
      record {
        docket = docket_of;
        at_match = match_of;
        code = code_of;
        turn = turn_of;
        kind = kind_byte;
      }

  -- the state that bytes spell whose kind fits their turn
  abbrev pub state_of : State
  state_of =
      record {
        docket = docket_of;
        at_match = match_of;
        code = code_of;
        turn = turn_of;
        kind = unwrap_or (kind_at turn_of kind_byte) K.Conclude;
        position = position_of;
      }
