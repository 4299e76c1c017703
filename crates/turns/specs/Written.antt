use Rattle.std.specs.Prelude.{◌≡◌, ℕ, zero, suc, ◌/◌, ◌%◌, ◌^◌, ◌<◌, List, [], ◌∷◌, ◌++◌, length, Some}
use Rattle.turns.specs.declared.state.State.{State}
use Rattle.turns.specs.Kinds.{kind_at, kind_number}
use Rattle.turns.specs.Layout.{mark, state_of}

-- a number in so many bytes, highest byte first
unfoldable pub spelled : ℕ → ℕ → List ℕ
spelled zero n = []
spelled (suc k) n = n / 256 ^ k % 256 ∷ spelled k n

-- the bytes of a state
unfoldable pub bytes_of : State → List ℕ
bytes_of s =
    mark ++ spelled 4 s.docket ++ (s.at_match ∷ s.code ∷ s.turn ∷ kind_number s.kind ∷ [])
    ++ spelled 8 s.position.amounts.seat0 ++ spelled 8 s.position.amounts.seat1 ++ s.position.«data»

-- a state whose parts fit their places and whose kind fits its turn
pub record Writable (s : State) : Type 0 where
  pub docket : s.docket < 2 ^ 32
  pub seat0 : s.position.amounts.seat0 < 2 ^ 64
  pub seat1 : s.position.amounts.seat1 < 2 ^ 64
  pub long : length s.position.«data» ≡ 67
  pub kind : kind_at s.turn (kind_number s.kind) ≡ Some s.kind

-- bytes are read as the state that they were written for
abbrev pub ReadsBack : State → List ℕ → Type 0
ReadsBack s bytes = Writable s → state_of bytes ≡ s
