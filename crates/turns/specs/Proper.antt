use Rattle.std.specs.Prelude.{ℕ, ◌+◌, Bool, true, false, cond, not, ◌&&◌, List, [], ◌∷◌, length, is_some, Option, ◌==◌}
use Rattle.turns.specs.declared.layer.Layer.TheVariants as L
use Rattle.turns.specs.declared.refusal.Reason.TheVariants as R
use Rattle.turns.specs.declared.refusal.Refusal.{Refusal}
use Rattle.turns.specs.declared.state.Amounts.{Amounts}
use Rattle.turns.specs.declared.state.Kind.{Kind}
use Rattle.turns.specs.declared.state.Kind.TheVariants as K
use Rattle.turns.specs.declared.state.Position.{Position}
use Rattle.turns.specs.declared.state.Terms.{Terms}
use Rattle.turns.specs.Bytes.{all_zero}
use Rattle.turns.specs.Kinds.{kind_at}
use Rattle.turns.specs.Lawful.{same_amounts}
use Rattle.turns.specs.Layout.{marked, docket_of, match_of, code_of, turn_of, kind_byte, position_of, state_of}
use Rattle.turns.specs.Refusals.{Rung, rung, refuse, blame, first_found}

-- what both seats have together
abbrev pub total : Amounts → ℕ
total a = a.seat0 + a.seat1

-- before the game the amounts are the dues and there is no data
abbrev pub funding : Kind → Bool
funding K.PreFund = true
funding K.PostFund = true
funding K.Game = false
funding K.Conclude = false

-- the amounts add up to the match's total, and fit the kind
unfoldable pub amounts_fit : Terms → Kind → Position → Bool
amounts_fit t kind p =
    (total p.amounts == total t.dues) && cond (funding kind) (same_amounts p.amounts t.dues && all_zero p.«data») true

-- Bytes are a proper state of a match if none of these applies.
abbrev pub proper_ladder : Terms → List ℕ → List Rung
proper_ladder t bytes =
    rung (not (length bytes == 96)) (refuse R.Length L.Turns t.at_match)
    ∷ (rung (not (marked bytes)) (refuse R.Mark L.Turns t.at_match)
    ∷ (rung (not (docket_of bytes == t.docket && match_of bytes == t.at_match && code_of bytes == t.code)) (refuse R.OtherMatch L.Turns t.at_match)
    ∷ (rung (not (is_some (kind_at (turn_of bytes) (kind_byte bytes)))) (refuse R.Kind L.Turns t.at_match)
    ∷ (rung (not (amounts_fit t (state_of bytes).kind (position_of bytes))) (blame R.Amounts L.Turns t.at_match (turn_of bytes))
    ∷ []))))

abbrev pub proper_refusal : Terms → List ℕ → Option Refusal
proper_refusal t bytes = first_found (proper_ladder t bytes)
