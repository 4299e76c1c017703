use Rattle.std.specs.Prelude.{◌+◌, Bool, true, false, cond, not, ◌&&◌, List, [], ◌∷◌, Option, ◌==◌}
use Rattle.std.specs.Str.{bytes_eq}
use Rattle.turns.specs.declared.game.Step.{Step}
use Rattle.turns.specs.declared.layer.Layer.TheVariants as L
use Rattle.turns.specs.declared.refusal.Reason.TheVariants as R
use Rattle.turns.specs.declared.refusal.Refusal.{Refusal}
use Rattle.turns.specs.declared.state.Amounts.{Amounts}
use Rattle.turns.specs.declared.state.Kind.{Kind}
use Rattle.turns.specs.declared.state.Kind.TheVariants as K
use Rattle.turns.specs.declared.state.Position.{Position}
use Rattle.turns.specs.declared.state.State.{State}
use Rattle.turns.specs.declared.state.Terms.{Terms}
use Rattle.turns.specs.Refusals.{Rung, rung, blame, first_found}

abbrev pub same_amounts : Amounts → Amounts → Bool
same_amounts a b = a.seat0 == b.seat0 && a.seat1 == b.seat1

abbrev pub same_position : Position → Position → Bool
same_position p q = same_amounts p.amounts q.amounts && bytes_eq p.«data» q.«data»

-- the later turn is one more
abbrev pub next : State → State → Bool
next before after = after.turn == before.turn + 1

-- between these kinds the game decides
abbrev pub game_decides : Kind → Kind → Bool
game_decides K.PreFund k = false
game_decides K.PostFund K.Game = true
game_decides K.PostFund K.PreFund = false
game_decides K.PostFund K.PostFund = false
game_decides K.PostFund K.Conclude = false
game_decides K.Game K.Game = true
game_decides K.Game K.PreFund = false
game_decides K.Game K.PostFund = false
game_decides K.Game K.Conclude = false
game_decides K.Conclude k = false

-- these kinds follow each other freely, while the funding lasts
abbrev pub funding_goes_on : Kind → Kind → Bool
funding_goes_on K.PreFund K.PreFund = true
funding_goes_on K.PreFund K.PostFund = true
funding_goes_on K.PreFund K.Game = false
funding_goes_on K.PreFund K.Conclude = false
funding_goes_on K.PostFund K.PostFund = true
funding_goes_on K.PostFund K.PreFund = false
funding_goes_on K.PostFund K.Game = false
funding_goes_on K.PostFund K.Conclude = false
funding_goes_on K.Game k = false
funding_goes_on K.Conclude k = false

abbrev pub concludes : Kind → Bool
concludes K.PreFund = false
concludes K.PostFund = false
concludes K.Game = false
concludes K.Conclude = true

-- what the game is asked about two states
abbrev pub asked : Terms → State → State → Step
asked terms before after =
    record { code = terms.code; stake = terms.stake; turn = after.turn; before = before.position; after = after.position }

-- `says` is the game's yes-or-no function of a step
module _ (says : Step → Bool) (terms : Terms) (before after : State) where
  -- a step is lawful, apart from its turns
  abbrev pub lawful_kinds : Bool
  lawful_kinds =
      cond (concludes after.kind) (same_position before.position after.position)
      (cond (game_decides before.kind after.kind) (says (asked terms before after))
      (funding_goes_on before.kind after.kind))

  -- a step between two proper states is lawful
  abbrev pub lawful_step : Bool
  lawful_step = next before after && lawful_kinds

  -- the game is named where it was asked and said no
  abbrev pub unlawful : Refusal
  unlawful = blame R.Unlawful (cond (game_decides before.kind after.kind) L.Game L.Turns) terms.at_match after.turn

  abbrev pub lawful_ladder : List Rung
  lawful_ladder = rung (not lawful_kinds) unlawful ∷ []

  abbrev pub lawful_refusal : Option Refusal
  lawful_refusal = first_found lawful_ladder

module _ (terms : Terms) (before after : State) where
  abbrev pub not_next : Rung
  not_next = rung (not (next before after)) (blame R.NotNext L.Turns terms.at_match after.turn)

  abbrev pub next_refusal : Option Refusal
  next_refusal = first_found (not_next ∷ [])

-- why one state does not follow another by a lawful step
abbrev pub step_ladder : (Step → Bool) → Terms → State → State → List Rung
step_ladder says terms before after = not_next terms before after ∷ lawful_ladder says terms before after

abbrev pub step_refusal : (Step → Bool) → Terms → State → State → Option Refusal
step_refusal says terms before after = first_found (step_ladder says terms before after)
