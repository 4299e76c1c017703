use Rattle.std.specs.Prelude.{ℕ, ◌%◌, Bool, cond, List, [], ◌∷◌, Some, None, Ok, Err, Option, Result}
use Rattle.turns.specs.declared.refusal.Reason.{Reason}
use Rattle.turns.specs.declared.refusal.Reason.TheVariants as R
use Rattle.turns.specs.declared.layer.Layer.{Layer}
use Rattle.turns.specs.declared.layer.Layer.TheVariants as L
use Rattle.turns.specs.declared.refusal.Refusal.{Refusal}

-- the number of each refusal
abbrev pub reason_number : Reason → ℕ
reason_number R.Length = 1
reason_number R.Mark = 2
reason_number R.OtherMatch = 3
reason_number R.Kind = 4
reason_number R.Amounts = 5
reason_number R.NotNext = 7
reason_number R.Unlawful = 8
reason_number R.Signature = 9
reason_number R.NotConclude = 10
reason_number R.MatchNumber = 11
reason_number R.Argument = 12
reason_number R.Memory = 13
reason_number R.Secret = 14
reason_number R.AlreadyOpened = 20
reason_number R.Unopened = 21
reason_number R.ChallengeStands = 22
reason_number R.NoChallenge = 23
reason_number R.Finalised = 24
reason_number R.NotFinalised = 25
reason_number R.Paid = 26
reason_number R.AboveDue = 27
reason_number R.WrongTurn = 28
reason_number R.OutOfTurn = 29
reason_number R.DepositsShort = 30
reason_number R.TurnSpent = 31
reason_number R.AlreadyEnrolled = 32
reason_number R.NotEnrolled = 33
reason_number R.ClockBack = 34
reason_number R.BeyondKeeper = 35

abbrev pub layer_number : Layer → ℕ
layer_number L.Game = 1
layer_number L.Scheme = 2
layer_number L.Turns = 3
layer_number L.Docket = 4
layer_number L.Station = 5

-- a refusal that blames no state
abbrev pub refuse : Reason → Layer → ℕ → Refusal
refuse reason layer m = record { reason = reason; layer = layer; at_match = m; seat = 255; turn = 255 }

-- a refusal that blames a state by its turn, and so its mover
abbrev pub blame : Reason → Layer → ℕ → ℕ → Refusal
blame reason layer m turn = record { reason = reason; layer = layer; at_match = m; seat = turn % 2; turn = turn }

-- one rung of a ladder of refusals: where it applies, and what it answers
pub record Rung : Type 0 where
  pub applies : Bool
  pub refusal : Refusal

abbrev pub rung : Bool → Refusal → Rung
rung b r = record { applies = b; refusal = r }

-- the first that applies wins
abbrev pub first_found : List Rung → Option Refusal
first_found [] = None
first_found (x ∷ xs) = cond x.applies (Some x.refusal) (first_found xs)

-- a call's answer, by what its ladder found
abbrev pub answer : {A : Type 0} → Option Refusal → A → Result A Refusal
answer None a = Ok a
answer (Some r) a = Err r

-- what stands behind a call: what stood before where it was refused
abbrev pub unless : {A : Type 0} → Option Refusal → A → A → A
unless None old new = new
unless (Some r) old new = old
