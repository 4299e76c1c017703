use Rattle.std.specs.Prelude.{ℕ, cond, List, [], ◌++◌, codes, decimal, ◌==◌}
use Rattle.turns.specs.declared.layer.Layer.{Layer}
use Rattle.turns.specs.declared.layer.Layer.TheVariants as L
use Rattle.turns.specs.declared.refusal.Reason.{Reason}
use Rattle.turns.specs.declared.refusal.Reason.TheVariants as R
use Rattle.turns.specs.declared.refusal.Refusal.{Refusal}
use Rattle.turns.specs.declared.state.Kind.{Kind}
use Rattle.turns.specs.declared.state.Kind.TheVariants as K
use Rattle.turns.specs.Refusals.{reason_number}

-- what people read
abbrev pub reason_words : Reason → List ℕ
reason_words R.Length = codes "the state has a wrong length"
reason_words R.Mark = codes "the mark or the version is not that of a state"
reason_words R.OtherMatch = codes "the state is of another docket, match or game"
reason_words R.Kind = codes "the kind does not fit the turn"
reason_words R.Amounts = codes "the amounts or the data are not what the match allows"
reason_words R.NotNext = codes "the later turn is not one more"
reason_words R.Unlawful = codes "the step is not lawful"
reason_words R.Signature = codes "the signature does not check"
reason_words R.NotConclude = codes "the state is not a Conclude"
reason_words R.MatchNumber = codes "there is no such match"
reason_words R.Argument = codes "an argument is outside its limits"
reason_words R.Memory = codes "the memory is too short"
reason_words R.Secret = codes "the secret does not fit the key"
reason_words R.AlreadyOpened = codes "the match is opened already"
reason_words R.Unopened = codes "the match is not opened"
reason_words R.ChallengeStands = codes "a challenge stands"
reason_words R.NoChallenge = codes "no challenge stands"
reason_words R.Finalised = codes "the match is finalised or paid"
reason_words R.NotFinalised = codes "the match is not finalised"
reason_words R.Paid = codes "the match is paid already"
reason_words R.AboveDue = codes "the deposit is above the due"
reason_words R.WrongTurn = codes "the turn or the mover does not answer the challenge"
reason_words R.OutOfTurn = codes "it is not the turn of this state"
reason_words R.DepositsShort = codes "the deposits are short of the total"
reason_words R.TurnSpent = codes "the turn is spent"
reason_words R.AlreadyEnrolled = codes "the key is enrolled already"
reason_words R.NotEnrolled = codes "the key is not enrolled"
reason_words R.ClockBack = codes "the clock does not go back"
reason_words R.BeyondKeeper = codes "the standing state is beyond what the keeper holds"

abbrev pub layer_words : Layer → List ℕ
layer_words L.Game = codes "game"
layer_words L.Scheme = codes "scheme"
layer_words L.Turns = codes "turn rules"
layer_words L.Docket = codes "docket"
layer_words L.Station = codes "station"

abbrev pub kind_words : Kind → List ℕ
kind_words K.PreFund = codes "PreFund"
kind_words K.PostFund = codes "PostFund"
kind_words K.Game = codes "Game"
kind_words K.Conclude = codes "Conclude"

-- the match of a refusal, and the state that it blames, where there is one
abbrev pub match_words : ℕ → List ℕ
match_words m = cond (m == 255) [] (codes ", match " ++ decimal m)

abbrev pub blamed_words : ℕ → ℕ → List ℕ
blamed_words seat turn = cond (turn == 255) [] (codes ", seat " ++ (decimal seat ++ (codes ", turn " ++ decimal turn)))

abbrev pub refusal_words : Refusal → List ℕ
refusal_words x =
    codes "refused " ++ (decimal (reason_number x.reason) ++ (codes ": " ++ (reason_words x.reason ++ (codes " (" ++ (layer_words x.layer
    ++ (match_words x.at_match ++ (blamed_words x.seat x.turn ++ codes ")")))))))
