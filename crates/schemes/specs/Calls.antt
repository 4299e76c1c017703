use Rattle.std.specs.Prelude.{◌≡◌, ℕ, ◌/◌, Bool, true, false, cond, not, ◌||◌, List, [], ◌∷◌, ◌++◌, length, take, drop, is_some, Some, None, Ok, Err, Option, Result, ◌==◌, nat_lt}
use Rattle.turns.specs.declared.layer.Layer.TheVariants as L
use Rattle.turns.specs.declared.refusal.Reason.{Reason}
use Rattle.turns.specs.declared.refusal.Reason.TheVariants as R
use Rattle.turns.specs.declared.refusal.Refusal.{Refusal}
use Rattle.turns.specs.Refusals.{Rung, rung, refuse, first_found, answer}
use Rattle.schemes.specs.Meaning.{Keeps, Meaning}

-- the match that a key is of: seat s of match m has key 2m + s
abbrev pub match_of : ℕ → ℕ
match_of key = cond (nat_lt 15 key) 255 (key / 2)

abbrev pub refuse_key : Reason → ℕ → Refusal
refuse_key reason key = refuse reason L.Scheme (match_of key)

-- why a key is not enrolled, where public keys are `publen` bytes long and it has the key `known` or none
module _ (publen : ℕ) (known : Option (List ℕ)) (key : ℕ) (public : List ℕ) where
  abbrev pub enrol_ladder : List Rung
  enrol_ladder =
      rung (nat_lt 15 key || not (length public == publen)) (refuse_key R.Argument key)
      ∷ (rung (is_some known) (refuse_key R.AlreadyEnrolled key)
      ∷ [])

  unfoldable pub enrol_refusal : Option Refusal
  enrol_refusal = first_found enrol_ladder

-- the secret fits the public key, where there is one
abbrev pub fits_key : (List ℕ → List ℕ → Bool) → List ℕ → Option (List ℕ) → Bool
fits_key fits secret None = false
fits_key fits secret (Some public) = fits secret public

-- an argument of a signing is outside its limits
abbrev pub outside : ℕ → ℕ → ℕ → List ℕ → List ℕ → Bool
outside seclen key turn digest secret =
    nat_lt 15 key || (nat_lt 31 turn || (not (length digest == 32) || not (length secret == seclen)))

-- why a signing is refused before the secret is looked at, where signatures and secrets are `siglen` and `seclen`
-- bytes long, the key has the public key `known` or none, and the lent buffer has `room`
abbrev pub early_ladder : ℕ → ℕ → Option (List ℕ) → ℕ → ℕ → List ℕ → List ℕ → ℕ → List Rung
early_ladder siglen seclen known key turn digest secret room =
    rung (outside seclen key turn digest secret) (refuse_key R.Argument key)
    ∷ (rung (nat_lt room siglen) (refuse_key R.Memory key)
    ∷ (rung (not (is_some known)) (refuse_key R.NotEnrolled key)
    ∷ []))

abbrev pub early_refusal : ℕ → ℕ → Option (List ℕ) → ℕ → ℕ → List ℕ → List ℕ → ℕ → Option Refusal
early_refusal siglen seclen known key turn digest secret room = first_found (early_ladder siglen seclen known key turn digest secret room)

-- what is asked last: whether the secret fits, and then whether the turn is spent
abbrev pub late_ladder : ℕ → Bool → Bool → List Rung
late_ladder key fitting is_spent =
    rung (not fitting) (refuse_key R.Secret key)
    ∷ (rung is_spent (refuse_key R.TurnSpent key)
    ∷ [])

abbrev pub late_refusal : ℕ → Bool → Bool → Option Refusal
late_refusal key fitting is_spent = first_found (late_ladder key fitting is_spent)

-- why a signing is refused at all
module _ (siglen seclen : ℕ) (fits : List ℕ → List ℕ → Bool) (m : Meaning) (key turn : ℕ) (digest secret : List ℕ) (room : ℕ) where
  abbrev pub sign_ladder : List Rung
  sign_ladder =
      early_ladder siglen seclen (m.public key) key turn digest secret room
      ++ late_ladder key (fits_key fits secret (m.public key)) (m.spent key turn)

  unfoldable pub sign_refusal : Option Refusal
  sign_refusal = first_found sign_ladder

-- what an accepted enrolment leaves of its key
pub record NewKey (key : ℕ) (public : List ℕ) (m' : Meaning) : Type 0 where
  pub enrolled : m'.public key ≡ Some public
  pub unspent : (t : ℕ) → m'.spent key t ≡ false

-- what an accepted signing leaves of its key
pub record Spends (key turn : ℕ) (digest signature : List ℕ) (m m' : Meaning) : Type 0 where
  pub public : m'.public key ≡ m.public key
  pub spent : (t : ℕ) → m'.spent key t ≡ (t == turn || m.spent key t)
  pub accepted : m'.accepts key turn digest signature ≡ true

-- what stands after a call: what the accepted call leaves, or all as it was
abbrev pub After : {A : Type 0} → Result A Refusal → Type 0 → Meaning → Meaning → Type 0
After (Ok a) Left m m' = Left
After (Err e) Left m m' = m' ≡ m

-- the lent buffer after a call: a signature in front and the rest as it was, or all as it was
abbrev pub Buffer : {A : Type 0} → ℕ → Result A Refusal → List ℕ → List ℕ → Type 0
Buffer siglen (Ok a) buffer buffer' = drop siglen buffer' ≡ drop siglen buffer
Buffer siglen (Err e) buffer buffer' = buffer' ≡ buffer

-- what an enrolment answers, with `a` where it is accepted, and what it leaves
pub record Enrols {A : Type 0} (publen : ℕ) (m m' : Meaning) (key : ℕ) (public : List ℕ) (a : A) (r : Result A Refusal) : Type 0 where
  pub answer : r ≡ answer (enrol_refusal publen (m.public key) key public) a
  pub after : After r (NewKey key public m') m m'
  pub kept : Keeps key m m'

-- what a signing answers, with `a` where it is accepted, and what it leaves, the lent buffer too
pub record Signs {A : Type 0} (siglen seclen : ℕ) (fits : List ℕ → List ℕ → Bool) (m m' : Meaning) (key turn : ℕ) (digest secret lent lent' : List ℕ) (a : A) (r : Result A Refusal) : Type 0 where
  pub answer : r ≡ answer (sign_refusal siglen seclen fits m key turn digest secret (length lent)) a
  pub after : After r (Spends key turn digest (take siglen lent') m m') m m'
  pub kept : Keeps key m m'
  pub buffer : Buffer siglen r lent lent'
