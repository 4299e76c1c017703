use Rattle.std.proofs.Common.{◌≡◌, ℕ, Bool, true, false, cond, not, ◌&&◌, eqb, ltb, List, ◌++◌, length, drop, is_ok, Some, None, Ok, Err, Result, sym, refl, ap, ◌∙◌}
use Rattle.std.proofs.lemmas.List.{take-append-drop}
use Rattle.turns.specs.Refusals.{answer}
use Rattle.turns.specs.declared.refusal.Refusal.{Refusal}
use Rattle.schemes.specs.Calls.{Buffer, Signs, outside, enrol_refusal, sign_refusal}
use Rattle.schemes.specs.Meaning.{Meaning}
use Rattle.onetime.specs.Meanings.{SignatureWritten, fits_onetime, onetime_means}
use Rattle.onetime.specs.declared.scheme.OneTime.{OneTime}
use Rattle.onetime.specs.Signatures.{signature}
use Rattle.exports.specs.Answers.{Holds, can_sign, signed}

-- a key that has no public key takes one of 32 bytes, and no other
enrols : (b : Bool) (public : List ℕ) → eqb (length public) 32 ≡ b → is_ok {E = Refusal} (answer (enrol_refusal 32 None 0 public) (tt {0})) ≡ b
unfolding enrol_refusal
enrols true public e = rw e
enrols false public e = rw e

pub enrolled : (public : List ℕ) (r : Result (Unit {0}) Refusal) → r ≡ answer (enrol_refusal 32 None 0 public) tt → eqb (length public) 32 ≡ is_ok r
enrolled public r e = sym (ap is_ok e ∙ enrols (eqb (length public) 32) public refl)

module _ (m : Meaning) (public secret digest room : List ℕ) (turn : ℕ) (known : m.public 0 ≡ Some public) (unspent : m.spent 0 turn ≡ false) where
  -- a signing is accepted exactly where it can be
  by_cases : (a b f : Bool) → outside 32 0 turn digest secret ≡ a → ltb (length room) 2304 ≡ b → fits_onetime secret public ≡ f
      → is_ok {E = Refusal} (answer (sign_refusal 2304 32 fits_onetime m 0 turn digest secret (length room)) (tt {0})) ≡ (not a && (not b && f))
  unfolding sign_refusal
  by_cases true b f p q s = rw p
  by_cases false true f p q s = rw (p, q)
  by_cases false false true p q s = rw (p, q, known, s, unspent)
  by_cases false false false p q s = rw (p, q, known, s)

module _ (public secret digest room room' : List ℕ) (turn : ℕ) (scheme : OneTime) (m' : Meaning) (r : Result (Unit {0}) Refusal)
    (key : Holds public scheme) (signing : Signs 2304 32 fits_onetime (onetime_means scheme) m' 0 turn digest secret room room' tt r) where
  pub accepted : is_ok r ≡ can_sign public secret turn digest room
  accepted =
      ap is_ok signing.answer
      ∙ by_cases (onetime_means scheme) public secret digest room turn key.enrolled (key.unspent turn) (outside 32 0 turn digest secret) (ltb (length room) 2304) (fits_onetime secret public) refl refl refl
      ∙ ap (λ b. b && (not (outside 32 0 turn digest secret) && (not (ltb (length room) 2304) && fits_onetime secret public))) (sym key.long)

  -- what it leaves in the lent bytes
  left_by : (r : Result (Unit {0}) Refusal) → is_ok r ≡ can_sign public secret turn digest room
      → Buffer 2304 r room room' → SignatureWritten r secret turn digest room' → room' ≡ signed public secret turn digest room
  left_by (Ok u) can rest front =
      sym (take-append-drop 2304 room') ∙ ap (λ x. x ++ drop 2304 room') front ∙ ap (λ x. signature secret turn digest ++ x) rest
      ∙ ap (λ b. cond b (signature secret turn digest ++ drop 2304 room) room) can
  left_by (Err e) can rest front = rest ∙ ap (λ b. cond b (signature secret turn digest ++ drop 2304 room) room) can

  pub left : SignatureWritten r secret turn digest room' → room' ≡ signed public secret turn digest room
  left written = left_by r accepted signing.buffer written
