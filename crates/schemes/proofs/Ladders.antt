use Rattle.std.proofs.Common.{◌≡◌, ℕ, Bool, true, false, cond, List, [], ◌∷◌, ◌++◌, Some, None, Ok, Err, Option, sym, refl, ap, ◌∙◌}
use Rattle.std.proofs.lemmas.Bool.{not-false}
use Rattle.turns.specs.Refusals.{Rung, first_found, answer}
use Rattle.turns.specs.declared.refusal.Refusal.{Refusal}
use Rattle.schemes.specs.Calls.{early_ladder, early_refusal, fits_key, late_ladder, late_refusal, sign_ladder, sign_refusal}
use Rattle.schemes.specs.Meaning.{Meaning}
use Rattle.schemes.specs.Pages.{IsReady}
use Rattle.schemes.specs.declared.keys.Ready.{Ready}

-- no rung of a ladder applies
abbrev pub NoneApplies : List Rung → Type 0
NoneApplies [] = Unit {0}
NoneApplies (x ∷ xs) = (x.applies ≡ false) × NoneApplies xs

passed_one : (b : Bool) (r : Refusal) (o : Option Refusal) → cond b (Some r) o ≡ None → (b ≡ false) × (o ≡ None)
passed_one true r o e = let z : true ≡ false = cc in (z, cc)
passed_one false r o e = (refl, e)

pub all_passed : (xs : List Rung) → first_found xs ≡ None → NoneApplies xs
all_passed [] e = tt
all_passed (x ∷ xs) e = let p = passed_one x.applies x.refusal (first_found xs) e in (p.0, all_passed xs p.1)

-- an accepted call found no refusal
pub accepted : {A : Type 0} (o : Option Refusal) (a b : A) → Ok b ≡ answer o a → o ≡ None
accepted None a b e = refl
accepted (Some r) a b e = cc

-- and a refused one found its own
pub refused : {A : Type 0} (o : Option Refusal) (a : A) (e : Refusal) → Err e ≡ answer o a → o ≡ Some e
refused None a e h = cc
refused (Some r) a e h = cc

-- an accepted signing is of a turn that was not spent
pub unspent : (siglen seclen : ℕ) (fits : List ℕ → List ℕ → Bool) (m : Meaning) (key turn : ℕ) (digest secret : List ℕ) (room : ℕ) → sign_refusal siglen seclen fits m key turn digest secret room ≡ None → m.spent key turn ≡ false
unfolding sign_refusal
unspent siglen seclen fits m key turn digest secret room e = (all_passed (sign_ladder siglen seclen fits m key turn digest secret room) e).1.1.1.1.0

-- and of a secret that fits
pub fitting : (siglen seclen : ℕ) (fits : List ℕ → List ℕ → Bool) (m : Meaning) (key turn : ℕ) (digest secret : List ℕ) (room : ℕ) → sign_refusal siglen seclen fits m key turn digest secret room ≡ None → fits_key fits secret (m.public key) ≡ true
unfolding sign_refusal
fitting siglen seclen fits m key turn digest secret room e = not-false _ (all_passed (sign_ladder siglen seclen fits m key turn digest secret room) e).1.1.1.0

-- a ladder in two parts
found_rung : (b : Bool) (r : Refusal) (o p : Option Refusal) (e : Refusal) → (o ≡ Some e → p ≡ Some e) → cond b (Some r) o ≡ Some e → cond b (Some r) p ≡ Some e
found_rung true r o p e go h = h
found_rung false r o p e go h = go h

found_early : (xs ys : List Rung) (e : Refusal) → first_found xs ≡ Some e → first_found (xs ++ ys) ≡ Some e
found_early [] ys e h = cc
found_early (x ∷ xs) ys e h = found_rung x.applies x.refusal (first_found xs) (first_found (xs ++ ys)) e (found_early xs ys e) h

passed_early : (xs ys : List Rung) → first_found xs ≡ None → first_found (xs ++ ys) ≡ first_found ys
passed_early [] ys h = refl
passed_early (x ∷ xs) ys h =
    let p = passed_one x.applies x.refusal (first_found xs) h in
    ap (λ b. cond b (Some x.refusal) (first_found (xs ++ ys))) p.0 ∙ passed_early xs ys p.1

-- what a signing is refused for, by how far it comes
module _ (siglen seclen : ℕ) (fits : List ℕ → List ℕ → Bool) (m : Meaning) (key turn : ℕ) (digest secret : List ℕ) (room : ℕ) where
  late : List Rung
  late = late_ladder key (fits_key fits secret (m.public key)) (m.spent key turn)

  pub sign_early : (e : Refusal) → early_refusal siglen seclen (m.public key) key turn digest secret room ≡ Some e → sign_refusal siglen seclen fits m key turn digest secret room ≡ Some e
  unfolding sign_refusal late
  sign_early e h = found_early (early_ladder siglen seclen (m.public key) key turn digest secret room) late e h

  pub sign_late : (public : List ℕ) → early_refusal siglen seclen (m.public key) key turn digest secret room ≡ None → m.public key ≡ Some public → sign_refusal siglen seclen fits m key turn digest secret room ≡ late_refusal key (fits secret public) (m.spent key turn)
  unfolding sign_refusal late
  sign_late public passed known =
      passed_early (early_ladder siglen seclen (m.public key) key turn digest secret room) late passed
      ∙ ap (λ (x : Option (List ℕ)). late_refusal key (fits_key fits secret x) (m.spent key turn)) known

-- what was asked last of a signing that was ready decides
pub sign_found : (siglen : ℕ) (fits : List ℕ → List ℕ → Bool) (m : Meaning) (key turn : ℕ) (digest secret : List ℕ) (room : ℕ) (r : Ready) → IsReady siglen (m.public key) key turn digest secret room r
    → (fit is_spent : Bool) → fit ≡ fits secret r.public → is_spent ≡ m.spent key turn → (o : Option Refusal) → late_refusal r.place.key fit is_spent ≡ o → sign_refusal siglen 32 fits m key turn digest secret room ≡ o
sign_found siglen fits m key turn digest secret room r ready fit is_spent same spent o found =
    sign_late siglen 32 fits m key turn digest secret room r.public ready.unrefused ready.public_known
    ∙ rw (sym same, sym spent, sym ready.place.same_key) found
