-- What a scheme keeps of its keys, and what its calls answer of it.
use Rattle.std.specs.Prelude.{◌≡◌, ℕ, ◌≤◌, cond, List, [], length, is_some, false, Some, None, Ok, Err, Option, Result, ◌==◌, nat_lt, slice_index_or}
use Rattle.turns.specs.declared.refusal.Refusal.{Refusal}
use Rattle.schemes.specs.Calls.{early_refusal}
use Rattle.schemes.specs.Places.{PlaceOf}
use Rattle.schemes.specs.declared.keys.Ready.{Ready}
use Rattle.schemes.specs.declared.pages.Page.{Page}
use Rattle.schemes.specs.declared.pages.Pages.{Pages}

-- the page of a key, and an empty one where there is none
abbrev pub page_of : {T : Type 0} → Pages T → ℕ → Page T
page_of p key = slice_index_or p.pages key (record { public = None; turns = [] })

-- the public key of a key
abbrev pub public_of : {T : Type 0} → Pages T → ℕ → Option (List ℕ)
public_of p key = cond (nat_lt 15 key) None (page_of p key).public

-- what stands for a turn of a key, and `d` where there is none
abbrev pub at : {T : Type 0} → T → Pages T → ℕ → ℕ → T
at d p key turn = slice_index_or (page_of p key).turns turn d

-- a key that had no public key has one, and a page of blanks; every other key has what it had
pub record FirstPage {T : Type 0} (blank : T) (key : ℕ) (public : List ℕ) (p p' : Pages T) : Type 0 where
  pub fresh : is_some (public_of p key) ≡ false
  pub publics : (k : ℕ) → public_of p' k ≡ cond (k == key) (Some public) (public_of p k)
  pub turns : (k t : ℕ) → at blank p' k t ≡ cond (k == key) blank (at blank p k t)

-- what an enrolment leaves
abbrev pub Enrolled : {T : Type 0} → T → ℕ → List ℕ → Result Unit Refusal → Pages T → Pages T → Type 0
Enrolled blank key public (Ok u) p p' = FirstPage blank key public p p'
Enrolled blank key public (Err e) p p' = p' ≡ p

-- nothing but its secret or a spent turn speaks against a signing, and this is what it is about
pub record IsReady (siglen : ℕ) (known : Option (List ℕ)) (key turn : ℕ) (digest secret : List ℕ) (room : ℕ) (r : Ready) : Type 0 where
  pub unrefused : early_refusal siglen 32 known key turn digest secret room ≡ None
  pub public_known : known ≡ Some r.public
  pub place : PlaceOf key turn r.place
  pub same_digest : r.digest.now ≡ digest
  pub same_secret : r.secret.now ≡ secret
  pub digest_length : length digest ≡ 32
  pub secret_length : length secret ≡ 32
  pub room_enough : siglen ≤ room

-- what is answered of a signing before its secret is looked at
abbrev pub Signer : ℕ → Option (List ℕ) → ℕ → ℕ → List ℕ → List ℕ → ℕ → Result Ready Refusal → Type 0
Signer siglen known key turn digest secret room (Ok r) = IsReady siglen known key turn digest secret room r
Signer siglen known key turn digest secret room (Err e) = early_refusal siglen 32 known key turn digest secret room ≡ Some e
