-- The register scheme.
use Rattle.std.specs.Prelude.{◌≡◌, ℕ, Bool, false, cond, ◌&&◌, List, ◌∷◌, length, is_some, Some, None, Ok, Err, Option, Result, ◌==◌, nat_le}
use Rattle.std.specs.Str.{bytes_eq}
use Rattle.hash.specs.Sha256.{sha_256}
use Rattle.schemes.specs.Calls.{sign_refusal}
use Rattle.schemes.specs.Meaning.{Meaning}
use Rattle.schemes.specs.Pages.{IsReady, at, public_of}
use Rattle.turns.specs.declared.refusal.Refusal.{Refusal}
use Rattle.schemes.specs.declared.keys.Ready.{Ready}
use Rattle.schemes.specs.declared.register.Register.{Register}

-- a public key is the hash of byte 4 and the secret
abbrev pub fits_register : List ℕ → List ℕ → Bool
fits_register secret public = bytes_eq (sha_256 (4 ∷ secret)) public

-- the public key of a secret of 32 bytes
abbrev pub public_key : List ℕ → Option (List ℕ)
public_key secret = cond (length secret == 32) (Some (sha_256 (4 ∷ secret))) None

-- the digest that is entered for a key and a turn
abbrev pub entry_of : Register → ℕ → ℕ → Option (List ℕ)
entry_of r key turn = at None r.pages key turn

-- an entry is this digest
abbrev pub holds : Option (List ℕ) → List ℕ → Bool
holds None digest = false
holds (Some entry) digest = bytes_eq entry digest

-- accepted is the digest that is entered, with an empty signature
abbrev pub register_accepts : Register → ℕ → ℕ → List ℕ → List ℕ → Bool
register_accepts r key turn digest signature =
    is_some (public_of r.pages key)
    && (nat_le turn 31 && (length digest == 32 && (length signature == 0 && holds (entry_of r key turn) digest)))

abbrev pub register_means : Register → Meaning
register_means r =
    record {
      public = public_of r.pages;
      spent = λ key turn. is_some (entry_of r key turn);
      accepts = register_accepts r;
    }

-- nothing speaks against a signing, and this is what it is about
pub record MayEnter (r : Register) (key turn : ℕ) (digest secret : List ℕ) (room : ℕ) (signing : Ready) : Type 0 where
  pub ready : IsReady 0 (public_of r.pages key) key turn digest secret room signing
  pub unrefused : sign_refusal 0 32 fits_register (register_means r) key turn digest secret room ≡ None
  pub unspent : is_some (entry_of r key turn) ≡ false

abbrev pub Cleared : Register → ℕ → ℕ → List ℕ → List ℕ → ℕ → Result Ready Refusal → Type 0
Cleared r key turn digest secret room (Ok ready) = MayEnter r key turn digest secret room ready
Cleared r key turn digest secret room (Err e) = sign_refusal 0 32 fits_register (register_means r) key turn digest secret room ≡ Some e
