use Rattle.std.specs.Prelude.{◌≡◌, ℕ, Bool, true, false, cond, List, length, take, Some, None, Ok, Err, Option, Result, ◌==◌}
use Rattle.std.specs.Str.{bytes_eq}
use Rattle.schemes.specs.Calls.{sign_refusal}
use Rattle.schemes.specs.Meaning.{Meaning}
use Rattle.schemes.specs.Pages.{IsReady, at, public_of}
use Rattle.schemes.specs.declared.keys.Ready.{Ready}
use Rattle.turns.specs.declared.refusal.Refusal.{Refusal}
use Rattle.onetime.specs.declared.scheme.OneTime.{OneTime}
use Rattle.onetime.specs.declared.tree.Tree.{Tree}
use Rattle.onetime.specs.Signatures.{accepted_by, signature}
use Rattle.onetime.specs.Trees.{Grown, root}

-- a public key is the root of the secret's tree
abbrev pub fits_onetime : List ℕ → List ℕ → Bool
fits_onetime secret public = bytes_eq (root secret) public

-- the public key of a secret of 32 bytes
abbrev pub public_key : List ℕ → Option (List ℕ)
public_key secret = cond (length secret == 32) (Some (root secret)) None

abbrev pub onetime_means : OneTime → Meaning
onetime_means o =
    record {
      public = public_of o.pages;
      spent = at false o.pages;
      accepts = λ key. accepted_by (public_of o.pages key);
    }

-- an accepted signing writes the very signature
abbrev pub SignatureWritten : Result Unit Refusal → List ℕ → ℕ → List ℕ → List ℕ → Type 0
SignatureWritten (Ok u) secret turn digest buffer = take 2304 buffer ≡ signature secret turn digest
SignatureWritten (Err e) secret turn digest buffer = Unit {0}

-- nothing speaks against a signing, this is what it is about, and this is the secret's tree
pub record MaySign (o : OneTime) (key turn : ℕ) (digest secret : List ℕ) (room : ℕ) (signing : Ready) (t : Tree) : Type 0 where
  pub ready : IsReady 2304 (public_of o.pages key) key turn digest secret room signing
  pub unrefused : sign_refusal 2304 32 fits_onetime (onetime_means o) key turn digest secret room ≡ None
  pub grown : Grown secret t
  pub accepted : (s : List ℕ) → s ≡ signature secret turn digest → (onetime_means o).accepts key turn digest s ≡ true

abbrev pub Cleared : OneTime → ℕ → ℕ → List ℕ → List ℕ → ℕ → Result (Ready × Tree) Refusal → Type 0
Cleared o key turn digest secret room (Ok (signing, t)) = MaySign o key turn digest secret room signing t
Cleared o key turn digest secret room (Err e) = sign_refusal 2304 32 fits_onetime (onetime_means o) key turn digest secret room ≡ Some e
