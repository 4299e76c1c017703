use Rattle.std.specs.Prelude.{◌≡◌, ℕ, Bool, true, false, cond, not, ◌&&◌, List, ◌++◌, length, drop, Some, None, Option, ◌==◌, nat_eq, nat_lt}
use Rattle.onetime.specs.Meanings.{fits_onetime, onetime_means}
use Rattle.onetime.specs.declared.scheme.OneTime.{OneTime}
use Rattle.schemes.specs.Calls.{outside}
use Rattle.onetime.specs.Signatures.{signature}
use Rattle.onetime.specs.Trees.{root}

-- secret and room have 32 bytes
abbrev pub can_root : List ℕ → List ℕ → Bool
can_root secret room = length secret == 32 && length room == 32

abbrev pub rooted : List ℕ → List ℕ → List ℕ
rooted secret room = cond (can_root secret room) (root secret) room

-- the public key has 32 bytes, no argument is outside its limits, there is room enough, and the secret fits
abbrev pub can_sign : List ℕ → List ℕ → ℕ → List ℕ → List ℕ → Bool
can_sign public secret turn digest room =
    (length public == 32) && (not (outside 32 0 turn digest secret) && (not (nat_lt (length room) 2304) && fits_onetime secret public))

abbrev pub signed : List ℕ → List ℕ → ℕ → List ℕ → List ℕ → List ℕ
signed public secret turn digest room =
    cond (can_sign public secret turn digest room) (signature secret turn digest ++ drop 2304 room) room

-- the public key that these bytes are
abbrev pub as_key : List ℕ → Option (List ℕ)
as_key public = cond (length public == 32) (Some public) None

-- a scheme whose key 0 has this public key, and has signed nothing
pub record Holds (public : List ℕ) (s : OneTime) : Type 0 where
  pub long : nat_eq (length public) 32 ≡ true
  pub enrolled : (onetime_means s).public 0 ≡ Some public
  pub unspent : (turn : ℕ) → (onetime_means s).spent 0 turn ≡ false
