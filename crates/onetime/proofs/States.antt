use Rattle.std.proofs.Common.{◌≡◌, ℕ, ◌<◌, true, false, cond, ◌&&◌, eqb, List, length, Some, Option, sym, ap, ◌∙◌, arith}
use Rattle.std.proofs.lemmas.Slice.Eq.{bytes_eq-Decides}
use Rattle.schemes.specs.Pages.{at, public_of}
use Rattle.schemes.proofs.Kept.{sign_keeps}
use Rattle.schemes.specs.Meaning.{Keeps}
use Rattle.onetime.specs.Meanings.{fits_onetime, onetime_means}
use Rattle.onetime.specs.Signatures.{accepted_by, signature}
use Rattle.onetime.specs.Trees.{root}
use Rattle.onetime.specs.declared.scheme.OneTime.{OneTime}
use Rattle.onetime.proofs.Theorems.{signatures_accepted}

-- a spent turn leaves what was accepted
pub spent_keeps : (o o' : OneTime) (key turn : ℕ) → ((k : ℕ) → public_of o'.pages k ≡ public_of o.pages k) → ((k t : ℕ) → at false o'.pages k t ≡ cond (eqb k key && eqb t turn) true (at false o.pages k t)) → Keeps key (onetime_means o) (onetime_means o')
spent_keeps o o' key turn publics turns =
    sign_keeps false (λ b. b) (λ known b. accepted_by known) o.pages o'.pages key turn true publics turns (λ d s held. held)

-- what a fitting secret makes is accepted
pub will_accept : (o : OneTime) (key turn : ℕ) (digest secret public : List ℕ) → public_of o.pages key ≡ Some public → fits_onetime secret public ≡ true → turn < 32 → length digest ≡ 32 → (s : List ℕ) → s ≡ signature secret turn digest → (onetime_means o).accepts key turn digest s ≡ true
will_accept o key turn digest secret public known right low long s made =
    let top : root secret ≡ public = (bytes_eq-Decides (root secret) public).0 right in
    ap (λ (x : Option (List ℕ)). accepted_by x turn digest s) (known ∙ ap Some (sym top))
    ∙ ap (λ (x : List ℕ). accepted_by (Some (root secret)) turn digest x) made
    ∙ signatures_accepted secret digest turn (omega arith) long
