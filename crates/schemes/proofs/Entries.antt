-- An entry for a turn that had none leaves what was accepted.
use Rattle.std.proofs.Common.{◌≡◌, ℕ, Bool, true, false, ◌&&◌, eqb, leb, List, length, cond, is_some, Some, None, Option, sym, refl, ◌∙◌}
use Rattle.std.proofs.lemmas.Bool.{and_parts, false≢true}
use Rattle.schemes.specs.Meaning.{Keeps}
use Rattle.schemes.specs.Pages.{public_of}
use Rattle.schemes.specs.Registers.{entry_of, holds, register_means}
use Rattle.schemes.specs.declared.register.Register.{Register}
use Rattle.schemes.proofs.Kept.{sign_keeps}

-- what is accepted for a key and a turn, by the public key and the entry
accepts_by : Option (List ℕ) → Option (List ℕ) → ℕ → List ℕ → List ℕ → Bool
accepts_by known entry turn digest signature =
    is_some known && (leb turn 31 && (eqb (length digest) 32 && (eqb (length signature) 0 && holds entry digest)))

entered : (known entry : Option (List ℕ)) (turn : ℕ) (d s : List ℕ) → accepts_by known entry turn d s ≡ true → is_some entry ≡ true
unfolding accepts_by
entered known None turn d s held =
    (and_parts (eqb (length s) 0) _ (and_parts (eqb (length d) 32) _ (and_parts (leb turn 31) _ (and_parts (is_some known) _ held).1).1).1).1
entered known (Some x) turn d s held = refl

pub entry_keeps : (r r' : Register) (key turn : ℕ) (digest : List ℕ) → is_some (entry_of r key turn) ≡ false → ((k : ℕ) → public_of r'.pages k ≡ public_of r.pages k) → ((k t : ℕ) → entry_of r' k t ≡ cond (eqb k key && eqb t turn) (Some digest) (entry_of r k t)) → Keeps key (register_means r) (register_means r')
unfolding accepts_by
entry_keeps r r' key turn digest unspent publics turns =
    sign_keeps None is_some accepts_by r.pages r'.pages key turn (Some digest) publics turns
    (λ d s held. absurd (false≢true (sym unspent ∙ entered (public_of r.pages key) _ turn d s held)))
