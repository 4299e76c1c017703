use Rattle.std.proofs.Common.{◌≡◌, ℕ, zero, suc, ◌<◌, cond, eqb, List, length, get_or, set, replicate, sym, refl, ap, ◌∙◌, inl, inr}
use Rattle.std.proofs.lemmas.List.{get_or-set_same, get_or-set_other}
use Rattle.std.proofs.lemmas.Bool.{cases_eq, eq-eqb, ne_eqb, cond-true, cond-false}

-- what is seen of each place after a write to one
pub seen_set : {X Y : Type 0} (see : X → Y) (xs : List X) (i : ℕ) (x d : X) → i < length xs → (k : ℕ) → see (get_or (set xs i x) k d) ≡ cond (eqb k i) (see x) (see (get_or xs k d))
seen_set see xs i x d h k =
    elim (cases_eq k i) [
      | inl e ↦ ap see (rw e (get_or-set_same xs i x d h)) ∙ sym (cond-true (eqb k i) (see x) (see (get_or xs k d)) (eq-eqb k i e))
      | inr ne ↦ ap see (get_or-set_other xs i k x d ne) ∙ sym (cond-false (eqb k i) (see x) (see (get_or xs k d)) (ne_eqb k i ne))
    ]

-- a list of one value all over, also read past its end
pub all_over : {X : Type 0} (n k : ℕ) (x : X) → get_or (replicate n x) k x ≡ x
all_over zero k x = refl
all_over (suc n) zero x = refl
all_over (suc n) (suc k) x = all_over n k x

-- what is seen of a list of one value, where the same is seen past its end
pub seen_all_over : {X Y : Type 0} (see : X → Y) (n : ℕ) (x d : X) (y : Y) → see x ≡ y → see d ≡ y → (k : ℕ) → see (get_or (replicate n x) k d) ≡ y
seen_all_over see zero x d y here past k = past
seen_all_over see (suc n) x d y here past zero = here
seen_all_over see (suc n) x d y here past (suc k) = seen_all_over see n x d y here past k
