use Rattle.std.proofs.Common.{◌≡◌, ℕ, zero, suc, ◌+◌, ◌<◌, ◌≤◌, List, length, get_or, map, sym, ap, ◌∙◌, subst, inl, inr, arith}
use Rattle.std.proofs.lemmas.Bool.{cases_eq}
use Rattle.std.proofs.lemmas.List.{get_or-map, length-map, same_lists}
use Rattle.std.specs.Array.{IsElementAt, IsFromFnResult, IsFromFnResultFrom, IsMapOf, MapsFrom}
use Rattle.std.specs.Fn.{Called, Mut}

module _ {F B : Type 0} (g : Mut F (ℕ × Unit {0}) B) (v : ℕ → B) (f : F) (m : ℕ) (call : (i : ℕ) (y : B) (f' : F) → i < m → Called g f (i, tt) y f' → (y ≡ v i) × (f' ≡ f)) (ys : List B) where
  made_from : (n i : ℕ) → i + n ≤ m → IsFromFnResultFrom g f ys i n → (k : ℕ) (d : B) → i ≤ k → k < i + n → get_or ys k d ≡ v k
  made_from zero i h all k d low high = absurd (omega arith)
  made_from (suc n) i h all k d low high =
      let here = call i all.1 all.0 (omega arith) all.3 in
      elim (cases_eq k i) [
        | inl e ↦ rw e (all.2.1 d ∙ here.0)
        | inr ne ↦ made_from n (i + 1) (omega arith) (subst (λ (q : F). IsFromFnResultFrom g q ys (i + 1) n) here.1 all.4) k d (omega arith) (omega arith)
      ]

-- the elements of an array that `array::from_fn` makes by a closure that changes nothing
pub made_by : {F B : Type 0} {g : Mut F (ℕ × Unit {0}) B} {f : F} {ys : List B} {n : ℕ} → IsFromFnResult g f ys n → (v : ℕ → B) → ((i : ℕ) (y : B) (f' : F) → i < n → Called g f (i, tt) y f' → (y ≡ v i) × (f' ≡ f)) → (k : ℕ) (d : B) → k < n → get_or ys k d ≡ v k
made_by {g = g} {f = f} {ys = ys} {n = n} h v call k d low = made_from g v f n call ys n 0 (omega arith) h.each k d (omega arith) (omega arith)

module _ {F A B : Type 0} (g : Mut F (A × Unit {0}) B) (v : A → B) (f : F) (xs : List A) (call : (i : ℕ) (x : A) (y : B) (f' : F) → IsElementAt xs i x → Called g f (x, tt) y f' → (y ≡ v x) × (f' ≡ f)) (ys : List B) where
  mapped_from : (n i : ℕ) → MapsFrom g f xs ys i n → (k : ℕ) (d : A) (e : B) → i ≤ k → k < i + n → get_or ys k e ≡ v (get_or xs k d)
  mapped_from zero i all k d e low high = absurd (omega arith)
  mapped_from (suc n) i all k d e low high =
      let here = call i all.1 all.2 all.0 all.3 all.5 in
      elim (cases_eq k i) [
        | inl at ↦ rw at (all.4.1 e ∙ here.0 ∙ ap v (sym (all.3.1 d)))
        | inr ne ↦ mapped_from n (i + 1) (subst (λ (q : F). MapsFrom g q xs ys (i + 1) n) here.1 all.6) k d e (omega arith) (omega arith)
      ]

-- the array that an array's `map` makes by such a closure
pub mapped_by : {F A B : Type 0} {g : Mut F (A × Unit {0}) B} {f : F} {xs : List A} {ys : List B} {n : ℕ} → IsMapOf g f xs ys n → (v : A → B) → ((i : ℕ) (x : A) (y : B) (f' : F) → IsElementAt xs i x → Called g f (x, tt) y f' → (y ≡ v x) × (f' ≡ f)) → A → length xs ≡ n → ys ≡ map v xs
mapped_by {g = g} {f = f} {xs = xs} {ys = ys} {n = n} h v call d long =
    same_lists ys (map v xs) (h.long ∙ sym long ∙ sym (length-map xs v)) (λ k e low. mapped_from g v f xs call ys n 0 h.each k d e (omega arith) (omega (arith, h.long)) ∙ sym (get_or-map v xs k d e (omega (arith, h.long))))
