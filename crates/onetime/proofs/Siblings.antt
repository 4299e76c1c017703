use Rattle.std.proofs.Common.{◌≡◌, ℕ, zero, suc, ◌+◌, ◌-◌, ◌/◌, ◌%◌, ◌^◌, ◌<◌, eqb, List, sym, refl, ap, ◌∙◌, arith}
use Rattle.std.proofs.Math.Nat.{div-div-eq-div-mul, div-one, pow-suc}
use Rattle.std.proofs.lemmas.Bool.{cond-true, cond-false, eq-eqb, ne_eqb}
use Rattle.onetime.specs.Hashes.{node}
use Rattle.onetime.specs.Trees.{above, beside, climb, parent}

pub above_is : (turn v : ℕ) → above turn v ≡ turn / 2 ^ v
unfolding above
above_is turn zero = sym (div-one turn)
above_is turn (suc v) = ap (λ (n : ℕ). n / 2) (above_is turn v) ∙ div-div-eq-div-mul turn (2 ^ v) 2 ∙ ap (λ (n : ℕ). turn / n) (sym (pow-suc 2 v))

pub beside_even : (i : ℕ) → i % 2 ≡ 0 → beside i ≡ i + 1
beside_even i h = cond-true (eqb (i % 2) 0) (i + 1) (i - 1) (eq-eqb (i % 2) 0 h)

pub beside_odd : (i : ℕ) → (i % 2 ≡ 0 → ⊥) → beside i ≡ i - 1
beside_odd i h = cond-false (eqb (i % 2) 0) (i + 1) (i - 1) (ne_eqb (i % 2) 0 h)

pub climb_same : (siblings others : ℕ → List ℕ) (turn : ℕ) (bottom : List ℕ) (n : ℕ) → ((v : ℕ) → v < n → siblings v ≡ others v) → climb siblings turn bottom n ≡ climb others turn bottom n
unfolding climb
climb_same siblings others turn bottom zero same = refl
climb_same siblings others turn bottom (suc n) same =
    ap (λ (x : List ℕ). parent n (above turn n) x (siblings n)) (climb_same siblings others turn bottom n (λ v h. same v (omega arith)))
    ∙ ap (λ (x : List ℕ). parent n (above turn n) (climb others turn bottom n) x) (same n (omega arith))

pub parent_even : (v i : ℕ) (here other : List ℕ) → i % 2 ≡ 0 → parent v i here other ≡ node v here other
parent_even v i here other h = cond-true (eqb (i % 2) 0) (node v here other) (node v other here) (eq-eqb (i % 2) 0 h)

pub parent_odd : (v i : ℕ) (here other : List ℕ) → (i % 2 ≡ 0 → ⊥) → parent v i here other ≡ node v other here
parent_odd v i here other h = cond-false (eqb (i % 2) 0) (node v here other) (node v other here) (ne_eqb (i % 2) 0 h)
