-- A list that is cut into chunks.
use Rattle.std.proofs.Common.{◌≡◌, ℕ, zero, suc, ◌+◌, ◌*◌, ◌<◌, List, [], get_or, take, drop, ap, ◌∙◌, mul-zero, mul-suc, arith}
use Rattle.std.specs.Simd.{first_chunks}
use Rattle.std.proofs.lemmas.List.{drop-drop}

-- chunk i of the first m chunks of n
pub chunk_at : {X : Type 0} (n m i : ℕ) (xs : List X) → i < m → get_or (first_chunks n m xs) i [] ≡ take n (drop (n * i) xs)
chunk_at n zero i xs h = absurd (omega arith)
chunk_at n (suc m) zero xs h = simp mul-zero
chunk_at n (suc m) (suc i) xs h =
    let next : n + n * i ≡ n * suc i = omega (arith, mul-suc n i) in
    chunk_at n m i (drop n xs) (omega arith) ∙ ap (take n) (drop-drop (n * i) n xs ∙ ap (λ (k : ℕ). drop k xs) next)
