use Rattle.std.proofs.Common.{◌≡◌, ℕ, zero, suc, ◌+◌, ◌-◌, ◌*◌, ◌<◌, ◌≤◌, List, [], ◌∷◌, ◌++◌, length, get_or, take, drop, map, sym, refl, ap, ◌∙◌, inl, inr, mul-suc, add-one, arith}
use Rattle.std.specs.List.{flat_map, range_with_len}
use Rattle.std.specs.Simd.{first_chunks}
use Rattle.std.proofs.lemmas.List.{append_assoc, append-nil, drop_at, get_or-drop, get_or-take, length-append, take_at}
use Rattle.std.proofs.lemmas.List.Concat.{flat_map-append}
use Rattle.std.proofs.lemmas.List.FromFn.{fill_by_all, map-range_with_len_more}
use Rattle.std.proofs.lemmas.Bool.{cases_order}
use Rattle.hash.proofs.Chunks.{chunk_at}
use Rattle.onetime.specs.Blocks.{hash_at, joined_to}

-- pair i of a list that is cut into pairs
pub pair_at : (m i j : ℕ) (xs : List (List ℕ)) → i < m → j < 2 → get_or (get_or (first_chunks 2 m xs) i []) j [] ≡ get_or xs (2 * i + j) []
pair_at m i j xs h small = ap (λ (p : List (List ℕ)). get_or p j []) (chunk_at 2 m i xs h) ∙ get_or-take 2 (drop (2 * i) xs) j [] small ∙ get_or-drop (2 * i) xs j []

-- hash i of a run of bytes that is cut into hashes
pub hash_chunk : (m i : ℕ) (bytes : List ℕ) → i < m → get_or (first_chunks 32 m bytes) i [] ≡ hash_at i bytes
hash_chunk m i bytes h =
    let size : 32 ≡ 32 * i + 32 - 32 * i = omega arith in
    chunk_at 32 m i bytes h ∙ ap (λ (n : ℕ). take n (drop (32 * i) bytes)) size

module _ (f : ℕ → List ℕ) where
  joined_flat : (n : ℕ) → flat_map (λ x. x) (map f (range_with_len 0 n)) ≡ joined_to f n
  unfolding joined_to
  joined_flat zero = refl
  joined_flat (suc n) =
      let more : map f (range_with_len 0 (suc n)) ≡ map f (range_with_len 0 n) ++ f n ∷ [] = ap (λ (m : ℕ). map f (range_with_len 0 m)) (sym (add-one n)) ∙ map-range_with_len_more f 0 n n (omega arith) in
      ap (flat_map (λ x. x)) more
      ∙ flat_map-append (λ x. x) (map f (range_with_len 0 n)) (f n ∷ [])
      ∙ ap (λ (x : List ℕ). x ++ (f n ++ [])) (joined_flat n)
      ∙ ap (λ (x : List ℕ). joined_to f n ++ x) (append-nil (f n))

  -- an array of hashes, as one run of bytes
  pub flattened : (xs : List (List ℕ)) (n : ℕ) → length xs ≡ n → ((i : ℕ) → i < n → get_or xs i [] ≡ f i) → flat_map (λ x. x) xs ≡ joined_to f n
  flattened xs n long each = ap (flat_map (λ x. x)) (fill_by_all f xs n [] long each) ∙ joined_flat n

  pub joined_same : (g : ℕ → List ℕ) (n : ℕ) → ((i : ℕ) → i < n → f i ≡ g i) → joined_to f n ≡ joined_to g n
  unfolding joined_to
  joined_same g zero same = refl
  joined_same g (suc n) same =
      ap (λ (x : List ℕ). x ++ f n) (joined_same g n (λ i h. same i (omega arith))) ∙ ap (λ (x : List ℕ). joined_to g n ++ x) (same n (omega arith))

  module _ (limit : ℕ) (long : (i : ℕ) → i < limit → length (f i) ≡ 32) where
    pub joined_length : (n : ℕ) → n ≤ limit → length (joined_to f n) ≡ 32 * n
    unfolding joined_to
    joined_length zero h = refl
    joined_length (suc n) h = length-append (joined_to f n) (f n) ∙ omega (arith, joined_length n (omega arith), long n (omega arith), mul-suc 32 n)

    at_last : (n : ℕ) (rest : List ℕ) → n < limit → hash_at n (joined_to f n ++ (f n ++ rest)) ≡ f n
    at_last n rest h =
        ap (λ (x : List ℕ). take (32 * n + 32 - 32 * n) x) (drop_at (joined_to f n) (f n ++ rest) (32 * n) (joined_length n (omega arith)))
        ∙ take_at (f n) rest (32 * n + 32 - 32 * n) (omega (arith, long n h))

    pub hash_at_joined : (n : ℕ) (rest : List ℕ) (i : ℕ) → n ≤ limit → i < n → hash_at i (joined_to f n ++ rest) ≡ f i
    unfolding joined_to
    hash_at_joined zero rest i _ h = absurd (omega arith)
    hash_at_joined (suc n) rest i l h =
        ap (hash_at i) (append_assoc (joined_to f n) (f n) rest)
        ∙ elim (cases_order i n) [
          | inl e ↦ rw e (at_last n rest (omega arith))
          | inr o ↦ elim o [ inl below ↦ hash_at_joined n (f n ++ rest) i (omega arith) below | inr above ↦ absurd (omega arith) ]
        ]
