-- The hash value of a message that is joined of two, and what stays past its whole blocks.
use Rattle.std.proofs.Common.{◌≡◌, ℕ, zero, suc, ◌+◌, ◌*◌, ◌/◌, ◌%◌, ◌<◌, ◌≤◌, List, [], ◌++◌, length, take, drop, sym, refl, ap, ◌∙◌, add-zero, add-suc, arith, length-append, length-drop, take-append-drop, fold}
use Rattle.std.specs.Simd.{first_chunks}
use Rattle.std.proofs.lemmas.List.{append_assoc, take-append-le, drop-append-le, drop-drop, drop_at, drop_all, take_all, length-take-le}
use Rattle.hash.specs.Sha256.{compress, chain, chained, block}
use Rattle.hash.specs.Streaming.{tail}

-- the first block stands before the others
chain_shift : (h m : List ℕ) (n : ℕ) → chain (compress h (take 64 m)) n (drop 64 m) ≡ chain h (suc n) m
chain_shift h m zero = refl
chain_shift h m (suc n) =
    let s : 64 + 64 * n ≡ 64 * suc n = omega arith in
    ap (λ x. compress x (block n (drop 64 m))) (chain_shift h m n)
    ∙ ap (λ x. compress (chain h (suc n) m) (take 64 x)) (drop-drop (64 * n) 64 m ∙ ap (λ k. drop k m) s)

chain_of_blocks : (h m : List ℕ) (n : ℕ) → fold compress h (first_chunks 64 n m) ≡ chain h n m
chain_of_blocks h m zero = refl
chain_of_blocks h m (suc n) = chain_of_blocks (compress h (take 64 m)) (drop 64 m) n ∙ chain_shift h m n

pub chained_blocks : (h m : List ℕ) (blocks : List (List ℕ)) → blocks ≡ first_chunks 64 (length m / 64) m → fold compress h blocks ≡ chained h m
chained_blocks h m blocks e = ap (fold compress h) e ∙ chain_of_blocks h m (length m / 64)

pub tail_is : (m : List ℕ) → drop (length m / 64 * 64) m ≡ tail m
tail_is m = let e : length m / 64 * 64 ≡ 64 * (length m / 64) = omega arith in rw e

-- the first n blocks are those of the front
chain_front : (h a b : List ℕ) (n : ℕ) → 64 * n ≤ length a → chain h n (a ++ b) ≡ chain h n a
chain_front h a b zero le = refl
chain_front h a b (suc n) le =
    let l : 64 * n ≤ length a = omega arith in
    let d : 64 ≤ length (drop (64 * n) a) = simp length-drop (omega arith) in
    let e : block n (a ++ b) ≡ block n a = rw (drop-append-le, take-append-le) in
    ap (λ x. compress x (block n (a ++ b))) (chain_front h a b n l) ∙ ap (compress (chain h n a)) e

chain_join : (h a b : List ℕ) (n k : ℕ) → length a ≡ 64 * n → chain h (n + k) (a ++ b) ≡ chain (chain h n a) k b
chain_join h a b n zero e =
    let le : 64 * n ≤ length a = omega arith in
    rw add-zero (chain_front h a b n le)
chain_join h a b n (suc k) e =
    let d : drop (64 * (n + k)) (a ++ b) ≡ drop (64 * k) b =
    let s : 64 * (n + k) ≡ 64 * n + 64 * k = omega arith in
    rw (s, ← drop-drop, drop_at a b (64 * n) e) in
    rw add-suc
    (ap (λ x. compress x (block (n + k) (a ++ b))) (chain_join h a b n k e)
    ∙ ap (λ x. compress (chain (chain h n a) k b) (take 64 x)) d)

module _ (m b : List ℕ) where
  abbrev n : ℕ
  n = length m / 64

  abbrev front : List ℕ
  front = take (64 * n) m

  front_length : length front ≡ 64 * n
  front_length = length-take-le (64 * n) m (omega arith)

  pub tail_length : length (tail m) ≡ length m % 64
  tail_length = simp length-drop (omega arith)

  whole : m ++ b ≡ front ++ (tail m ++ b)
  whole = ap (λ x. x ++ b) (sym (take-append-drop (64 * n) m)) ∙ append_assoc front (tail m) b

  blocks : length (m ++ b) / 64 ≡ n + length (tail m ++ b) / 64
  blocks = simp (length-append) (omega (arith, tail_length))

  pub chained_more : (h : List ℕ) → chained h (m ++ b) ≡ chained (chained h m) (tail m ++ b)
  chained_more h =
      ap (λ k. chain h k (m ++ b)) blocks
      ∙ ap (chain h (n + length (tail m ++ b) / 64)) whole
      ∙ chain_join h front (tail m ++ b) n (length (tail m ++ b) / 64) front_length
      ∙ ap (λ x. chain x (length (tail m ++ b) / 64) (tail m ++ b))
      (sym (chain_front h front (tail m) n (omega (arith, front_length))) ∙ ap (chain h n) (take-append-drop (64 * n) m))

  pub tail_more : tail (m ++ b) ≡ tail (tail m ++ b)
  tail_more =
      let k : ℕ = length (tail m ++ b) / 64 in
      let s : 64 * (length (m ++ b) / 64) ≡ 64 * n + 64 * (length (tail m ++ b) / 64) = omega (arith, blocks) in
      ap (λ x. drop x (m ++ b)) s
      ∙ sym (drop-drop (64 * (length (tail m ++ b) / 64)) (64 * n) (m ++ b))
      ∙ ap (λ x. drop (64 * (length (tail m ++ b) / 64)) (drop (64 * n) x)) whole
      ∙ ap (drop (64 * (length (tail m ++ b) / 64))) (drop_at front (tail m ++ b) (64 * n) front_length)

-- less than a block
pub chained_short : (h m : List ℕ) → length m < 64 → chained h m ≡ h
chained_short h m lt = let e : length m / 64 ≡ 0 = omega arith in rw e

pub tail_short : (m : List ℕ) → length m < 64 → tail m ≡ m
tail_short m lt = let e : 64 * (length m / 64) ≡ 0 = omega arith in rw e

-- a block, and what follows
module _ (a b : List ℕ) (whole : length a ≡ 64) where
  none : tail a ≡ []
  none = drop_all (64 * (length a / 64)) a (omega arith)

  pub chained_past_block : (h : List ℕ) → chained h (a ++ b) ≡ chained (compress h a) b
  chained_past_block h =
      let q : length a / 64 ≡ 1 = omega arith in
      let le : length a ≤ 64 = omega arith in
      chained_more a b h
      ∙ ap (λ x. chained (chained h a) (x ++ b)) none
      ∙ ap (λ x. chained x b) (ap (λ k. chain h k a) q ∙ ap (compress h) (take_all 64 a le))

  pub tail_past_block : tail (a ++ b) ≡ tail b
  tail_past_block = tail_more a b ∙ ap (λ x. tail (x ++ b)) none
