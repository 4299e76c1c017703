use Rattle.std.proofs.Common.{◌≡◌, ℕ, zero, suc, ◌*◌, ◌/◌, ◌%◌, ◌≤◌, List, [], ◌∷◌, ◌++◌, length, get_or, drop, map, refl, ap, ◌∙◌, subst, arith, lit<, lit≤}
use borrow.Rule.Slice.PartMut.{put_mid}
use Rattle.std.specs.List.{All, flat_map}
use Rattle.std.proofs.lemmas.Nat.{mod_below}
use Rattle.std.proofs.lemmas.List.{append-nil, drop_all, drop_at, get_or_default, take_at}
use Rattle.onetime.specs.Digits.{digit_sum, digits_of, last_digits, nibbles}

below_16 : (n : ℕ) → n % 16 ≤ 15
below_16 n = omega (arith, mod_below n 16 (lit< tt))

small_end : (n i : ℕ) → get_or (last_digits n) i 0 ≤ 15
small_end n zero = below_16 (n / 256)
small_end n (suc zero) = below_16 (n / 16)
small_end n (suc (suc zero)) = below_16 n
small_end n (suc (suc (suc i))) = omega arith

small_nibbles : (xs rest : List ℕ) → ((i : ℕ) → get_or rest i 0 ≤ 15) → (i : ℕ) → get_or (nibbles xs ++ rest) i 0 ≤ 15
small_nibbles [] rest h i = h i
small_nibbles (x ∷ xs) rest h zero = below_16 (x / 16)
small_nibbles (x ∷ xs) rest h (suc zero) = below_16 x
small_nibbles (x ∷ xs) rest h (suc (suc i)) = small_nibbles xs rest h i

-- every digit is the position of a chain
pub digits_small : (digest : List ℕ) (i : ℕ) → get_or (digits_of digest) i 0 ≤ 15
unfolding digits_of
digits_small digest i = small_nibbles digest (last_digits (digit_sum (nibbles digest))) (small_end (digit_sum (nibbles digest))) i

pub nibbles_small : (xs : List ℕ) → All (λ d. d ≤ 15) (nibbles xs)
nibbles_small xs k d low =
    let small = subst (λ (l : List ℕ). get_or l k 0 ≤ 15) (append-nil (nibbles xs)) (small_nibbles xs [] (λ i. lit≤ tt) k) in
    omega (arith, small, get_or_default (nibbles xs) k d 0 low)

-- the two digits of each byte, joined
pub nibbles_joined : (xs : List ℕ) → flat_map (λ x. x) (map (λ b. b / 16 % 16 ∷ (b % 16 ∷ [])) xs) ≡ nibbles xs
nibbles_joined [] = refl
nibbles_joined (x ∷ xs) = ap (λ (l : List ℕ). x / 16 % 16 ∷ (x % 16 ∷ l)) (nibbles_joined xs)

nibbles_length : (xs : List ℕ) → length (nibbles xs) ≡ 2 * length xs
nibbles_length [] = refl
nibbles_length (x ∷ xs) = omega (arith, nibbles_length xs)

-- the last three digits, written behind the 64 of the bytes
pub digits_written : (digest front back blank : List ℕ) → length digest ≡ 32 → length blank ≡ 3 → front ≡ nibbles digest → back ≡ last_digits (digit_sum (nibbles digest)) → put_mid 64 3 (front ++ blank) back ≡ digits_of digest
unfolding digits_of
digits_written digest front back blank long short p q =
    let whole : length front ≡ 64 = omega (arith, nibbles_length digest, ap length p) in
    ap (λ (x : List ℕ). x ++ (back ++ drop 3 (drop 64 (front ++ blank)))) (take_at front blank 64 whole)
    ∙ ap (λ (x : List ℕ). front ++ (back ++ drop 3 x)) (drop_at front blank 64 whole)
    ∙ ap (λ (x : List ℕ). front ++ (back ++ x)) (drop_all 3 blank (omega arith))
    ∙ ap (λ (x : List ℕ). front ++ x) (append-nil back)
    ∙ ap (λ (x : List ℕ). x ++ back) p
    ∙ ap (λ (x : List ℕ). nibbles digest ++ x) q
