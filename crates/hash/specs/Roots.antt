-- FIPS 180-4, 4.2.2 and 5.3.3: the round constants are the first 32 bits of the fractional parts of the cube roots of the first 64
-- primes, and the starting words those of the square roots of the first 8.
use Rattle.std.specs.Prelude.{◌≡◌, ℕ, zero, suc, ◌+◌, ◌-◌, ◌*◌, ◌%◌, ◌^◌, ◌<◌, ◌≤◌, Bool, true, false, cond, List, [], ◌∷◌, ◌++◌, length, Some, None, Option, ◌==◌, nat_lt, slice_index, refl}
use Rattle.hash.specs.Sha256.{round_constants, start}

-- none of the numbers 2, .., k + 1 divides n
abbrev pub undivided : ℕ → ℕ → Bool
undivided n zero = true
undivided n (suc k) = cond (n % (k + 2) == 0) false (undivided n k)

-- n is at least 2, and no number from 2 to n - 1 divides it
abbrev pub prime : ℕ → Bool
prime n = cond (nat_lt n 2) false (undivided n (n - 2))

-- the primes below n, in order
abbrev pub primes_below : ℕ → List ℕ
primes_below zero = []
primes_below (suc n) = cond (prime n) (primes_below n ++ n ∷ []) (primes_below n)

-- prime i, counted from 0; 311 is the last of the first 64
unfoldable pub prime_at : ℕ → ℕ
prime_at i = slice_index (primes_below 312) i

pub primes_count : length (primes_below 312) ≡ 64
primes_count = refl

-- x is the first 32 bits of the fractional part of the n-th root of p
pub record RootBits (n p x : ℕ) : Type 0 where
  -- the whole part of the root
  pub whole : ℕ
  pub fits : x < 2 ^ 32
  pub below : (whole * 2 ^ 32 + x) ^ n ≤ p * 2 ^ (32 * n)
  pub above : p * 2 ^ (32 * n) < (whole * 2 ^ 32 + x + 1) ^ n

-- entry i of a table of k words, by its rule: the bits of the n-th root of prime i
abbrev pub Entry : ℕ → ℕ → List ℕ → ℕ → Option ℕ → Type 0
Entry n k table i None = k ≤ i
Entry n k table i (Some x) = (i < k) × (x ≡ slice_index table i) × RootBits n (prime_at i) x

-- what the round constant of round t is, and starting word i
abbrev pub RoundConstant : ℕ → Option ℕ → Type 0
RoundConstant t r = Entry 3 64 round_constants t r

abbrev pub InitialWord : ℕ → Option ℕ → Type 0
InitialWord i r = Entry 2 8 start i r
