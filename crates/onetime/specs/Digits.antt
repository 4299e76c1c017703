use Rattle.std.specs.Prelude.{ℕ, ◌-◌, ◌/◌, ◌%◌, List, [], ◌∷◌, ◌++◌, sum_by, slice_index}

-- the four-bit digits of bytes, the high half of each byte first
abbrev pub nibbles : List ℕ → List ℕ
nibbles [] = []
nibbles (b ∷ bs) = b / 16 % 16 ∷ (b % 16 ∷ nibbles bs)

-- how far the digits are from the last position of their chains, in all
abbrev pub digit_sum : List ℕ → ℕ
digit_sum digits = sum_by (λ d. 15 - d) digits

-- three four-bit digits of a number, highest first
abbrev pub last_digits : ℕ → List ℕ
last_digits n = n / 256 % 16 ∷ (n / 16 % 16 ∷ (n % 16 ∷ []))

-- the digits of a digest, one for each chain
unfoldable pub digits_of : List ℕ → List ℕ
digits_of digest = nibbles digest ++ last_digits (digit_sum (nibbles digest))

abbrev pub digit : List ℕ → ℕ → ℕ
digit digest i = slice_index (digits_of digest) i
