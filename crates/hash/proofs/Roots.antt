-- Each table meets its rule, by one test over the whole table.
use Rattle.std.proofs.Common.{◌≡◌, ℕ, zero, suc, ◌+◌, ◌*◌, ◌^◌, ◌<◌, Bool, true, cond, ◌&&◌, ltb, leb, List, [], ◌∷◌, length, get_or, sym, refl, ap, ◌∙◌, subst, zero-add, rules}
use borrow.Author.Tests.{tests}
use Rattle.std.specs.List.{list_all, enumerate_from}
use Rattle.std.proofs.lemmas.List.Elements.{All-get_or}
use Rattle.std.proofs.lemmas.List.FromFn.{get_or-enumerate_from, length-enumerate_from}
use Rattle.std.proofs.lemmas.List.Sums.{AllPass-from_list_all}
use Rattle.hash.specs.Roots.{primes_below, prime_at, RootBits}
use Rattle.hash.specs.Sha256.{round_constants, start}

-- a test that passes at each entry and its place passes at the entry of place k
at : (p : ℕ × ℕ → Bool) (xs : List ℕ) → list_all p (enumerate_from 0 xs) ≡ true → (k : ℕ) → k < length xs → p (k, get_or xs k 0) ≡ true
at p xs t k lt =
    let n : k < length (enumerate_from 0 xs) = simp length-enumerate_from lt in
    subst (λ e. p e ≡ true) (get_or-enumerate_from 0 xs k (0, 0) lt ∙ ap (λ i. (i, get_or xs k 0)) (zero-add k))
    (All-get_or (λ e. p e ≡ true) (enumerate_from 0 xs) k (0, 0) n (AllPass-from_list_all p (enumerate_from 0 xs) t))

-- the whole part of the n-th root of p, if it is at most k
abbrev root : ℕ → ℕ → ℕ → ℕ
root n p zero = 0
root n p (suc k) = cond (leb (suc k ^ n) p) (suc k) (root n p k)

abbrev bits_of : ℕ → ℕ → ℕ → ℕ → Bool
bits_of n p x q =
    ltb x (2 ^ 32) && (leb ((q * 2 ^ 32 + x) ^ n) (p * 2 ^ (32 * n)) && ltb (p * 2 ^ (32 * n)) ((q * 2 ^ 32 + x + 1) ^ n))

bits_stand : (n p x q : ℕ) → bits_of n p x q ≡ true → RootBits n p x
bits_stand n p x q t = record {
  whole = q;
  fits = search (rules, tests);
  below = search (rules, tests);
  above = search (rules, tests);
}

primes : List ℕ
primes =
    2 ∷ 3 ∷ 5 ∷ 7 ∷ 11 ∷ 13 ∷ 17 ∷ 19 ∷ 23 ∷ 29 ∷ 31 ∷ 37 ∷ 41 ∷ 43 ∷ 47 ∷ 53
    ∷ 59 ∷ 61 ∷ 67 ∷ 71 ∷ 73 ∷ 79 ∷ 83 ∷ 89 ∷ 97 ∷ 101 ∷ 103 ∷ 107 ∷ 109 ∷ 113 ∷ 127 ∷ 131
    ∷ 137 ∷ 139 ∷ 149 ∷ 151 ∷ 157 ∷ 163 ∷ 167 ∷ 173 ∷ 179 ∷ 181 ∷ 191 ∷ 193 ∷ 197 ∷ 199 ∷ 211 ∷ 223
    ∷ 227 ∷ 229 ∷ 233 ∷ 239 ∷ 241 ∷ 251 ∷ 257 ∷ 263 ∷ 269 ∷ 271 ∷ 277 ∷ 281 ∷ 283 ∷ 293 ∷ 307 ∷ 311 ∷ []

primes_are : primes_below 312 ≡ primes
unfolding primes
primes_are = refl

prime_is : (i : ℕ) → get_or primes i 0 ≡ prime_at i
unfolding prime_at
prime_is i = ap (λ ps. get_or ps i 0) (sym primes_are)

passes : ℕ → ℕ × ℕ → Bool
passes n e = bits_of n (get_or primes e.0 0) e.1 (root n (get_or primes e.0 0) 20)

stands : (n i x : ℕ) → passes n (i, x) ≡ true → RootBits n (prime_at i) x
unfolding passes
stands n i x t =
    subst (λ p. RootBits n p x) (prime_is i) (bits_stand n (get_or primes i 0) x (root n (get_or primes i 0) 20) t)

pub round_constants_stand : (t : ℕ) → t < 64 → RootBits 3 (prime_at t) (get_or round_constants t 0)
unfolding passes primes
round_constants_stand t lt = stands 3 t (get_or round_constants t 0) (at (passes 3) round_constants refl t lt)

pub start_stands : (i : ℕ) → i < 8 → RootBits 2 (prime_at i) (get_or start i 0)
unfolding passes primes
start_stands i lt = stands 2 i (get_or start i 0) (at (passes 2) start refl i lt)
