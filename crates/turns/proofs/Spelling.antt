use Rattle.std.proofs.Common.{◌≡◌, ℕ, zero, suc, ◌+◌, ◌*◌, ◌/◌, ◌%◌, ◌^◌, ◌<◌, List, [], ◌∷◌, ◌++◌, fold, sym, refl, ap, ◌∙◌, div-one, arith}
use Rattle.std.specs.Int.{w32, w64, to_be_bytes, bytes_high_first}
use Rattle.std.proofs.lemmas.List.{take_all}
use Rattle.std.proofs.Math.Arith.{mod-mul}
use Rattle.std.proofs.Math.Nat.{mod-eq_of_lt, pow-succ'}
use Rattle.turns.specs.Bytes.{big_endian}
use Rattle.turns.specs.Kinds.{kind_number}
use Rattle.turns.specs.Layout.{docket_of, position_of, state_of}
use Rattle.turns.specs.Written.{spelled, bytes_of, Writable}
use Rattle.turns.specs.declared.state.State.{State}

-- bytes as std spells them and as the definition does
pub high_first : (k n : ℕ) → bytes_high_first k n ≡ spelled k n
unfolding spelled
high_first zero n = refl
high_first (suc zero) n = ap (λ x. x % 256 ∷ []) (sym (div-one n))
high_first (suc (suc k)) n = ap (λ xs. n / 256 ^ suc k % 256 ∷ xs) (high_first (suc k) n)

positive : (k : ℕ) → 0 < 256 ^ k
positive zero = omega arith
positive (suc k) = omega (arith, positive k, pow-succ' 256 k)

parts : (a q p r : ℕ) → (a * 256 + q) * p + r ≡ a * (256 * p) + (q * p + r)
parts a q p r = grind arith

-- behind the value `a`, bytes that spell a number add its lowest bytes
behind : (k a n : ℕ) → fold (λ x y. x * 256 + y) a (spelled k n) ≡ a * 256 ^ k + n % 256 ^ k
unfolding spelled
behind zero a n = omega arith
behind (suc k) a n =
    let lowest = mod-mul n {m = 256} {c = 256 ^ k} (omega arith) (positive k) in
    rw (pow-succ' 256 k, lowest) (behind k (a * 256 + n / 256 ^ k % 256) n ∙ parts a (n / 256 ^ k % 256) (256 ^ k) (n % 256 ^ k))

-- bytes that spell a number have its value
read : (k n : ℕ) → n < 256 ^ k → big_endian (spelled k n) ≡ n
read k n h = omega (arith, behind k 0 n, mod-eq_of_lt h)

-- what is written of a state is read as that state
module _ (s : State) (w : Writable s) where
  same_docket : docket_of (bytes_of s) ≡ s.docket
  unfolding docket_of bytes_of spelled
  same_docket = read 4 s.docket w.docket

  same_position : position_of (bytes_of s) ≡ s.position
  unfolding position_of bytes_of spelled
  same_position =
      rw (read 8 s.position.amounts.seat0 w.seat0, read 8 s.position.amounts.seat1 w.seat1, take_all 67 s.position.«data» (omega arith))

  pub reads_back : state_of (bytes_of s) ≡ s
  unfolding bytes_of spelled
  reads_back = rw (same_docket, same_position, w.kind)

-- six parts spell a state, and are read as it
pub spells : (s : State) (docket seat0 seat1 content : List ℕ) (kind : ℕ) → docket ≡ to_be_bytes w32 s.docket → kind ≡ kind_number s.kind → seat0 ≡ to_be_bytes w64 s.position.amounts.seat0 → seat1 ≡ to_be_bytes w64 s.position.amounts.seat1 → content ≡ s.position.«data»
    → 70 ∷ 77 ∷ 83 ∷ 0 ∷ 1 ∷ (docket ++ s.at_match ∷ s.code ∷ s.turn ∷ kind ∷ (seat0 ++ (seat1 ++ content))) ≡ bytes_of s
unfolding bytes_of spelled
spells s docket seat0 seat1 content kind e k e0 e1 same =
    rw (e ∙ high_first 4 s.docket, k, e0 ∙ high_first 8 s.position.amounts.seat0, e1 ∙ high_first 8 s.position.amounts.seat1, same)
