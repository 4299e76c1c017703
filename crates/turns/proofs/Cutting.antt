use Rattle.std.proofs.Common.{◌≡◌, ℕ, zero, suc, ◌+◌, ◌-◌, ◌*◌, ◌^◌, ◌<◌, ◌≤◌, List, length, get_or, take, drop, sym, refl, ap, ◌∙◌, arith, length-drop, zero-add, add-one}
use Rattle.std.specs.Int.{w32, w64, from_be_bytes, byte_worth, sum_through}
use Rattle.std.proofs.lemmas.List.{take_all, drop-drop, get_or-take, get_or-drop, length-take}
use Rattle.std.proofs.lemmas.List.Sums.{fold_more}
use Rattle.std.proofs.Math.Nat.{pow-succ'}
use Rattle.turns.specs.Bytes.{big_endian}
use Rattle.turns.specs.Layout.{parts_of, docket_of, position_of}

worth : (k x : ℕ) → byte_worth k x ≡ x * 256 ^ k
worth zero x = omega arith
worth (suc k) x = refl

shifted : (a x p : ℕ) → a * (256 * p) + x * p ≡ (a * 256 + x) * p
shifted a x p = grind arith

-- the value of bytes as std has it and as the definitions have it
module _ (xs : List ℕ) (n : ℕ) (long : length xs ≡ suc n) where
  step : (i : ℕ) → i ≤ n → big_endian (take (suc i) xs) ≡ big_endian (take i xs) * 256 + get_or xs i 0
  step i h = ap (λ k. big_endian (take k xs)) (sym (add-one i)) ∙ fold_more (λ a x. a * 256 + x) 0 xs i 0 (omega arith)

  so_far : (j : ℕ) → j ≤ n → sum_through (λ i. byte_worth (n - i) (get_or xs i 0)) j ≡ big_endian (take (suc j) xs) * 256 ^ (n - j)
  so_far zero h = worth (n - 0) (get_or xs 0 0) ∙ ap (λ v. v * 256 ^ (n - 0)) (sym (step 0 h ∙ zero-add (get_or xs 0 0)))
  so_far (suc j) h =
      let one_less : n - j ≡ suc (n - suc j) = omega arith in
      let power = ap (λ k. 256 ^ k) one_less ∙ pow-succ' 256 (n - suc j) in
      rw (so_far j (omega arith), worth (n - suc j) (get_or xs (suc j) 0), step (suc j) h, power) (shifted (big_endian (take (suc j) xs)) (get_or xs (suc j) 0) (256 ^ (n - suc j)))

  pub number : sum_through (λ i. byte_worth (n - i) (get_or xs i 0)) n ≡ big_endian xs
  number =
      let none : n - n ≡ 0 = omega arith in
      so_far n (omega arith) ∙ rw (none, take_all (suc n) xs (omega arith)) (omega arith)

-- a part of `n` bytes is cut off the front
abbrev pub Cut : ℕ → List ℕ → List ℕ → List ℕ → Type 0
Cut n xs part rest = (part ≡ take n xs) × (rest ≡ drop n xs) × (length rest + n ≡ length xs)

module _ (bytes : List ℕ) where
  -- what is cut off behind the first `front` bytes
  behind : {xs part rest : List ℕ} (front n : ℕ) → xs ≡ drop front bytes → Cut n xs part rest → (part ≡ take n (drop front bytes)) × (rest ≡ drop (front + n) bytes)
  behind front n known cut = (cut.0 ∙ ap (take n) known, cut.1 ∙ ap (drop n) known ∙ drop-drop n front bytes)

  at : (one_byte : List ℕ) (k : ℕ) → k < 4 → one_byte ≡ take 4 (drop 9 bytes) → get_or one_byte k 0 ≡ get_or bytes (9 + k) 0
  at one_byte k h known = ap (λ xs. get_or xs k 0) known ∙ get_or-take 4 (drop 9 bytes) k 0 h ∙ get_or-drop 9 bytes k 0

  -- what is cut off behind the mark, and what is read from it
  pub parts_are : {mark docket one_byte r1 r2 r3 : List ℕ} {number : ℕ} → Cut 5 bytes mark r1 → Cut 4 r1 docket r2 → Cut 4 r2 one_byte r3
      → number ≡ from_be_bytes w32 docket
      → record {
        docket = number;
        at_match = get_or one_byte 0 0;
        code = get_or one_byte 1 0;
        turn = get_or one_byte 2 0;
        kind = get_or one_byte 3 0;
      } ≡ parts_of bytes
  unfolding docket_of
  parts_are {mark} {docket} {one_byte} {r1} m d s e =
      let d' = behind 5 4 m.1 d in
      let s' = behind 9 4 d'.1 s in
      let n = number docket 3 (omega (arith, ap length d.0, length-take 4 r1)) ∙ ap big_endian d'.0 in
      let k0 = at one_byte 0 (omega arith) s'.0 in
      let k1 = at one_byte 1 (omega arith) s'.0 in
      let k2 = at one_byte 2 (omega arith) s'.0 in
      let k3 = at one_byte 3 (omega arith) s'.0 in
      cc

  -- what is cut off last, and what is read from it
  pub position_is : {head seat0 seat1 last r3 r4 content : List ℕ} {n0 n1 : ℕ} → Cut 13 bytes head r3 → Cut 8 r3 seat0 r4 → Cut 8 r4 seat1 last → length last ≡ 67
      → n0 ≡ from_be_bytes w64 seat0 → n1 ≡ from_be_bytes w64 seat1 → content ≡ last
      → record { amounts = record { seat0 = n0; seat1 = n1 }; «data» = content } ≡ position_of bytes
  unfolding position_of
  position_is {head} {seat0} {seat1} {last} {r3} {r4} h a b long e0 e1 f =
      let a' = behind 13 8 h.1 a in
      let b' = behind 21 8 a'.1 b in
      let n0 = number seat0 7 (omega (arith, ap length a.0, length-take 8 r3)) ∙ ap big_endian a'.0 in
      let n1 = number seat1 7 (omega (arith, ap length b.0, length-take 8 r4)) ∙ ap big_endian b'.0 in
      let x : last ≡ take 67 (drop 29 bytes) = b'.1 ∙ sym (take_all 67 (drop 29 bytes) (omega (arith, length-drop 29 bytes))) in
      cc
