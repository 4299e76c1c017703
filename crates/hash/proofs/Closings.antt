-- The last blocks of a message, and the bytes of its digest.
use Rattle.std.proofs.Common.{◌≡◌, ℕ, zero, suc, ◌+◌, ◌-◌, ◌*◌, ◌/◌, ◌%◌, ◌^◌, ◌<◌, ◌≤◌, List, [], ◌∷◌, ◌++◌, length, get_or, take, drop, set, replicate, refl, ap, ◌∙◌, div-one, w32, w64, arith, length-append}
use Rattle.std.specs.Int.{bytes_high_first, to_be_bytes}
use Rattle.std.specs.List.{flat_map}
use borrow.Rule.Slice.PartMut.{put_mid, post_of}
use Rattle.std.proofs.Math.Seq.{take-append-add}
use Rattle.std.proofs.lemmas.List.{append_assoc, drop-replicate, take-replicate, set_at, length-replicate}
use Rattle.std.proofs.lemmas.Slice.{take-put_mid}
use Rattle.hash.specs.Sha256.{big_endian, digest, padding, zeros}

zeros_past : (k n : ℕ) → k < n → drop {A = ℕ} k (replicate n 0) ≡ 0 ∷ replicate (n - 1 - k) 0
zeros_past k n lt =
    let s : n - k ≡ suc (n - 1 - k) = omega arith in
    rw (drop-replicate, s)

pub marked_is : (n : ℕ) (rest ys : List ℕ) → ys ≡ rest → length rest < n
    → set (ys ++ post_of 0 (length rest) (replicate n 0)) (length rest) 128 ≡ rest ++ 128 ∷ replicate (n - 1 - length rest) 0
marked_is n rest ys same lt =
    ap (λ y. set (y ++ post_of 0 (length rest) (replicate n 0)) (length rest) 128) same
    ∙ ap (λ t. set (rest ++ t) (length rest) 128) (zeros_past (length rest) n lt)
    ∙ set_at rest 0 (replicate (n - 1 - length rest) 0) 128 (length rest) refl

high_first : (k x : ℕ) → bytes_high_first k x ≡ big_endian k x
unfolding big_endian
high_first zero x = refl
high_first (suc zero) x = rw div-one
high_first (suc (suc k)) x = ap (λ t. x / 256 ^ suc k % 256 ∷ t) (high_first (suc k) x)

pub closed_is : (rest : List ℕ) (count end : ℕ) (ys zs : List ℕ) → length rest ≡ count % 64 → end ≡ length rest + 9 + zeros (length rest)
    → ys ≡ rest → zs ≡ to_be_bytes w64 (count * 8 % 2 ^ 64)
    → take end (put_mid (end - 8) (end - (end - 8)) (set (ys ++ post_of 0 (length rest) (replicate 128 0)) (length rest) 128) zs) ≡ rest ++ padding count
unfolding padding
closed_is rest count end ys zs fill far same bytes =
    let z : zeros (length rest) ≡ zeros count = omega arith in
    let a : end - 8 ≡ length rest + suc (zeros count) = omega arith in
    let eight = ap length bytes in
    let n : end ≡ end - 8 + length zs = omega arith in
    let lt : length rest < 128 = omega arith in
    let marked = marked_is 128 rest ys same lt in
    let last = set (ys ++ post_of 0 (length rest) (replicate 128 0)) (length rest) 128 in
    let l : length last ≡ 128 = ap length marked ∙ simp (length-append, length-replicate) (omega arith) in
    let le : end - 8 ≤ length last = omega arith in
    let few : zeros count ≤ 127 - length rest = omega arith in
    let times : count * 8 % 2 ^ 64 ≡ 8 * count % 2 ^ 64 = omega arith in
    let front : take (end - 8) last ≡ rest ++ 128 ∷ replicate (zeros count) 0 =
    ap (take (end - 8)) marked
    ∙ ap (λ k. take k (rest ++ 128 ∷ replicate (127 - length rest) 0)) a
    ∙ take-append-add rest (128 ∷ replicate (127 - length rest) 0) (suc (zeros count))
    ∙ ap (λ t. rest ++ 128 ∷ t) (take-replicate (zeros count) (127 - length rest) 0 few) in
    take-put_mid (end - 8) (end - (end - 8)) last zs end n le
    ∙ ap (λ t. t ++ zs) front
    ∙ append_assoc rest (128 ∷ replicate (zeros count) 0) zs
    ∙ ap (λ t. rest ++ 128 ∷ (replicate (zeros count) 0 ++ t)) (bytes ∙ high_first 8 (count * 8 % 2 ^ 64) ∙ ap (big_endian 8) times)

pub digest_is : (value : List ℕ) (quads : List (List ℕ)) → length quads ≡ length value
    → ((i : ℕ) → i < length value → get_or quads i [] ≡ to_be_bytes w32 (get_or value i 0)) → flat_map (λ x. x) quads ≡ digest value
unfolding digest
digest_is [] [] long each = refl
digest_is [] (quad ∷ quads) long each = absurd (omega arith)
digest_is (x ∷ value) [] long each = absurd (omega arith)
digest_is (x ∷ value) (quad ∷ quads) long each =
    ap (λ q. q ++ flat_map (λ x. x) quads) (each 0 (omega arith) ∙ high_first 4 x)
    ∙ ap (λ t. big_endian 4 x ++ t) (digest_is value quads (omega arith) (λ i lt. each (suc i) (omega arith)))
