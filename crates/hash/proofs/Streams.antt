-- What each call does to the message that was fed.
use Rattle.std.proofs.Common.{◌≡◌, ℕ, ◌+◌, ◌-◌, ◌*◌, ◌/◌, ◌%◌, ◌^◌, ◌<◌, List, ◌++◌, length, take, drop, fold, refl, sym, ap, ◌∙◌, arith, rules, length-append, length-drop}
use native.Mathlib.Nat.{mod-add-mod}
use borrow.Rule.Slice.PartMut.{put_mid, post_of}
use Rattle.std.specs.Simd.{first_chunks}
use Rattle.std.proofs.lemmas.List.{take_all, append_assoc, take_at}
use Rattle.std.proofs.lemmas.Slice.{take-put_mid, overwrites}
use Rattle.hash.specs.declared.stream.Sha256.{Sha256}
use Rattle.hash.specs.Sha256.{chained, compress, digest, padding, sha_256, start, zeros}
use Rattle.hash.specs.Streaming.{Fed, tail}
use Rattle.hash.proofs.Chains.{chained_blocks, chained_more, chained_past_block, chained_short, tail_is, tail_length, tail_more, tail_past_block, tail_short}

-- more bytes come behind those that are held
fed_more : (s t : Sha256) (b m : List ℕ) → Fed s m → t.value ≡ chained s.value (tail m ++ b) → take (t.count % 64) t.buffer ≡ tail (tail m ++ b)
    → t.count ≡ (s.count + length b) % 2 ^ 64 → Fed t (m ++ b)
fed_more s t b m fed value held count = record {
  hashed = value ∙ ap (λ h. chained h (tail m ++ b)) fed.hashed ∙ sym (chained_more m b start);
  held = held ∙ sym (tail_more m b);
  counted =
      count ∙ ap (λ k. (k + length b) % 2 ^ 64) fed.counted ∙ mod-add-mod (length m) (2 ^ 64) (length b)
      ∙ ap (λ k. k % 2 ^ 64) (sym (length-append m b));
}

pub held_fed : (s : Sha256) (b ys m : List ℕ) → length s.buffer ≡ 64 → s.count % 64 + length b < 64 → ys ≡ b → Fed s m
    → Fed record {
      value = s.value;
      buffer = put_mid (s.count % 64) (s.count % 64 + length b - s.count % 64) s.buffer ys;
      count = (s.count + length b) % 2 ^ 64;
    } (m ++ b)
held_fed s b ys m long short same fed =
    let c = fed.counted in
    let y = ap length same in
    let t : length (tail m ++ b) < 64 = simp length-append (omega (arith, tail_length m b)) in
    fed_more s _ b m fed (sym (chained_short s.value (tail m ++ b) t))
    (take-put_mid (s.count % 64) (s.count % 64 + length b - s.count % 64) s.buffer ys ((s.count + length b) % 2 ^ 64 % 64) (omega arith) (omega arith)
    ∙ ap (λ x. x ++ ys) fed.held ∙ ap (λ x. tail m ++ x) same ∙ sym (tail_short (tail m ++ b) t))
    refl

-- bytes complete the block that is held, and whole blocks and a rest follow
pub filled_fed : (s : Sha256) (b first rest ys zs r : List ℕ) (blocks : List (List ℕ)) (m : List ℕ) → length s.buffer ≡ 64 → b ≡ first ++ rest
    → s.count % 64 + length first ≡ 64 → ys ≡ first → blocks ≡ first_chunks 64 (length rest / 64) rest → zs ≡ drop (length rest / 64 * 64) rest
    → r ≡ fold compress (compress s.value (put_mid (s.count % 64) (64 - s.count % 64) s.buffer ys)) blocks → Fed s m
    → Fed record {
      value = r;
      buffer = zs ++ post_of 0 (length zs) (put_mid (s.count % 64) (64 - s.count % 64) s.buffer ys);
      count = (s.count + length b) % 2 ^ 64;
    } (m ++ b)
filled_fed s b first rest ys zs r blocks m long split full same whole left after fed =
    let c = fed.counted in
    let y = ap length same in
    let block = put_mid (s.count % 64) (64 - s.count % 64) s.buffer ys in
    let all : length block ≡ 64 = search (rules, overwrites) in
    let held : block ≡ tail m ++ first =
    sym (take_all 64 block (omega arith))
    ∙ take-put_mid (s.count % 64) (64 - s.count % 64) s.buffer ys 64 (omega arith) (omega arith)
    ∙ ap (λ x. x ++ ys) fed.held
    ∙ ap (λ x. tail m ++ x) same in
    let joined : tail m ++ b ≡ block ++ rest =
    ap (λ x. tail m ++ x) split ∙ sym (append_assoc (tail m) first rest) ∙ ap (λ x. x ++ rest) (sym held) in
    let zl = simp length-drop at (ap length left) in
    let bl = ap length split ∙ length-append first rest in
    let n : (s.count + length b) % 2 ^ 64 % 64 ≡ length zs = omega arith in
    fed_more s _ b m fed
    (after ∙ chained_blocks (compress s.value block) rest blocks whole ∙ sym (chained_past_block block rest all s.value) ∙ ap (chained s.value) (sym joined))
    (ap (λ k. take k (zs ++ post_of 0 (length zs) block)) n
    ∙ take_at zs (post_of 0 (length zs) block) (length zs) refl
    ∙ left ∙ tail_is rest ∙ sym (tail_past_block block rest all) ∙ ap tail (sym joined))
    refl

padding_mod : (n : ℕ) → padding (n % 2 ^ 64) ≡ padding n
unfolding padding
padding_mod n =
    let z : zeros (n % 2 ^ 64) ≡ zeros n = omega arith in
    let e : 8 * (n % 2 ^ 64) % 2 ^ 64 ≡ 8 * n % 2 ^ 64 = omega arith in
    rw (z, e)

pub finished_is : (value part : List ℕ) (count : ℕ) (m : List ℕ) → value ≡ chained start m → part ≡ tail m → count ≡ length m % 2 ^ 64
    → digest (chained value (part ++ padding count)) ≡ sha_256 m
unfolding sha_256
finished_is value part count m v p k =
    ap (λ x. digest (chained x (part ++ padding count))) v
    ∙ ap (λ x. digest (chained (chained start m) (x ++ padding count))) p
    ∙ ap (λ x. digest (chained (chained start m) (tail m ++ x))) (ap padding k ∙ padding_mod (length m))
    ∙ ap digest (sym (chained_more m (padding (length m)) start))
