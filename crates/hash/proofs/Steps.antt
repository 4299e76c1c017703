-- One step of each recursion of the definition, as the loops take it.
use Rattle.std.proofs.Common.{◌≡◌, ℕ, zero, suc, ◌+◌, ◌-◌, ◌*◌, ◌/◌, ◌<◌, ◌≤◌, List, [], ◌∷◌, ◌++◌, length, get_or, take, drop, set, fold, w32, sym, refl, ap, ◌∙◌, add-zero, add-one, arith, length-drop}
use Rattle.std.specs.List.{zip}
use Rattle.std.specs.Simd.{first_chunks}
use Rattle.std.specs.Int.{from_be_bytes}
use Rattle.std.proofs.lemmas.List.{take_more_set, length-take-le, get_or-take, get_or-drop, take_all}
use Rattle.std.proofs.lemmas.List.Sums.{fold_more, fold-append}
use Rattle.std.proofs.lemmas.Slice.Zip.{length-zip, get_or-zip}
use Rattle.hash.proofs.Chunks.{chunk_at}
use Rattle.hash.specs.Sha256.{add, sigma_0, sigma_1, word, words, next, more, extend, round, rounds, round_constants}

word_of : (n t : ℕ) (b : List ℕ) → t < n → from_be_bytes w32 (get_or (first_chunks 4 n b) t []) ≡ word t b
unfolding word
word_of n t b lt =
    let byte = λ (j : ℕ) (l : j < 4). ap (λ q. get_or q j 0) (chunk_at 4 n t b lt) ∙ get_or-take 4 (drop (4 * t) b) j 0 l ∙ get_or-drop (4 * t) b j 0 in
    rw (byte 0 (omega arith), byte 1 (omega arith), byte 2 (omega arith), byte 3 (omega arith), add-zero)

pub words_more : (n : ℕ) (b : List ℕ) → words (n + 1) b ≡ words n b ++ word n b ∷ []
unfolding words
words_more n b = rw add-one

pub words_step : (w b : List ℕ) (quads : List (List ℕ)) (n t x : ℕ) → t < length w → t < n → quads ≡ first_chunks 4 n b
    → x ≡ from_be_bytes w32 (get_or quads t []) → take t w ≡ words t b → take (t + 1) (set w t x) ≡ words (t + 1) b
words_step w b quads n t x high lt all now before =
    take_more_set w t x high
    ∙ ap (λ v. v ++ x ∷ []) before
    ∙ ap (λ y. words t b ++ y ∷ []) (now ∙ ap (λ qs. from_be_bytes w32 (get_or qs t [])) all ∙ word_of n t b lt)
    ∙ sym (words_more t b)

pub extend_more : (k : ℕ) (w : List ℕ) → extend (k + 1) w ≡ more (extend k w)
unfolding extend
extend_more k w = rw add-one

-- the word at place t, from those before it
abbrev pub follows : List ℕ → ℕ → ℕ
follows w t = add (add (add (sigma_1 (get_or w (t - 2) 0)) (get_or w (t - 7) 0)) (sigma_0 (get_or w (t - 15) 0))) (get_or w (t - 16) 0)

next_is : (w : List ℕ) (t : ℕ) → 16 ≤ t → t ≤ length w → next (take t w) ≡ follows w t
unfolding next
next_is w t low high =
    let n : length (take t w) ≡ t = length-take-le t w high in
    let a : t - 2 < t = omega arith in
    let b : t - 7 < t = omega arith in
    let c : t - 15 < t = omega arith in
    let d : t - 16 < t = omega arith in
    rw (n, get_or-take t w (t - 2) 0 a, get_or-take t w (t - 7) 0 b, get_or-take t w (t - 15) 0 c, get_or-take t w (t - 16) 0 d)

pub extended : (w first : List ℕ) (t n x : ℕ) → n ≡ t + 1 → 16 ≤ t → t < length w → x ≡ follows w t → take t w ≡ extend (t - 16) first
    → take n (set w t x) ≡ extend (n - 16) first
unfolding more
extended w first t n x past low high word same =
    let e : n - 16 ≡ t - 16 + 1 = omega arith in
    let le : t ≤ length w = omega arith in
    ap (λ k. take k (set w t x)) past
    ∙ take_more_set w t x high
    ∙ ap (λ y. take t w ++ y ∷ []) (word ∙ sym (next_is w t low le))
    ∙ ap more same
    ∙ sym (ap (λ k. extend k first) e ∙ extend_more (t - 16) first)

-- one round, with its constant and its word, and a round for each of some pairs of these
abbrev pub round_of : List ℕ → ℕ × ℕ → List ℕ
round_of v p = round p.0 p.1 v

abbrev pub rounds_of : List ℕ → List ℕ × List ℕ → List ℕ
rounds_of v p = fold round_of v (zip p.0 p.1)

zip_nil : (ks : List ℕ) → zip {X = ℕ} ks [] ≡ []
zip_nil [] = refl
zip_nil (k ∷ ks) = refl

zip_split : (n : ℕ) (ks ws : List ℕ) → zip (take n ks) (take n ws) ++ zip (drop n ks) (drop n ws) ≡ zip ks ws
zip_split zero ks ws = refl
zip_split (suc n) [] ws = refl
zip_split (suc n) (k ∷ ks) (w ∷ ws) = ap (λ ps. (k, w) ∷ ps) (zip_split n ks ws)
zip_split (suc n) (k ∷ ks) [] = zip_nil (drop n ks)

joined : (n : ℕ) (ks ws v : List ℕ) → length ks ≡ 8 * n → length ws ≡ 8 * n
    → fold rounds_of v (zip (first_chunks 8 n ks) (first_chunks 8 n ws)) ≡ fold round_of v (zip ks ws)
joined zero [] ws v k w = refl
joined zero (x ∷ ks) ws v k w = absurd (omega arith)
joined (suc n) ks ws v k w =
    joined n (drop 8 ks) (drop 8 ws) (rounds_of v (take 8 ks, take 8 ws)) (simp length-drop (omega arith)) (simp length-drop (omega arith))
    ∙ sym (fold-append round_of v (zip (take 8 ks) (take 8 ws)) (zip (drop 8 ks) (drop 8 ws)))
    ∙ ap (fold round_of v) (zip_split 8 ks ws)

pub rounds_in_eights : (ks ws v : List ℕ) → length ks ≡ 64 → length ws ≡ 64
    → fold rounds_of v (zip (first_chunks 8 (length ks / 8) ks) (first_chunks 8 (length ws / 8) ws)) ≡ fold round_of v (zip ks ws)
rounds_in_eights ks ws v k w =
    let m : length ks / 8 ≡ 8 = omega arith in
    let n : length ws / 8 ≡ 8 = omega arith in
    rw (m, n) (joined 8 ks ws v k w)

so_far : (w v : List ℕ) (t : ℕ) → t ≤ 64 → length w ≡ 64 → fold round_of v (take t (zip round_constants w)) ≡ rounds w t v
unfolding rounds
so_far w v zero le long = refl
so_far w v (suc t) le long =
    let i : t < length (zip round_constants w) = simp length-zip (omega arith) in
    let j : t < length w = omega arith in
    let le : t ≤ 64 = omega arith in
    ap (λ k. fold round_of v (take k (zip round_constants w))) (sym (add-one t))
    ∙ fold_more round_of v (zip round_constants w) t (0, 0) i
    ∙ ap (round_of (fold round_of v (take t (zip round_constants w)))) (get_or-zip round_constants w t (0, 0) (omega arith) j)
    ∙ ap (round (get_or round_constants t 0) (get_or w t 0)) (so_far w v t le long)

pub rounds_in_pairs : (w v : List ℕ) → length w ≡ 64 → fold round_of v (zip round_constants w) ≡ rounds w 64 v
rounds_in_pairs w v long =
    let le : length (zip round_constants w) ≤ 64 = simp length-zip (omega arith) in
    ap (fold round_of v) (sym (take_all 64 (zip round_constants w) le)) ∙ so_far w v 64 (omega arith) long
