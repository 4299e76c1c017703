use Rattle.std.proofs.Common.{◌≡◌, ℕ, ◌+◌, ◌*◌, true, ◌&&◌, eqb, List, ◌∷◌, ◌++◌, length, get_or, take, drop, replicate, sym, refl, ap, ◌∙◌, arith}
use lib.Count.{ones, ones_in}
use Rattle.std.proofs.lemmas.List.{take_at, take_all, drop_at, drop-drop, get_or-append_right}
use Rattle.std.proofs.lemmas.Slice.Eq.{bytes_eq-Decides}
use Rattle.std.specs.Str.{bytes_eq}
use Rattle.hash.specs.Sha256.{sha_256, sha_256_length}
use Rattle.games.specs.Boards.{board_of, legal_board, clean, holds_line, marks, ends, mark_stakes}
use Rattle.games.specs.Throws as T
use Rattle.games.specs.Throws.{is_throw, winnings, result}
use Rattle.games.specs.Stakes.{moves}
use Rattle.turns.specs.Bytes.{all_zero}
use Rattle.games.specs.Examples.{WorkedExamples, reveal}

same : (xs : List ℕ) → bytes_eq xs xs ≡ true
same xs = (bytes_eq-Decides xs xs).1 refl

-- data whose commitment is `word`
module _ (phase : ℕ) (word rest : List ℕ) (long : length word ≡ 32) where
  holds : T.commitment (phase ∷ (word ++ rest)) ≡ word
  unfolding T.commitment
  holds = take_at word rest 32 long

  behind : (k : ℕ) → drop (32 + k) (word ++ rest) ≡ drop k rest
  behind k = sym (drop-drop k 32 (word ++ rest)) ∙ ap (drop k) (drop_at word rest 32 long)

  at : (k : ℕ) → get_or (word ++ rest) (32 + k) 0 ≡ get_or rest k 0
  at k = rw (get_or-append_right word rest 32 (32 + k) 0 long (omega arith)) (ap (λ i. get_or rest i 0) (omega arith))

-- the first throw over the second, with its salt
module _ (first second : ℕ) (salt : List ℕ) (short : length salt ≡ 32) where
  abbrev word : List ℕ
  word = sha_256 (first ∷ salt)

  abbrev before : List ℕ
  before = 2 ∷ (word ++ second ∷ replicate 33 0)

  abbrev after : List ℕ
  after = 3 ∷ (word ++ second ∷ first ∷ salt)

  long : length word ≡ 32
  long = sha_256_length (first ∷ salt)

  clean_before : T.clean before ≡ true
  unfolding T.clean
  clean_before = ap (λ x. all_zero (take 33 x)) (behind 2 word (second ∷ replicate 33 0) long 1)

  clean_after : T.clean after ≡ true
  unfolding T.clean
  clean_after = refl

  committed_before : T.commitment before ≡ word
  committed_before = holds 2 word (second ∷ replicate 33 0) long

  committed_after : T.commitment after ≡ word
  committed_after = holds 3 word (second ∷ first ∷ salt) long

  second_before : get_or before 33 0 ≡ second
  second_before = at 2 word (second ∷ replicate 33 0) long 0

  second_after : get_or after 33 0 ≡ second
  second_after = at 3 word (second ∷ first ∷ salt) long 0

  first_after : get_or after 34 0 ≡ first
  first_after = at 3 word (second ∷ first ∷ salt) long 1

  salt_after : T.salt after ≡ salt
  salt_after = ap (take 32) (behind 3 word (second ∷ first ∷ salt) long 2) ∙ take_all 32 salt (omega arith)

  word_kept : T.keeps_word after ≡ true
  unfolding T.keeps_word
  word_kept =
      ap (λ x. bytes_eq (sha_256 (x ∷ T.salt after)) (T.commitment after)) first_after
      ∙ ap (λ x. bytes_eq (sha_256 (first ∷ x)) (T.commitment after)) salt_after
      ∙ ap (bytes_eq word) committed_after ∙ same word

  -- all that the rule looks at
  pub revealed : (a0 a1 : ℕ) → reveal first second salt a0 a1
      ≡ (eqb second second && is_throw second && is_throw first && true && moves 6 (winnings (result first second) * 2) (record { seat0 = 4; seat1 = 6 }) (record { seat0 = a0; seat1 = a1 }))
  revealed a0 a1 = simp (clean_before, clean_after, committed_before, committed_after, second_before, second_after, first_after, word_kept, same word)

pub worked : WorkedExamples
unfolding ones ones_in board_of legal_board clean holds_line marks ends mark_stakes
worked =
    record {
      first_mark = refl;
      first_mark_unpaid = refl;
      full_board = refl;
      ninth_mark_wins = refl;
      line_is_no_draw = refl;
      paper_on_rock = λ salt short. revealed 2 1 salt short 8 2;
      a_tie = λ salt short. revealed 2 2 salt short 6 4;
      rock_on_paper = λ salt short. revealed 1 2 salt short 4 6;
      game_at_25 = refl;
      no_game_at_26 = refl;
    }
