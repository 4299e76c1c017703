use Rattle.std.specs.Prelude.{◌≡◌, ℕ, ◌/◌, ◌%◌, Bool, true, false, List, ◌∷◌, ◌++◌, length, replicate, Some, None}
use Rattle.hash.specs.Sha256.{sha_256}
use Rattle.turns.specs.Kinds.{kind_at}
use Rattle.turns.specs.Lawful.{lawful_step}
use Rattle.turns.specs.declared.state.Kind.{Kind}
use Rattle.turns.specs.declared.state.Kind.TheVariants as K
use Rattle.turns.specs.declared.state.State.{State}
use Rattle.turns.specs.declared.state.Terms.{Terms}
use Rattle.games.specs.House.{house_lawful}

-- a match with dues (6, 4) and stake 2, and its states
module _ (code : ℕ) where
  abbrev pub terms : Terms
  terms = record { docket = 1; at_match = 0; code = code; dues = record { seat0 = 6; seat1 = 4 }; stake = 2 }

  abbrev pub state : ℕ → Kind → ℕ → ℕ → List ℕ → State
  state turn kind a0 a1 d =
      record {
        docket = 1;
        at_match = 0;
        code = code;
        turn = turn;
        kind = kind;
        position = record { amounts = record { seat0 = a0; seat1 = a1 }; «data» = d };
      }

  abbrev pub lawful : State → State → Bool
  lawful before after = lawful_step house_lawful terms before after

abbrev pub board : ℕ → ℕ → ℕ → List ℕ
board phase crosses noughts = phase ∷ crosses / 256 ∷ crosses % 256 ∷ noughts / 256 ∷ noughts % 256 ∷ replicate 62 0

-- from (4, 6), a ninth mark by seat 0
abbrev pub ninth : ℕ → ℕ → ℕ → ℕ → ℕ → Bool
ninth old new noughts a0 a1 = lawful 2 (state 2 11 K.Game 4 6 (board 1 old noughts)) (state 2 12 K.Game a0 a1 (board 2 new noughts))

-- from (4, 6), seat 0 shows the throw that it committed to over the second throw
abbrev pub reveal : ℕ → ℕ → List ℕ → ℕ → ℕ → Bool
reveal first second salt a0 a1 =
    lawful 1 (state 1 5 K.Game 4 6 (2 ∷ (sha_256 (first ∷ salt) ++ second ∷ replicate 33 0)))
    (state 1 6 K.Game a0 a1 (3 ∷ (sha_256 (first ∷ salt) ++ second ∷ first ∷ salt)))

pub record WorkedExamples : Type 0 where
  pub first_mark : lawful 2 (state 2 3 K.PostFund 6 4 (replicate 67 0)) (state 2 4 K.Game 8 2 (board 1 16 0)) ≡ true
  pub first_mark_unpaid : lawful 2 (state 2 3 K.PostFund 6 4 (replicate 67 0)) (state 2 4 K.Game 6 4 (board 1 16 0)) ≡ false
  pub full_board : ninth 99 355 156 6 4 ≡ true
  pub ninth_mark_wins : ninth 51 307 204 8 2 ≡ true
  pub line_is_no_draw : ninth 51 307 204 6 4 ≡ false
  pub paper_on_rock : (salt : List ℕ) → length salt ≡ 32 → reveal 2 1 salt 8 2 ≡ true
  pub a_tie : (salt : List ℕ) → length salt ≡ 32 → reveal 2 2 salt 6 4 ≡ true
  pub rock_on_paper : (salt : List ℕ) → length salt ≡ 32 → reveal 1 2 salt 4 6 ≡ true
  pub game_at_25 : kind_at 25 2 ≡ Some K.Game
  pub no_game_at_26 : kind_at 26 2 ≡ None
