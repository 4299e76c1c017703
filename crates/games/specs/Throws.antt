use Rattle.std.specs.Prelude.{ℕ, ◌+◌, ◌-◌, ◌%◌, Bool, cond, ◌&&◌, List, ◌∷◌, ◌==◌, slice_index}
use Rattle.std.specs.List.{between}
use Rattle.std.specs.Str.{bytes_eq}
use Rattle.hash.specs.Sha256.{sha_256}
use Rattle.turns.specs.Bytes.{all_zero}
use Rattle.turns.specs.Kinds.{within}
use Rattle.turns.specs.declared.game.Step.{Step}
use Rattle.games.specs.declared.rps.Phase.{Phase}
use Rattle.games.specs.declared.rps.Phase.TheVariants as P
use Rattle.games.specs.declared.rps.Throw.{Throw}
use Rattle.games.specs.declared.rps.Throw.TheVariants as H
use Rattle.games.specs.Stakes.{may_begin, rounds_lawful}

-- Rock-Paper-Scissors. Phases: 0 nothing, 1 the first throw is committed to, 2 the second throw is made, 3 the first is shown.
abbrev pub phase : List ℕ → ℕ
phase d = slice_index d 0

abbrev pub phase_number : Phase → ℕ
phase_number P.Nothing = 0
phase_number P.Committed = 1
phase_number P.Answered = 2
phase_number P.Shown = 3

unfoldable pub commitment : List ℕ → List ℕ
commitment d = between 1 33 d

abbrev pub second_throw : List ℕ → ℕ
second_throw d = slice_index d 33

abbrev pub first_throw : List ℕ → ℕ
first_throw d = slice_index d 34

abbrev pub salt : List ℕ → List ℕ
salt d = between 35 67 d

-- 1 rock, 2 paper, 3 scissors
abbrev pub is_throw : ℕ → Bool
is_throw x = within 1 3 x

abbrev pub throw_number : Throw → ℕ
throw_number H.Rock = 1
throw_number H.Paper = 2
throw_number H.Scissors = 3

-- the phase is one of the game's, and the bytes that it does not use are zero
unfoldable pub clean : List ℕ → Bool
clean d =
    cond (phase d == 0) (all_zero (between 1 67 d))
    (cond (phase d == 1) (all_zero (between 33 67 d))
    (cond (phase d == 2) (all_zero (between 34 67 d))
    (phase d == 3)))

-- throw and salt are what was committed to
unfoldable pub keeps_word : List ℕ → Bool
keeps_word d = bytes_eq (sha_256 (first_throw d ∷ salt d)) (commitment d)

-- the right data for a step, apart from what it moves
abbrev pub throws_shape : Step → Bool
throws_shape step =
    let b = step.before.«data» in
    let d = step.after.«data» in
    clean b && clean d
    && cond (phase b == 0) (phase d == 1 && may_begin step.turn step.stake step.before.amounts)
    (cond (phase b == 1) (phase d == 2 && bytes_eq (commitment d) (commitment b) && is_throw (second_throw d))
    (cond (phase b == 2)
    (phase d == 3 && bytes_eq (commitment d) (commitment b) && second_throw d == second_throw b && is_throw (second_throw d) && is_throw (first_throw d) && keeps_word d)
    (phase d == 0)))

-- 0 a tie, 1 the first throw wins, 2 the second wins
abbrev pub result : ℕ → ℕ → ℕ
result first second = (first + 3 - second) % 3

-- how many stakes the first thrower gets: its own back at a tie, both if it wins
abbrev pub winnings : ℕ → ℕ
winnings r = cond (r == 0) 1 (cond (r == 1) 2 0)

-- how many stakes a step moves to its mover
abbrev pub throws_stakes : Step → ℕ
throws_stakes step =
    let b = step.before.«data» in
    let d = step.after.«data» in
    cond (phase b == 1) 1
    (cond (phase b == 2) (winnings (result (first_throw d) (second_throw d)))
    0)

-- what Rock-Paper-Scissors allows
abbrev pub throws_lawful : Step → Bool
throws_lawful = rounds_lawful 1 throws_shape throws_stakes
