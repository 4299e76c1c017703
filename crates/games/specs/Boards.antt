use Rattle.std.specs.Prelude.{ℕ, ◌+◌, ◌*◌, Bool, true, false, cond, ◌&&◌, ◌||◌, List, [], ◌∷◌, ◌==◌, bit_and, count_ones, nat_lt, slice_index}
use Rattle.std.specs.List.{between, list_any}
use Rattle.turns.specs.Bytes.{all_zero}
use Rattle.turns.specs.declared.game.Step.{Step}
use Rattle.games.specs.declared.board.Board.{Board}
use Rattle.games.specs.declared.board.Outcome.{Outcome}
use Rattle.games.specs.declared.board.Outcome.TheVariants as O
use Rattle.games.specs.declared.ttt.Phase.{Phase}
use Rattle.games.specs.declared.ttt.Phase.TheVariants as P
use Rattle.games.specs.Stakes.{may_begin, rounds_lawful}

-- Tic-Tac-Toe. Phases: 0 no round, 1 a round goes on, 2 it has ended. A mask has bit i where cell i, 0 to 8, is marked.
abbrev pub phase : List ℕ → ℕ
phase d = slice_index d 0

abbrev pub phase_number : Phase → ℕ
phase_number P.Nothing = 0
phase_number P.GoesOn = 1
phase_number P.Ended = 2

unfoldable pub board_of : List ℕ → Board
board_of d = record { crosses = slice_index d 1 * 256 + slice_index d 2; noughts = slice_index d 3 * 256 + slice_index d 4 }

-- nine cells, and none of them marked by both
unfoldable pub legal_board : Board → Bool
legal_board x = nat_lt x.crosses 512 && nat_lt x.noughts 512 && bit_and x.crosses x.noughts == 0

-- the phase is one of the game's, and the bytes that it does not use are zero
unfoldable pub clean : List ℕ → Bool
clean d =
    cond (phase d == 0) (all_zero (between 1 67 d))
    (nat_lt (phase d) 3 && all_zero (between 5 67 d))

-- the three cells of each line
abbrev pub lines : List ℕ
lines = 7 ∷ 56 ∷ 448 ∷ 73 ∷ 146 ∷ 292 ∷ 273 ∷ 84 ∷ []

unfoldable pub holds_line : ℕ → Bool
holds_line mask = list_any (λ line. bit_and mask line == line) lines

-- crosses move where both have equally many marks
abbrev pub crosses_move : Board → Bool
crosses_move x = count_ones x.crosses == count_ones x.noughts

-- the masks of a board: that of the side which is to move on x, and that of the other side
abbrev pub mover_first : Board → Board → ℕ × ℕ
mover_first x y = cond (crosses_move x) (y.crosses, y.noughts) (y.noughts, y.crosses)

-- every old mark is kept and there is one more
abbrev pub one_more : ℕ → ℕ → Bool
one_more old new = bit_and old new == old && count_ones new == count_ones old + 1

-- the side that is to move marks one cell, and the other side none
unfoldable pub marks : Board → Board → Bool
marks x y =
    cond (crosses_move x)
    (one_more x.crosses y.crosses && x.noughts == y.noughts)
    (one_more x.noughts y.noughts && x.crosses == y.crosses)

-- the side that moved now holds a line
abbrev pub wins : Board → Board → Bool
wins x y = holds_line (cond (crosses_move x) y.crosses y.noughts)

-- all nine cells are marked
abbrev pub full : Board → Bool
full x = count_ones x.crosses + count_ones x.noughts == 9

-- a round ends with a line or a full board
unfoldable pub ends : Board → Board → Bool
ends x y = wins x y || full y

-- what a later mark moves: two stakes, but one for a draw, which is a full board without a line
unfoldable pub mark_stakes : Board → Board → ℕ
mark_stakes x y = cond (wins x y) 2 (cond (full y) 1 2)

-- which outcomes end a round, and what a later mark moves with each
abbrev pub is_end : Outcome → Bool
is_end O.Line = true
is_end O.Full = true
is_end O.GoesOn = false

abbrev pub stakes_of : Outcome → ℕ
stakes_of O.Line = 2
stakes_of O.Full = 1
stakes_of O.GoesOn = 2

-- the right data for a step, apart from what it moves
abbrev pub board_shape : Step → Bool
board_shape step =
    let b = step.before.«data» in
    let d = step.after.«data» in
    clean b && clean d && legal_board (board_of b) && legal_board (board_of d)
    && cond (phase b == 0) (phase d == 1 && marks (board_of b) (board_of d) && may_begin step.turn step.stake step.before.amounts)
    (cond (phase b == 1) (marks (board_of b) (board_of d) && phase d == cond (ends (board_of b) (board_of d)) 2 1)
    (phase d == 0))

-- how many stakes a step moves to its mover
abbrev pub board_stakes : Step → ℕ
board_stakes step =
    let b = step.before.«data» in
    let d = step.after.«data» in
    cond (phase b == 0) 1
    (cond (phase b == 1) (mark_stakes (board_of b) (board_of d))
    0)

-- what Tic-Tac-Toe allows
abbrev pub board_lawful : Step → Bool
board_lawful = rounds_lawful 2 board_shape board_stakes
