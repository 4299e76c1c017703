use Rattle.std.specs.Prelude.{ℕ, ◌+◌, ◌*◌, ◌%◌, Bool, cond, ◌&&◌, ◌==◌, nat_le}
use Rattle.turns.specs.declared.game.Step.{Step}
use Rattle.turns.specs.declared.state.Amounts.{Amounts}

-- a round leaves phase 0 with a turn of at most 16, and where both seats have the stake
abbrev pub may_begin : ℕ → ℕ → Amounts → Bool
may_begin turn stake before = nat_le turn 16 && nat_le stake before.seat0 && nat_le stake before.seat1

-- what the mover of a turn has, and what the other seat has
abbrev pub mover_first : ℕ → Amounts → ℕ × ℕ
mover_first turn a = cond (turn % 2 == 0) (a.seat0, a.seat1) (a.seat1, a.seat0)

-- so much moves from the other seat, which must have it, to the mover of the later turn
abbrev pub moves : ℕ → ℕ → Amounts → Amounts → Bool
moves turn much before after =
    cond (turn % 2 == 0)
    (after.seat0 == before.seat0 + much && before.seat1 == after.seat1 + much)
    (after.seat1 == before.seat1 + much && before.seat0 == after.seat0 + much)

-- a game of rounds allows a step of its code that has the right data and moves the right stakes
abbrev pub rounds_lawful : ℕ → (Step → Bool) → (Step → ℕ) → Step → Bool
rounds_lawful code shape stakes step =
    (step.code == code) && shape step && moves step.turn (stakes step * step.stake) step.before.amounts step.after.amounts
