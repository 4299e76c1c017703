use Rattle.std.specs.Prelude.{ℕ, ◌%◌, Bool, cond, ◌&&◌, Some, None, Option, ◌==◌, nat_le}
use Rattle.turns.specs.declared.state.Kind.{Kind}
use Rattle.turns.specs.declared.state.Kind.TheVariants as K
use Rattle.turns.specs.declared.state.Seat.{Seat}
use Rattle.turns.specs.declared.state.Seat.TheVariants as S

-- the seat that moves at a turn
abbrev pub seat_at : ℕ → Seat
seat_at turn = cond (turn % 2 == 0) S.Zero S.One

abbrev pub seat_number : Seat → ℕ
seat_number S.Zero = 0
seat_number S.One = 1

abbrev pub kind_number : Kind → ℕ
kind_number K.PreFund = 0
kind_number K.PostFund = 1
kind_number K.Game = 2
kind_number K.Conclude = 3

abbrev pub within : ℕ → ℕ → ℕ → Bool
within low high n = nat_le low n && nat_le n high

-- the kind that a byte names at a turn, if it fits that turn
abbrev pub kind_at : ℕ → ℕ → Option Kind
kind_at turn byte =
    cond (byte == 0 && within 0 1 turn) (Some K.PreFund)
    (cond (byte == 1 && within 2 3 turn) (Some K.PostFund)
    (cond (byte == 2 && within 4 25 turn) (Some K.Game)
    (cond (byte == 3 && within 1 31 turn) (Some K.Conclude)
    None)))
