use Rattle.std.proofs.Common.{◌≡◌, ◌+◌, ◌-◌, ◌*◌, length, take}
use Rattle.hash.specs.Sha256.{words, extend}
use Rattle.hash.proofs.blocks.schedule.Given as goal

abbrev pub invariant-loop-row : goal.invariant-loop-row
invariant-loop-row l = (take (8 * l.row) l.w ≡ extend (8 * l.row - 16) (words 16 l.block)) × (length l.w ≡ 64)

abbrev pub invariant-loop-col : goal.invariant-loop-col
invariant-loop-col l = (take (8 * l.row + l.col) l.w ≡ extend (8 * l.row + l.col - 16) (words 16 l.block)) × (length l.w ≡ 64)
