use Rattle.std.proofs.Common.{◌≡◌, length, take}
use Rattle.hash.specs.Sha256.{words}
use Rattle.hash.proofs.blocks.first_words.Given as goal

abbrev pub invariant-loop-t : goal.invariant-loop-t
invariant-loop-t l = (take l.t l.w ≡ words l.t l.block) × (length l.w ≡ 64)
