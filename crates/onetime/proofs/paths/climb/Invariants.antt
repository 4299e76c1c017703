use Rattle.std.proofs.Common.{◌≡◌, [], get_or}
use Rattle.onetime.specs.Trees.{climb}
use Rattle.onetime.proofs.paths.climb.Given as goal

-- the node of the path at the level
abbrev pub invariant-loop-level : goal.invariant-loop-level
invariant-loop-level l = l.here ≡ climb (λ level. get_or l.path level []) l.turn l.initial.here l.level
