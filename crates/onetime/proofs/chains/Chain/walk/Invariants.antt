use Rattle.std.proofs.Common.{◌≡◌, ◌-◌, ◌≤◌}
use Rattle.onetime.specs.Chains.{walk}
use Rattle.onetime.proofs.chains.Chain.walk.Given as goal

-- walked as far as the position
abbrev pub invariant-loop-position : goal.invariant-loop-position
invariant-loop-position l = (l.value ≡ walk l.self.turn l.self.number l.from (l.position - l.from) l.initial.value) × (l.position - l.from ≤ l.to - l.from)
