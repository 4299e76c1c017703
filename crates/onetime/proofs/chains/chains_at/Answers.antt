use Rattle.std.proofs.Common.{[], get_or, rules}
use Rattle.onetime.specs.Chains.{chain_at}
use Rattle.onetime.proofs.Made.{made_by}
use Rattle.onetime.proofs.chains.chains_at.Goals as goal

pub returns : goal.returns
returns c = λ i low. made_by c.from_fn.ensures.items (λ i. chain_at c.args.secret.now c.args.turn i (get_or c.args.positions.now i 0)) (λ i y f' _ k. search rules) i [] low
