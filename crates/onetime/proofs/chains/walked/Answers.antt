use Rattle.std.proofs.Common.{ℕ, ◌-◌, [], get_or, rules}
use Rattle.onetime.specs.Chains.{walk}
use Rattle.onetime.proofs.Made.{made_by}
use Rattle.onetime.proofs.chains.walked.Goals as goal

pub returns : goal.returns
returns c =
    let from = λ (i : ℕ). get_or c.args.from.now i 0 in
    let to = λ (i : ℕ). get_or c.args.to.now i 0 in
    λ i low. made_by c.from_fn.ensures.items (λ i. walk c.args.turn i (from i) (to i - from i) (get_or c.args.values.now i [])) (λ i y f' _ k. search rules) i [] low
