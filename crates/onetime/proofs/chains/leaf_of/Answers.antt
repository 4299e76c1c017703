use Rattle.std.proofs.Common.{ℕ, ap, ◌∙◌, rules}
use Rattle.std.proofs.lemmas.List.{get_or-replicate}
use Rattle.onetime.specs.Chains.{chain_at}
use Rattle.onetime.specs.Hashes.{leaf}
use Rattle.onetime.proofs.Runs.{flattened}
use Rattle.onetime.proofs.chains.leaf_of.Goals as goal

pub returns : goal.returns
returns c =
    let secret = c.args.secret.now in
    let turn = c.args.turn in
    c.leaf.ensures
    ∙ ap (leaf turn) (flattened (λ i. chain_at secret turn i 15) c.chains_at.result 67 (search rules) (λ i low. c.chains_at.ensures i low ∙ ap (λ (n : ℕ). chain_at secret turn i n) (get_or-replicate 67 i 15 0 low)))
