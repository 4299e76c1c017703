use Rattle.std.proofs.Common.{length, ◌/◌, ◌∙◌, rules}
use Rattle.std.specs.Simd.{first_chunks}
use Rattle.hash.proofs.Folds.{fold_of_pairs}
use Rattle.hash.proofs.Steps.{rounds_of, rounds_in_eights}
use Rattle.hash.proofs.blocks.all_rounds.Goals as goal

pub returns : goal.returns
returns c =
    let ks = c.args.ks.now in
    let ws = c.args.ws.now in
    fold_of_pairs rounds_of (first_chunks 8 (length ks / 8) ks) (first_chunks 8 (length ws / 8) ws) (search rules) (search rules) c.fold.ensures.ran
    (λ v x r q k. search rules)
    ∙ rounds_in_eights ks ws c.args.v (search rules) (search rules)
