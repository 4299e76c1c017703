use Rattle.std.proofs.Common.{rules}
use Rattle.hash.proofs.Folds.{fold_of_pairs}
use Rattle.hash.proofs.Steps.{round_of}
use Rattle.hash.proofs.blocks.eight_rounds.Goals as goal

pub returns : goal.returns
returns c =
    fold_of_pairs round_of c.args.given.0.now c.args.given.1.now (search rules) (search rules) c.fold.ensures.ran
    (λ v x r q k. search rules)
