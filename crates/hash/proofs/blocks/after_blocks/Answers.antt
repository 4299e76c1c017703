use Rattle.std.proofs.Common.{rules}
use Rattle.std.proofs.lemmas.Iterator.{YieldsList-from_slice}
use Rattle.std.proofs.lemmas.Iterator.Consumers.{fold_from_yields_List}
use Rattle.hash.specs.Sha256.{compress}
use Rattle.hash.proofs.blocks.after_blocks.Goals as goal

pub returns : goal.returns
returns c =
    fold_from_yields_List _ compress _ _ c.fold.ensures.ran (YieldsList-from_slice c.args.blocks.now c.iter.ensures.rest)
    (λ v x r q k. search rules)
