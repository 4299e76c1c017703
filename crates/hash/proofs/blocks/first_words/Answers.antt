use Rattle.std.proofs.Common.{◌/◌, length, refl, arith}
use Rattle.std.proofs.lemmas.List.{length-set}
use Rattle.hash.specs.Sha256.{words}
use Rattle.hash.proofs.Steps.{words_step}
use Rattle.hash.proofs.blocks.first_words.Goals as goal

pub loop-t-init : goal.loop-t-init
unfolding words
loop-t-init c = (refl, refl)

pub loop-t-preserved : goal.loop-t-preserved
loop-t-preserved c = (
  words_step c.loop-t.w c.args.block.now c.as_chunks.result.0.now (length c.args.block.now / 4) c.loop-t.t c.from_be_bytes.result (omega arith)
      (omega arith) c.as_chunks.ensures.front c.from_be_bytes.ensures c.loop-t.invariant.0,
  simp length-set c.loop-t.invariant.1,
)
