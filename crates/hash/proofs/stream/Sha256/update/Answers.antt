use Rattle.std.proofs.Common.{ap, ◌∙◌, arith, rules, length, fold, sym}
use Rattle.hash.specs.Sha256.{compress}
use Rattle.hash.proofs.Streams.{filled_fed}
use Rattle.hash.proofs.stream.Sha256.update.Goals as goal

pub returns-else-bytes-fill : goal.returns-else-bytes-fill
returns-else-bytes-fill c = λ m fed.
    let zs = c.copy_from_slice-else-bytes-fill.ensures.after in
    rw (sym (ap length zs), c.fill-fill.ensures)
    (filled_fed c.args.self.now c.args.bytes.now c.split_at.result.0.now c.split_at.result.1.now c.copy_from_slice.new.self
    c.copy_from_slice-else-bytes-fill.new.self c.after_blocks-self.result c.as_chunks.result.0.now m (search rules)
    c.split_at.ensures.by_index.0 (omega arith) c.copy_from_slice.ensures.after c.as_chunks.ensures.front
    (zs ∙ c.as_chunks.ensures.back)
    (rw (← c.fill-fill.ensures) (c.after_blocks-self.ensures ∙ ap (λ h. fold compress h c.as_chunks.result.0.now) c.after_block.ensures)) fed)
