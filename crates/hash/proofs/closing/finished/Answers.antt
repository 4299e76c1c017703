use Rattle.std.proofs.Common.{◌≡◌, ◌+◌, length, ap, ◌∙◌, arith}
use Rattle.hash.specs.Sha256.{chained, digest, zeros}
use Rattle.hash.proofs.Chains.{chained_blocks}
use Rattle.hash.proofs.Closings.{closed_is}
use Rattle.hash.proofs.Streams.{finished_is}
use Rattle.hash.proofs.closing.finished.Goals as goal

pub returns : goal.returns
returns c = λ m value rest count.
    let far : c.next_multiple_of-end.result ≡ length c.args.rest.now + 9 + zeros (length c.args.rest.now) = omega arith in
    let closed = closed_is c.args.rest.now c.args.count c.next_multiple_of-end.result c.copy_from_slice.new.self c.copy_from_slice-2.new.self c.requires far
    c.copy_from_slice.ensures.after (c.copy_from_slice-2.ensures.after ∙ c.to_be_bytes.ensures) in
    c.digest_of.ensures
    ∙ ap digest
    (c.after_blocks.ensures
    ∙ chained_blocks c.args.value _ c.as_chunks.result.0.now c.as_chunks.ensures.front
    ∙ ap (chained c.args.value) closed)
    ∙ finished_is c.args.value c.args.rest.now c.args.count m value rest count
