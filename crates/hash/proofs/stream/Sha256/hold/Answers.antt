use Rattle.std.proofs.Common.{rules}
use Rattle.hash.proofs.Streams.{held_fed}
use Rattle.hash.proofs.stream.Sha256.hold.Goals as goal

pub returns : goal.returns
returns c = λ m fed.
    rw c.fill-fill.ensures
    (held_fed c.args.self.now c.args.bytes.now c.copy_from_slice.new.self m (search rules) c.requires c.copy_from_slice.ensures.after fed)
