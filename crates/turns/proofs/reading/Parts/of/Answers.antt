use Rattle.std.proofs.Common.{rules}
use Rattle.turns.proofs.Cutting.{Cut, parts_are}
use Rattle.turns.proofs.reading.Parts.of.Goals as goal

pub returns : goal.returns
returns c =
    let mark : Cut 5 c.args.bytes.now c.unwrap.result.0.now c.unwrap.result.1.now = search rules in
    let docket : Cut 4 c.unwrap.result.1.now c.unwrap-2.result.0.now c.unwrap-2.result.1.now = search rules in
    let one_byte : Cut 4 c.unwrap-2.result.1.now c.unwrap-3.result.0.now c.unwrap-3.result.1.now = search rules in
    parts_are c.args.bytes.now mark docket one_byte c.from_be_bytes.ensures
