use Rattle.std.proofs.Common.{◌≡◌, length, rules}
use Rattle.turns.proofs.Cutting.{Cut, position_is}
use Rattle.turns.proofs.reading.read_position.Goals as goal

pub returns : goal.returns
returns c =
    let head : Cut 13 c.args.bytes.now c.unwrap.result.0.now c.unwrap.result.1.now = search rules in
    let seat0 : Cut 8 c.unwrap.result.1.now c.unwrap-2.result.0.now c.unwrap-2.result.1.now = search rules in
    let seat1 : Cut 8 c.unwrap-2.result.1.now c.unwrap-3.result.0.now c.unwrap-3.result.1.now = search rules in
    let long : length c.unwrap-3.result.1.now ≡ 67 = search rules in
    let copied : c.unwrap-4.result.now ≡ c.unwrap-3.result.1.now = search rules in
    position_is c.args.bytes.now head seat0 seat1 long c.from_be_bytes.ensures c.from_be_bytes-2.ensures copied
