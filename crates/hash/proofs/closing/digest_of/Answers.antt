use Rattle.std.proofs.Common.{◌∙◌, [], rules}
use Rattle.hash.proofs.Closings.{digest_is}
use Rattle.hash.proofs.closing.digest_of.Goals as goal

pub returns : goal.returns
returns c =
    let same = (rw c.unwrap.ensures at c.as_array.ensures.cases).same in
    same ∙ c.as_flattened.ensures.value
    ∙ digest_is c.args.value c.map-bytes.result (search rules) (λ i lt. let k = c.map-bytes.ensures.items.at i 0 [] (search rules) in search rules)
