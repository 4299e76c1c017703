use Rattle.std.proofs.Common.{List, ℕ, [], get_or, rules}
use Rattle.onetime.specs.Hashes.{node}
use Rattle.onetime.proofs.Made.{mapped_by}
use Rattle.onetime.proofs.tree.nodes_over.Goals as goal

pub returns : goal.returns
returns g c =
    mapped_by c.map.ensures.items (λ (pair : List (List ℕ)). node c.args.level (get_or pair 0 []) (get_or pair 1 [])) (λ i x y f' at k. search rules) [] c.told-below
