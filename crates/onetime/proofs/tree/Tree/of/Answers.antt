use Rattle.std.proofs.Common.{[], ◌∙◌, rules, lit<}
use Rattle.onetime.specs.Chains.{leaf_of}
use Rattle.onetime.proofs.Levels.{leaves_stand, level_up, over}
use Rattle.onetime.proofs.Made.{made_by}
use Rattle.onetime.proofs.tree.Tree.of.Goals as goal

pub returns : goal.returns
returns c =
    let secret = c.args.secret.now in
    let leaves = leaves_stand secret 32 _ (λ i low. made_by c.from_fn-leaves.ensures.items (leaf_of secret) (λ i y f' _ k. search rules) i [] low) in
    let level_1 = level_up secret 0 16 _ leaves _ _ (search rules) (search rules) (c.whole.ensures ∙ c.as_chunks.ensures.front) c.nodes_over-level_1.ensures in
    let level_2 = level_up secret 1 8 _ level_1 _ _ (search rules) (search rules) (c.whole-2.ensures ∙ c.as_chunks-2.ensures.front) c.nodes_over-level_2.ensures in
    let level_3 = level_up secret 2 4 _ level_2 _ _ (search rules) (search rules) (c.whole-3.ensures ∙ c.as_chunks-3.ensures.front) c.nodes_over-level_3.ensures in
    let level_4 = level_up secret 3 2 _ level_3 _ _ (search rules) (search rules) (c.whole-4.ensures ∙ c.as_chunks-4.ensures.front) c.nodes_over-level_4.ensures in
    record { leaves = leaves; level_1 = level_1; level_2 = level_2; level_3 = level_3; level_4 = level_4; root = c.node-root.ensures ∙ over secret 4 1 _ level_4 0 (lit< tt) }
