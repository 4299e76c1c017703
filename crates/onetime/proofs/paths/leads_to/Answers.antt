use Rattle.std.proofs.Common.{ℕ, ◌+◌, ◌-◌, ◌/◌, ◌<◌, List, [], length, get_or, ap, ◌∙◌, arith, rules}
use Rattle.std.proofs.lemmas.List.{get_or-drop, get_or-replicate, get_or-take}
use Rattle.onetime.specs.Blocks.{hash_at}
use Rattle.onetime.specs.Chains.{walk}
use Rattle.onetime.specs.Digits.{digit}
use Rattle.onetime.specs.Hashes.{leaf}
use Rattle.onetime.specs.Trees.{climb}
use Rattle.onetime.proofs.Runs.{flattened, hash_chunk}
use Rattle.onetime.proofs.Siblings.{climb_same}
use Rattle.onetime.proofs.paths.leads_to.Goals as goal

pub returns : goal.returns
returns c =
    let s = c.args.signature.now in
    let turn = c.args.turn in
    let digest = c.args.digest.now in
    let hashes = c.as_chunks.result.0.now in
    let chains = c.unwrap.result.0.now in
    let path = c.whole.result.now in
    let first = rw c.unwrap.ensures at c.split_first_chunk.ensures.cases in
    let at = λ (i : ℕ) (low : i < 72). ap (λ (l : List (List ℕ)). get_or l i []) c.as_chunks.ensures.front ∙ hash_chunk (length s / 32) i s (omega (arith, c.told-signature)) in
    let chain = λ (i : ℕ) (low : i < 67). ap (λ (l : List (List ℕ)). get_or l i []) first.0 ∙ get_or-take 67 hashes i [] low ∙ at i (omega arith) in
    let sibling = λ (v : ℕ) (low : v < 5). ap (λ (l : List (List ℕ)). get_or l v []) (c.whole.ensures ∙ first.1) ∙ get_or-drop 67 hashes v [] ∙ at (67 + v) (omega arith) in
    let ends =
    flattened (λ i. walk turn i (digit digest i) (15 - digit digest i) (hash_at i s)) c.walked-ends.result 67 (search rules)
    (λ i low.
    c.walked-ends.ensures i low
    ∙ ap (λ (n : ℕ). walk turn i (get_or c.digits_of.result i 0) (n - get_or c.digits_of.result i 0) (get_or chains i [])) (get_or-replicate 67 i 15 0 low)
    ∙ ap (λ (ds : List ℕ). walk turn i (get_or ds i 0) (15 - get_or ds i 0) (get_or chains i [])) c.digits_of.ensures
    ∙ ap (walk turn i (digit digest i) (15 - digit digest i)) (chain i low)) in
    c.climb.ensures
    ∙ ap (λ (x : List ℕ). climb (λ v. get_or path v []) turn x 5) (c.leaf.ensures ∙ ap (leaf turn) ends)
    ∙ climb_same (λ v. get_or path v []) (λ v. hash_at (67 + v) s) turn _ 5 sibling
