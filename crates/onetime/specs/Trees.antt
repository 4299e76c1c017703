use Rattle.std.specs.Prelude.{◌≡◌, ℕ, zero, suc, ◌+◌, ◌-◌, ◌*◌, ◌/◌, ◌%◌, ◌<◌, cond, List, [], ◌==◌, slice_index_or}
use Rattle.onetime.specs.declared.tree.Tree.{Tree}
use Rattle.onetime.specs.Chains.{leaf_of}
use Rattle.onetime.specs.Hashes.{node}

-- node i of a level of a secret's Merkle tree, whose leaves are level 0
unfoldable pub tree : List ℕ → ℕ → ℕ → List ℕ
tree secret zero i = leaf_of secret i
tree secret (suc level) i = node level (tree secret level (2 * i)) (tree secret level (2 * i + 1))

-- the root over the leaves of the turns 0 to 31
abbrev pub root : List ℕ → List ℕ
root secret = tree secret 5 0

-- which node of a level stands above the leaf of a turn; it is a left child where bit `level` of the turn is 0
unfoldable pub above : ℕ → ℕ → ℕ
above turn zero = turn
above turn (suc level) = above turn level / 2

-- the other child of the same parent
abbrev pub beside : ℕ → ℕ
beside i = cond (i % 2 == 0) (i + 1) (i - 1)

-- the sibling, at a level, of the node above the leaf of a turn
abbrev pub sibling : List ℕ → ℕ → ℕ → List ℕ
sibling secret turn level = tree secret level (beside (above turn level))

-- the parent of node i of a level and its sibling
abbrev pub parent : ℕ → ℕ → List ℕ → List ℕ → List ℕ
parent level i here other = cond (i % 2 == 0) (node level here other) (node level other here)

-- the Merkle path from the leaf of a turn, some levels up
unfoldable pub climb : (ℕ → List ℕ) → ℕ → List ℕ → ℕ → List ℕ
climb siblings turn bottom zero = bottom
climb siblings turn bottom (suc level) = parent level (above turn level) (climb siblings turn bottom level) (siblings level)

-- the first n nodes of a level of a secret's tree
abbrev pub Level : List ℕ → ℕ → ℕ → List (List ℕ) → Type 0
Level secret level n nodes = (i : ℕ) → i < n → slice_index_or nodes i [] ≡ tree secret level i

-- the nodes of a secret's tree, level by level
pub record Grown (secret : List ℕ) (t : Tree) : Type 0 where
  pub leaves : Level secret 0 32 t.leaves
  pub level_1 : Level secret 1 16 t.level_1
  pub level_2 : Level secret 2 8 t.level_2
  pub level_3 : Level secret 3 4 t.level_3
  pub level_4 : Level secret 4 2 t.level_4
  pub root : t.root ≡ root secret
