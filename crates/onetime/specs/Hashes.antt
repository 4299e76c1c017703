use Rattle.std.specs.Prelude.{ℕ, List, ◌∷◌, ◌++◌}
use Rattle.hash.specs.Sha256.{sha_256}

-- The four hashes of the one-time scheme, each set apart by its first byte.
-- where chain i of a turn starts
abbrev pub chain_start : List ℕ → ℕ → ℕ → List ℕ
chain_start secret turn i = sha_256 (0 ∷ (turn ∷ (i ∷ secret)))

-- one step of a chain, from a position
abbrev pub chain_step : ℕ → ℕ → ℕ → List ℕ → List ℕ
chain_step turn i position value = sha_256 (1 ∷ (turn ∷ (i ∷ (position ∷ value))))

-- a leaf, of the ends of a turn's chains
abbrev pub leaf : ℕ → List ℕ → List ℕ
leaf turn ends = sha_256 (2 ∷ (turn ∷ ends))

-- a node over two of a level
abbrev pub node : ℕ → List ℕ → List ℕ → List ℕ
node level left right = sha_256 (3 ∷ (level ∷ (left ++ right)))
