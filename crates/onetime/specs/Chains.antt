use Rattle.std.specs.Prelude.{ℕ, zero, suc, ◌+◌, ◌-◌, List}
use Rattle.onetime.specs.Blocks.{hash_at, joined_to}
use Rattle.onetime.specs.Digits.{digit}
use Rattle.onetime.specs.Hashes.{chain_start, chain_step, leaf}

-- a value that stands in a Winternitz chain at a position, walked some steps on
unfoldable pub walk : ℕ → ℕ → ℕ → ℕ → List ℕ → List ℕ
walk turn i position zero value = value
walk turn i position (suc steps) value = chain_step turn i (position + steps) (walk turn i position steps value)

-- a chain of a secret at a position
abbrev pub chain_at : List ℕ → ℕ → ℕ → ℕ → List ℕ
chain_at secret turn i position = walk turn i 0 position (chain_start secret turn i)

-- the chains of a turn at the digits of a digest
abbrev pub signed_chains : List ℕ → ℕ → List ℕ → List ℕ
signed_chains secret turn digest = joined_to (λ i. chain_at secret turn i (digit digest i)) 67

-- the ends of the chains of a turn
abbrev pub chain_ends : List ℕ → ℕ → List ℕ
chain_ends secret turn = joined_to (λ i. chain_at secret turn i 15) 67

-- a signature's chains walked on from their digits to their ends
abbrev pub finished_chains : ℕ → List ℕ → List ℕ → List ℕ
finished_chains turn digest signature = joined_to (λ i. walk turn i (digit digest i) (15 - digit digest i) (hash_at i signature)) 67

-- the leaf of a turn
abbrev pub leaf_of : List ℕ → ℕ → List ℕ
leaf_of secret turn = leaf turn (chain_ends secret turn)
