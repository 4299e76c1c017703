use Rattle.std.specs.Prelude.{◌≡◌, ℕ, ◌+◌, ◌-◌, ◌≤◌, Bool, true, false, ◌&&◌, List, ◌++◌, length, is_some, Some, None, Option, ◌==◌, nat_le}
use Rattle.std.specs.Str.{bytes_eq}
use Rattle.onetime.specs.Blocks.{hash_at, joined_to}
use Rattle.onetime.specs.Chains.{finished_chains, leaf_of, signed_chains, walk}
use Rattle.onetime.specs.Hashes.{leaf}
use Rattle.onetime.specs.Trees.{climb, root, sibling}

-- the signature of a digest at a turn: the chains at their digits, and the siblings of the Merkle path
abbrev pub signature : List ℕ → ℕ → List ℕ → List ℕ
signature secret turn digest = signed_chains secret turn digest ++ joined_to (sibling secret turn) 5

-- what a signature leads to: its chains walked on to their ends, the leaf of those, and up its path
abbrev pub leads_to : ℕ → List ℕ → List ℕ → List ℕ
leads_to turn digest s = climb (λ level. hash_at (67 + level) s) turn (leaf turn (finished_chains turn digest s)) 5

-- a public key, where there is one, is where a signature leads
abbrev pub is_root : Option (List ℕ) → List ℕ → Bool
is_root None top = false
is_root (Some public) top = bytes_eq top public

-- what is accepted under a public key
abbrev pub accepted_by : Option (List ℕ) → ℕ → List ℕ → List ℕ → Bool
accepted_by public turn digest s =
    is_some public && (nat_le turn 31 && (length digest == 32 && (length s == 2304 && is_root public (leads_to turn digest s))))

-- a chain walked to its digit and then on to the end is the chain walked to the end
abbrev pub ChainsMeet : Type 0
ChainsMeet = (turn i digit : ℕ) (start : List ℕ) → digit ≤ 15 → walk turn i digit (15 - digit) (walk turn i 0 digit start) ≡ walk turn i 0 15 start

-- a leaf with its five siblings leads to the root
abbrev pub PathsLeadUp : Type 0
PathsLeadUp = (secret : List ℕ) (turn : ℕ) → turn ≤ 31 → climb (sibling secret turn) turn (leaf_of secret turn) 5 ≡ root secret

-- every signature that a secret makes is accepted under the root of its tree
abbrev pub SignaturesAccepted : Type 0
SignaturesAccepted = (secret digest : List ℕ) (turn : ℕ) → turn ≤ 31 → length digest ≡ 32 → accepted_by (Some (root secret)) turn digest (signature secret turn digest) ≡ true
