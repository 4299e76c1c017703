use Rattle.std.proofs.Common.{◌≡◌, ℕ, zero, suc, ◌+◌, List, length, refl, add-zero, add_assoc, add-suc}
use Rattle.hash.specs.Sha256.{sha_256_length}
use Rattle.onetime.specs.Chains.{chain_at, walk}
use Rattle.onetime.specs.Hashes.{chain_start}

module _ (turn i : ℕ) where
  -- a chain walked to a position and then on is the chain walked all the way
  pub walk_on : (from m n : ℕ) (value : List ℕ) → walk turn i (from + m) n (walk turn i from m value) ≡ walk turn i from (m + n) value
  unfolding walk
  walk_on from m zero value = simp add-zero
  walk_on from m (suc n) value = rw (add-suc, walk_on from m n value, add_assoc) refl

  pub walk_length : (from n : ℕ) (value : List ℕ) → length value ≡ 32 → length (walk turn i from n value) ≡ 32
  unfolding walk
  walk_length from zero value h = h
  walk_length from (suc n) value h = sha_256_length _

pub chain_length : (secret : List ℕ) (turn i position : ℕ) → length (chain_at secret turn i position) ≡ 32
chain_length secret turn i position = walk_length turn i 0 position (chain_start secret turn i) (sha_256_length _)
