use Rattle.std.specs.Prelude.{ℕ, zero, suc, ◌+◌, ◌*◌, List, [], ◌++◌}
use Rattle.std.specs.List.{between}

-- f 0, f 1 and so on, n of them, joined
unfoldable pub joined_to : (ℕ → List ℕ) → ℕ → List ℕ
joined_to f zero = []
joined_to f (suc n) = joined_to f n ++ f n

-- hash number i of a run of hashes, 32 bytes each
abbrev pub hash_at : ℕ → List ℕ → List ℕ
hash_at i bytes = between (32 * i) (32 * i + 32) bytes
