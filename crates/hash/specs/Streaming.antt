-- What a `Sha256` stands for: a message that was fed to it.
use Rattle.std.specs.Prelude.{◌≡◌, ℕ, ◌*◌, ◌/◌, ◌%◌, ◌^◌, List, length, take, drop}
use Rattle.hash.specs.declared.stream.Sha256.{Sha256}
use Rattle.hash.specs.Sha256.{chained, start}

-- the bytes past the whole blocks of m
abbrev pub tail : List ℕ → List ℕ
tail m = drop (64 * (length m / 64)) m

-- s is what stands after the bytes m were fed, in whatever pieces
pub record Fed (s : Sha256) (m : List ℕ) : Type 0 where
  -- the hash value is that of the whole blocks of m
  pub hashed : s.value ≡ chained start m
  -- the buffer begins with the bytes past them
  pub held : take (s.count % 64) s.buffer ≡ tail m
  -- the count is the number of bytes, modulo 2^64
  pub counted : s.count ≡ length m % 2 ^ 64
