use Rattle.std.specs.Prelude.{ℕ, ◌+◌, ◌*◌, Bool, List, fold, ◌==◌}
use Rattle.std.specs.List.{list_all}

-- there is no byte but zero
abbrev pub all_zero : List ℕ → Bool
all_zero bytes = list_all (λ x. x == 0) bytes

-- the number that bytes spell, highest byte first
abbrev pub big_endian : List ℕ → ℕ
big_endian bytes = fold (λ a x. a * 256 + x) 0 bytes
