use Rattle.std.specs.Prelude.{◌≡◌, Bool, true, false, Option, MatchOption}

-- what is read of data: a value with this fact where the test holds, none where it does not
abbrev pub ReadIf : {A : Type 0} → Bool → Option A → (A → Type 0) → Type 0
ReadIf test answer Fact = MatchOption answer (test ≡ false) (λ x. (test ≡ true) × Fact x)
