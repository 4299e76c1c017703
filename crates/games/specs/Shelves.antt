use Rattle.std.specs.Prelude.{ℕ, Bool, cond, ◌||◌}
use Rattle.turns.specs.declared.game.Step.{Step}

-- a shelf knows what either of its games knows
abbrev pub shelf_codes : (ℕ → Bool) → (ℕ → Bool) → ℕ → Bool
shelf_codes knows_a knows_b code = knows_a code || knows_b code

-- the first game answers for the codes that it knows, the second for the rest
abbrev pub shelf_lawful : (ℕ → Bool) → (says_a says_b : Step → Bool) → Step → Bool
shelf_lawful knows_a says_a says_b step = cond (knows_a step.code) (says_a step) (says_b step)
