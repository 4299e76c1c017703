-- Where throws are shown, both are ones.
use Rattle.std.proofs.Common.{◌≡◌, ℕ, Bool, true, cond, eqb}
use Rattle.std.proofs.lemmas.Bool.{and_parts}
use Rattle.turns.specs.declared.game.Step.{Step}
use Rattle.games.specs.Throws.{phase, first_throw, second_throw, is_throw, throws_shape}

-- what holds in phase 2
third : (p : ℕ) (v w x y : Bool) → p ≡ 2 → cond (eqb p 0) v (cond (eqb p 1) w (cond (eqb p 2) x y)) ≡ true → x ≡ true
third p v w x y e h = rw e at h

pub both_thrown : (step : Step) → throws_shape step ≡ true → phase step.before.«data» ≡ 2
    → (is_throw (first_throw step.after.«data») ≡ true) × (is_throw (second_throw step.after.«data») ≡ true)
both_thrown step shape answered =
    let shown = third _ _ _ _ _ answered (and_parts _ _ shape).1 in
    let first = and_parts _ _ (and_parts _ _ shown).0 in
    (first.1, (and_parts _ _ first.0).1)
