use Rattle.std.proofs.Common.{◌≡◌, ℕ, ◌+◌, ◌*◌, ◌%◌, Bool, true, false, cond, ◌&&◌, eqb, arith}
use Rattle.std.proofs.lemmas.Bool.{and_parts, eqb-true}
use Rattle.turns.specs.Proper.{total}
use Rattle.turns.specs.declared.game.Step.{Step}
use Rattle.turns.specs.declared.state.Amounts.{Amounts}
use Rattle.games.specs.Boards.{board_lawful, board_shape, board_stakes}
use Rattle.games.specs.House.{MoneyStays}
use Rattle.games.specs.Stakes.{rounds_lawful}
use Rattle.games.specs.Throws.{throws_lawful, throws_shape, throws_stakes}

-- what one seat gains the other loses
one_way : (much a b a' b' : ℕ) → (eqb a' (a + much) && eqb b (b' + much)) ≡ true → a' + b' ≡ a + b
one_way much a b a' b' h =
    let p : (eqb a' (a + much) ≡ true) × (eqb b (b' + much) ≡ true) = and_parts _ _ h in
    omega (arith, eqb-true a' (a + much) p.0, eqb-true b (b' + much) p.1)

moved : (even : Bool) (much : ℕ) (x y : Amounts)
    → cond even (eqb y.seat0 (x.seat0 + much) && eqb x.seat1 (y.seat1 + much)) (eqb y.seat1 (x.seat1 + much) && eqb x.seat0 (y.seat0 + much)) ≡ true
    → total y ≡ total x
moved true much x y h = one_way much x.seat0 x.seat1 y.seat0 y.seat1 h
moved false much x y h = let e = one_way much x.seat1 x.seat0 y.seat1 y.seat0 h in omega arith

module _ (step : Step) where
  by_rounds : (code : ℕ) (shape : Step → Bool) (stakes : Step → ℕ) → rounds_lawful code shape stakes step ≡ true → total step.after.amounts ≡ total step.before.amounts
  by_rounds code shape stakes h = moved (eqb (step.turn % 2) 0) (stakes step * step.stake) step.before.amounts step.after.amounts (and_parts _ _ h).1

  by_game : (b : Bool) → cond b (throws_lawful step) (board_lawful step) ≡ true → total step.after.amounts ≡ total step.before.amounts
  by_game true h = by_rounds 1 throws_shape throws_stakes h
  by_game false h = by_rounds 2 board_shape board_stakes h

pub money_stays : MoneyStays
money_stays step h = by_game step (eqb step.code 1) h
