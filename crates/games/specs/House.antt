use Rattle.std.specs.Prelude.{◌≡◌, ℕ, Bool, true, nat_eq}
use Rattle.turns.specs.Proper.{total}
use Rattle.turns.specs.declared.game.Step.{Step}
use Rattle.games.specs.Boards.{board_lawful}
use Rattle.games.specs.Shelves.{shelf_codes, shelf_lawful}
use Rattle.games.specs.Throws.{throws_lawful}

-- the house's shelf: Rock-Paper-Scissors, then Tic-Tac-Toe
abbrev pub house_codes : ℕ → Bool
house_codes = shelf_codes (λ code. nat_eq code 1) (λ code. nat_eq code 2)

abbrev pub house_lawful : Step → Bool
house_lawful = shelf_lawful (λ code. nat_eq code 1) throws_lawful board_lawful

-- no step of the house's games brings money in or takes it out
abbrev pub MoneyStays : Type 0
MoneyStays = (step : Step) → house_lawful step ≡ true → total step.after.amounts ≡ total step.before.amounts
