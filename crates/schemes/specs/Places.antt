-- A key and a turn, of the 16 and 32 that there are, and the parts of a message.
use Rattle.std.specs.Prelude.{◌≡◌, ℕ, Bool, true, false, ◌&&◌, List, length, Some, None, Option, ◌==◌, nat_le}
use Rattle.std.specs.Borrow.{Bor}
use Rattle.schemes.specs.declared.place.Place.{Place}

abbrev pub there_is : ℕ → ℕ → Bool
there_is key turn = nat_le key 15 && nat_le turn 31

-- p is the place of a key and a turn
pub record PlaceOf (key turn : ℕ) (p : Place) : Type 0 where
  pub inside : there_is key turn ≡ true
  pub same_key : p.key ≡ key
  pub same_turn : p.turn ≡ turn

-- the parts of a message, if there are such a key and turn, and its digest has 32 bytes
abbrev pub Parts : ℕ → ℕ → List ℕ → Option (Place × Bor (List ℕ)) → Type 0
Parts key turn digest None = (there_is key turn && length digest == 32) ≡ false
Parts key turn digest (Some (p, d)) = PlaceOf key turn p × (length digest ≡ 32) × (d.now ≡ digest)
