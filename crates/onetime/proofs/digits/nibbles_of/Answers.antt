use Rattle.std.proofs.Common.{◌≡◌, ℕ, ◌/◌, ◌%◌, ◌<◌, [], ◌∷◌, ap, ◌∙◌, subst, rules, arith}
use Rattle.std.specs.List.{flat_map}
use Rattle.onetime.proofs.Made.{mapped_by}
use Rattle.onetime.proofs.Nibbles.{nibbles_joined}
use Rattle.onetime.proofs.digits.nibbles_of.Goals as goal

pub returns : goal.returns
returns c =
    let digest = c.args.digest.now in
    let made =
    mapped_by c.map.ensures.items (λ (b : ℕ). b / 16 % 16 ∷ (b % 16 ∷ []))
    (λ i x y f' at k.
    let byte : x < 256 = subst (λ (n : ℕ). n < 256) (at.1 0) (c.fits-digest i) in
    let high : x / 16 ≡ x / 16 % 16 = omega arith in
    (cc, search rules)) 0 c.told-digest in
    ap (flat_map (λ x. x)) made ∙ nibbles_joined digest
