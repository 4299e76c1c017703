use Rattle.std.proofs.Common.{◌≡◌, ℕ, List, get_or, length, take, drop, ap, ◌∙◌, arith, rules}
use Rattle.std.proofs.lemmas.List.{drop_at, length-append, length-drop, length-take-le, take_at}
use Rattle.onetime.specs.Chains.{chain_at}
use Rattle.onetime.specs.Digits.{digit}
use Rattle.onetime.specs.Signatures.{signature}
use Rattle.onetime.specs.Trees.{sibling}
use Rattle.onetime.proofs.Runs.{flattened}
use Rattle.onetime.proofs.Theorems.{signature_length, signature_written}
use Rattle.onetime.proofs.scheme.write_signature.Goals as goal

pub slice_bounds-copy_from_slice-end-2 : goal.slice_bounds-copy_from_slice-end-2
slice_bounds-copy_from_slice-end-2 c = omega (arith, length-append {A = ℕ}, length-drop {A = ℕ}, length-take-le 2144 c.args.out.now (omega arith))

pub copy_from_slice-requires : goal.copy_from_slice-requires
copy_from_slice-requires c =
    let many : length c.chains_at-chains.result ≡ 67 = search rules in
    omega (arith, many, length-take-le 2144 c.args.out.now (omega arith), c.as_flattened.ensures.len)

pub returns : goal.returns
returns c =
    let turn = c.args.ready.now.place.turn in
    let digest = c.args.ready.now.digest.now in
    let secret = c.args.ready.now.secret.now in
    let lent = c.args.out.now in
    let chains =
    c.copy_from_slice.ensures.after ∙ c.as_flattened.ensures.value
    ∙ flattened (λ i. chain_at secret turn i (digit digest i)) c.chains_at-chains.result 67 (search rules)
    (λ i low. c.chains_at-chains.ensures i low ∙ ap (λ (ds : List ℕ). chain_at secret turn i (get_or ds i 0)) c.digits_of.ensures) in
    let path =
    c.copy_from_slice-2.ensures.after ∙ c.as_flattened-2.ensures.value
    ∙ flattened (sibling secret turn) c.path-path.result 5 (search rules) (c.path-path.ensures secret c.requires.grown) in
    let whole = signature_written secret digest turn _ _ lent chains path in
    let long = signature_length secret digest turn in
    record {
      front = ap (take 2304) whole ∙ take_at (signature secret turn digest) (drop 2304 lent) 2304 long;
      rest = ap (drop 2304) whole ∙ drop_at (signature secret turn digest) (drop 2304 lent) 2304 long;
    }
