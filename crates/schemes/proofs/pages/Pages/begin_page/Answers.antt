use Rattle.std.proofs.Common.{◌≡◌, cond, eqb, [], length, get_or, replicate, Some, None, ap, ◌∙◌, arith, rules}
use Rattle.schemes.specs.Pages.{at}
use Rattle.schemes.proofs.Places.{all_over, seen_set}
use Rattle.schemes.proofs.pages.Pages.begin_page.Goals as goal

pub returns-clause-turns : goal.returns-clause-turns
returns-clause-turns g c =
    let p = c.args.self.now in
    let key = c.args.key in
    let blank = c.args.blank in
    let long : length p.pages ≡ 16 = search rules in
    λ k t.
    rw c.from.ensures
    (seen_set (λ page. get_or page.turns t blank) p.pages key (record { public = Some c.args.public; turns = replicate 32 blank }) (record { public = None; turns = [] }) (omega arith) k
    ∙ ap (λ x. cond (eqb k key) x (at blank p k t)) (all_over 32 t blank))
