use Rattle.std.proofs.Common.{get_or, refl}
use Rattle.schemes.specs.declared.pages.Page.{Page}
use Rattle.schemes.proofs.Places.{all_over, seen_all_over}
use Rattle.schemes.proofs.pages.Pages.new.Goals as goal

pub returns-clause-turns : goal.returns-clause-turns
returns-clause-turns g c =
    let blank = c.args.blank in
    λ key turn. seen_all_over (λ (page : Page _). get_or page.turns turn blank) 16 _ _ blank (all_over 32 turn blank) refl key
