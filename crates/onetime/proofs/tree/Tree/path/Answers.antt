use Rattle.std.proofs.Common.{sym, arith}
use Rattle.onetime.proofs.Levels.{path_stands, sibling_stands}
use Rattle.onetime.proofs.Siblings.{above_is}
use Rattle.onetime.proofs.tree.Tree.path.Goals as goal

pub returns : goal.returns
returns c = λ secret grown level low.
    let turn = c.args.place.turn in
    path_stands secret turn _ _ _ _ _
    (sibling_stands secret 0 32 turn _ _ _ grown.leaves c.beside.ensures.is (omega arith) (omega (arith, above_is turn 0)))
    (sibling_stands secret 1 16 turn _ _ _ grown.level_1 c.beside-2.ensures.is (omega arith) (sym (above_is turn 1)))
    (sibling_stands secret 2 8 turn _ _ _ grown.level_2 c.beside-3.ensures.is (omega arith) (sym (above_is turn 2)))
    (sibling_stands secret 3 4 turn _ _ _ grown.level_3 c.beside-4.ensures.is (omega arith) (sym (above_is turn 3)))
    (sibling_stands secret 4 2 turn _ _ _ grown.level_4 c.beside-5.ensures.is (omega arith) (sym (above_is turn 4)))
    level low
