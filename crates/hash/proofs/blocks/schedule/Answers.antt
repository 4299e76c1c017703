use Rattle.std.proofs.Common.{◌≡◌, ℕ, ◌+◌, ◌*◌, add-zero, sym, ◌∙◌, arith, rules}
use Rattle.std.proofs.lemmas.List.{length-set, take_all}
use Rattle.hash.specs.Sha256.{extend, schedule, words}
use Rattle.hash.proofs.Steps.{extended}
use Rattle.hash.proofs.blocks.schedule.Goals as goal

pub loop-row-init : goal.loop-row-init
unfolding extend
loop-row-init c = (c.first_words-w.ensures, search rules)

pub loop-col-init : goal.loop-col-init
loop-col-init c = rw add-zero c.loop-row.invariant

pub loop-col-preserved : goal.loop-col-preserved
loop-col-preserved c =
    let t : ℕ = 8 * c.loop-row.row + c.loop-col.col in (
      extended c.loop-col.w (words 16 c.args.block.now) t (8 * c.loop-row.row + (c.loop-col.col + 1)) c.next_word.result (omega arith) (omega arith)
          (omega arith) c.next_word.ensures c.loop-col.invariant.0,
      simp length-set c.loop-col.invariant.1,
    )

pub loop-row-preserved : goal.loop-row-preserved
loop-row-preserved c =
    let e : 8 * c.loop-row.row + c.loop-col.col ≡ 8 * (c.loop-row.row + 1) = omega arith in
    rw e at c.loop-col.invariant

pub returns : goal.returns
unfolding schedule
returns c =
    let e : c.loop-row.row ≡ 8 = omega arith in
    sym (take_all 64 c.loop-row.w (omega arith)) ∙ (rw e at c.loop-row.invariant.0)
