use Rattle.std.proofs.Common.{ap, ◌∙◌}
use Rattle.std.proofs.lemmas.Result.{err_from_is_err_and}
use Rattle.turns.specs.Refusals.{answer}
use Rattle.schemes.specs.Calls.{enrol_refusal}
use Rattle.exports.proofs.Signing.{enrolled}
use Rattle.exports.proofs.signatures.with_key.Goals as goal

pub returns-in_err-enrol : goal.returns-in_err-enrol
returns-in_err-enrol c =
    let p = err_from_is_err_and c.from_residual.result c.from_residual.ensures.1 in
    let public = c.args.public.now in
    rw p.1 (enrolled public _ (c.in_err-enrol.ensures.answer ∙ ap (λ known. answer (enrol_refusal 32 known 0 public) tt) (c.new-scheme.ensures.public 0)))

pub returns : goal.returns
returns c =
    let public = c.args.public.now in
    let said = c.in_ok-enrol.ensures in
    record {
      long = enrolled public _ (said.answer ∙ ap (λ known. answer (enrol_refusal 32 known 0 public) tt) (c.new-scheme.ensures.public 0));
      enrolled = said.after.enrolled;
      unspent = said.after.unspent;
    }
