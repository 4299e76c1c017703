use Rattle.std.proofs.Common.{ℕ, ◌<◌, List, sym, ap, ◌∙◌, rules}
use Rattle.std.specs.Str.{bytes_eq}
use Rattle.std.proofs.lemmas.Result.{err_from_is_err_and}
use Rattle.schemes.specs.Calls.{fits_key}
use Rattle.schemes.proofs.Ladders.{accepted, fitting, refused, sign_early, sign_found}
use Rattle.onetime.specs.Meanings.{fits_onetime, onetime_means}
use Rattle.onetime.specs.Trees.{root}
use Rattle.onetime.proofs.States.{will_accept}
use Rattle.onetime.proofs.scheme.OneTime.clear_to_sign.Goals as goal

pub returns-in_err-ready : goal.returns-in_err-ready
returns-in_err-ready c =
    let p = err_from_is_err_and c.from_residual.result c.from_residual.ensures.1 in
    let message = c.args.message.now in
    rw (p.1, p.2) (sign_early 2304 32 fits_onetime (onetime_means c.args.self.now) message.key message.turn message.digest.now c.args.secret.now c.args.room _ c.in_err-ready.ensures)

pub returns-in_err-clear : goal.returns-in_err-clear
returns-in_err-clear c =
    let p = err_from_is_err_and c.from_residual-in_err-clear.result c.from_residual-in_err-clear.ensures.1 in
    let message = c.args.message.now in
    let ready = c.in_ok-ready.ensures in
    let top = c.of-tree.ensures.root ∙ ap root ready.same_secret in
    rw (p.1, p.2)
    (sign_found 2304 fits_onetime (onetime_means c.args.self.now) message.key message.turn message.digest.now c.args.secret.now c.args.room c.in_ok-ready.ready ready
    _ _ (ap (λ (x : List ℕ). bytes_eq x c.in_ok-ready.ready.public) top) (search rules) _ (refused _ _ _ c.in_err-clear.ensures))

pub returns : goal.returns
returns c =
    let o = c.args.self.now in
    let message = c.args.message.now in
    let ready = c.in_ok-ready.ensures in
    let top = c.of-tree.ensures.root ∙ ap root ready.same_secret in
    let unrefused =
    sign_found 2304 fits_onetime (onetime_means o) message.key message.turn message.digest.now c.args.secret.now c.args.room c.in_ok-ready.ready ready
    _ _ (ap (λ (x : List ℕ). bytes_eq x c.in_ok-ready.ready.public) top) (search rules) _ (accepted _ _ _ c.in_ok-clear.ensures) in
    let right = sym (ap (fits_key fits_onetime c.args.secret.now) ready.public_known) ∙ fitting 2304 32 fits_onetime (onetime_means o) message.key message.turn message.digest.now c.args.secret.now c.args.room unrefused in
    let low : message.turn < 32 = search rules in
    record {
      ready = ready;
      unrefused = unrefused;
      grown = rw ready.same_secret at c.of-tree.ensures;
      accepted = will_accept o message.key message.turn message.digest.now c.args.secret.now _ ready.public_known right low ready.digest_length;
    }
