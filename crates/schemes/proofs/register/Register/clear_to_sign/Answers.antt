use Rattle.std.proofs.Common.{rules}
use Rattle.std.specs.Str.{bytes_eq}
use Rattle.std.proofs.lemmas.Result.{err_from_is_err_and}
use Rattle.schemes.specs.Registers.{fits_register, register_means}
use Rattle.schemes.proofs.Ladders.{accepted, refused, sign_early, sign_found, unspent}
use Rattle.schemes.proofs.register.Register.clear_to_sign.Goals as goal

pub returns-in_err-ready : goal.returns-in_err-ready
returns-in_err-ready c =
    let p = err_from_is_err_and c.from_residual.result c.from_residual.ensures.1 in
    let message = c.args.message.now in
    rw (p.1, p.2) (sign_early 0 32 fits_register (register_means c.args.self.now) message.key message.turn message.digest.now c.args.secret.now c.args.room _ c.in_err-ready.ensures)

pub returns-in_err-clear : goal.returns-in_err-clear
returns-in_err-clear c =
    let p = err_from_is_err_and c.from_residual-in_err-clear.result c.from_residual-in_err-clear.ensures.1 in
    let message = c.args.message.now in
    rw (p.1, p.2)
    (sign_found 0 fits_register (register_means c.args.self.now) message.key message.turn message.digest.now c.args.secret.now c.args.room c.in_ok-ready.ready c.in_ok-ready.ensures
    (bytes_eq c.commitment.result c.in_ok-ready.ready.public) c.is_some-is_spent.result (search rules) (search rules) _ (refused _ _ _ c.in_err-clear.ensures))

pub returns : goal.returns
returns c =
    let m = register_means c.args.self.now in
    let message = c.args.message.now in
    let ready = c.in_ok-ready.ensures in
    let unrefused =
    sign_found 0 fits_register m message.key message.turn message.digest.now c.args.secret.now c.args.room c.in_ok-ready.ready ready
    (bytes_eq c.commitment.result c.in_ok-ready.ready.public) c.is_some-is_spent.result (search rules) (search rules) _ (accepted _ _ _ c.in_ok-clear.ensures) in
    record {
      ready = ready;
      unrefused = unrefused;
      unspent = unspent 0 32 fits_register m message.key message.turn message.digest.now c.args.secret.now c.args.room unrefused;
    }
