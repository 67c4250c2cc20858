use Rattle.std.proofs.Common.{sym}
use Rattle.std.proofs.lemmas.Result.{err_from_is_err_and}
use Rattle.recovery.specs.Steps.Settle.{silent, spoilt}
use Rattle.link.specs.States.{state_of}
use Rattle.link.proofs.Performed.{settle_done, settle_stale}
use Rattle.link.proofs.state.Link.settle.Goals as goal

pub returns-in_default : goal.returns-in_default
returns-in_default g c = silent c.in_default.ensures

pub returns-in_default-read_ack : goal.returns-in_default-read_ack
returns-in_default-read_ack g c = spoilt c.in-Ok.ensures (sym c.in_default-read_ack.ensures)

pub returns-in_err-decide : goal.returns-in_err-decide
returns-in_err-decide g c =
    let p = err_from_is_err_and c.from_residual.result c.from_residual.ensures.1 in
    rw (p.1, p.2) (settle_stale _ _ _ _ c.in-Ok.word c.in-Some.label c.read_label-own.result _ _ c.in-Ok.ensures c.in-Some.ensures c.read_label-own.ensures c.in_err-decide.ensures)

pub returns : goal.returns
returns g c =
    settle_done _ _ _ (state_of c.args.self.now) c.in-Ok.word c.in-Some.label c.read_label-own.result c.take.new.self c.is_clean.result c.after_exchange-self.result (state_of c.rest.new.self)
    c.in-Ok.ensures c.in-Some.ensures c.read_label-own.ensures c.in_ok-decide.ensures c.rest.ensures c.is_clean.ensures c.after_exchange-self.ensures
