-- What a call did, and which order asked for it.
use Rattle.report.proofs.Turns.{send-line, hear-line, settle-line, tick-line, round-line, forward-line, back-line}
use Rattle.report.proofs.turn.obey.Goals as goal

pub returns-in-Send : goal.returns-in-Send
returns-in-Send g c = rw c.in-Send.is (send-line _ _ _ g.met.F.Shaped.moves g.met.B.Shaped.moves _ _ c.send.result c.send.ensures)

pub returns-in-Hear : goal.returns-in-Hear
returns-in-Hear g c = rw c.in-Hear.is (hear-line _ _ _ g.met.F.Shaped.moves g.met.B.Shaped.moves _ _ c.hear-heard.result.0 c.hear-heard.result.1 c.held.result c.held.ensures c.hear-heard.ensures)

pub returns-in-Settle : goal.returns-in-Settle
returns-in-Settle g c = rw c.in-Settle.is (settle-line _ _ _ g.met.F.Shaped.moves g.met.B.Shaped.moves _ _ c.settle.result c.settle.ensures)

pub returns-in-Tick : goal.returns-in-Tick
returns-in-Tick g c = rw c.in-Tick.is (tick-line _ _ _ g.met.F.Shaped.moves g.met.B.Shaped.moves _ _ c.tick.result c.tick.ensures)

pub returns-in-Round : goal.returns-in-Round
returns-in-Round g c =
    let r = c.round-sent.result in
    rw c.in-Round.is (round-line _ _ _ g.met.F.Shaped.moves g.met.B.Shaped.moves _ _ r.0 r.1.0 r.1.1 r.2 c.held-in-Round.result c.held-in-Round.ensures c.round-sent.ensures)

pub returns-in-RawForward : goal.returns-in-RawForward
returns-in-RawForward g c =
    let h = c.handed_over-in-RawForward in
    rw c.in-RawForward.is (forward-line g.R.RecordKind.NUMBER g.R.RecordKind.payload g.R.RecordKind.reads g.met.F.Shaped.moves g.met.B.Shaped.moves _ _ c.in-RawForward.word c.put_forward-answer.result h.result _ h.ensures.reply h.ensures.after c.put_forward-answer.ensures)

pub returns-in-RawBack : goal.returns-in-RawBack
returns-in-RawBack g c =
    let h = c.handed_over-in-RawBack in
    rw c.in-RawBack.is (back-line g.R.RecordKind.NUMBER g.R.RecordKind.payload g.R.RecordKind.reads g.met.F.Shaped.moves g.met.B.Shaped.moves _ _ c.in-RawBack.word c.put_back-answer.result h.result _ h.ensures.reply h.ensures.after c.put_back-answer.ensures)
