use Rattle.std.proofs.Common.{sym, ◌∙◌}
use Rattle.text.specs.Lines.{lines_of}
use Rattle.script.specs.declared.start.Kind.{Kind}
use Rattle.script.specs.declared.start.Kind.TheVariants.{Commands, Readings}
use Rattle.report.specs.Pages.{Put}
use Rattle.report.specs.Starts.{commands_kind, readings_kind, kind_text}
use Rattle.report.proofs.Openings.{opened, refused}
use Rattle.report.proofs.start.by_kind.Goals as goal

pub returns-in-Commands-clause-text : goal.returns-in-Commands-clause-text
returns-in-Commands-clause-text g c =
    rw c.in-Commands.is
    (opened commands_kind g.met.F.Shaped.moves g.met.B.Shaped.moves c.args.start.labels c.args.forward c.args.back (lines_of c.args.lines.now) c.check-answer.result _ _
    c.check-answer.ensures (sym c.is_err.ensures.value ∙ c.if-is_err.false) c.stop.ensures c.make.ensures c.put_reply.ensures.text c.run.ensures.text)

pub returns-in-Readings-clause-text : goal.returns-in-Readings-clause-text
returns-in-Readings-clause-text g c =
    rw c.in-Readings.is
    (opened readings_kind g.met.F.Shaped.moves g.met.B.Shaped.moves c.args.start.labels c.args.forward c.args.back (lines_of c.args.lines.now) c.check-answer.result _ _
    c.check-answer.ensures (sym c.is_err.ensures.value ∙ c.if-is_err.false) c.at_rest.ensures c.make-in-Readings.ensures c.put_reply.ensures.text c.run-in-Readings.ensures.text)

pub returns-then-is_err-clause-text : goal.returns-then-is_err-clause-text
returns-then-is_err-clause-text g c = at c.args.start.kind
  where
    at : (k : Kind) → Put c.args.page.now (kind_text k c.args.start.labels (g.F.Shaped.shape c.args.forward) (g.B.Shaped.shape c.args.back) (lines_of c.args.lines.now)) c.put_reply.new.self
    at Commands = refused commands_kind g.met.F.Shaped.moves g.met.B.Shaped.moves c.args.start.labels c.args.forward c.args.back (lines_of c.args.lines.now) c.check-answer.result _ c.check-answer.ensures (sym c.is_err.ensures.value ∙ c.if-is_err.true) c.put_reply.ensures.text
    at Readings = refused readings_kind g.met.F.Shaped.moves g.met.B.Shaped.moves c.args.start.labels c.args.forward c.args.back (lines_of c.args.lines.now) c.check-answer.result _ c.check-answer.ensures (sym c.is_err.ensures.value ∙ c.if-is_err.true) c.put_reply.ensures.text
