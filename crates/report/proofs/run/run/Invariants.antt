use Rattle.std.proofs.Common.{◌+◌, ◌≤◌}
use Rattle.text.specs.Lines.{lines_of}
use Rattle.model.specs.Models.{model_of}
use Rattle.report.specs.Lines.{lines_text}
use Rattle.report.specs.Rooms.{lines_room}
use Rattle.report.proofs.Runs.{Partly}
use Rattle.report.proofs.run.run.Given as goal

abbrev pub invariant-loop-line : goal.invariant-loop-line
invariant-loop-line g l = record {
  text : Partly l.initial.page l.page (lines_text g.R.RecordKind.NUMBER g.R.RecordKind.payload g.R.RecordKind.reads (model_of g.F.Shaped.shape g.B.Shaped.shape l.link) (lines_of l.line-iterator))
      (lines_text g.R.RecordKind.NUMBER g.R.RecordKind.payload g.R.RecordKind.reads (model_of g.F.Shaped.shape g.B.Shaped.shape l.initial.link) (lines_of l.script));
  short : l.page.length + lines_room (lines_of l.line-iterator) ≤ l.initial.page.length + lines_room (lines_of l.script);
}
