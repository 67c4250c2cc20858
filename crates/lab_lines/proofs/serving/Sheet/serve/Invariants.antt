use Rattle.std.proofs.Common.{◌≤◌, length}
use Rattle.text.specs.Lines.{lines_of}
use Rattle.lab_lines.proofs.serving.Sheet.serve.Given as goal

abbrev pub invariant-loop-line : goal.invariant-loop-line
invariant-loop-line g l = length (lines_of l.self.lines) ≤ length (lines_of l.fn.self.lines)

abbrev pub decreases-loop-line : goal.decreases-loop-line
decreases-loop-line g l = length (lines_of l.self.lines)
