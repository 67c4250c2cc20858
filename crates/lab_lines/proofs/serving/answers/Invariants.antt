use Rattle.std.proofs.Common.{◌+◌, length}
use Rattle.std.specs.Option.{option_len}
use Rattle.text.specs.Lines.{lines_of}
use Rattle.lab_lines.proofs.serving.answers.Given as goal

abbrev pub decreases-loop-next : goal.decreases-loop-next
decreases-loop-next l = option_len l.next + length (lines_of l.sheet.lines)
