use Rattle.std.proofs.Common.{◌≡◌, ◌++◌, string_bytes}
use Rattle.text.specs.Lines.{lines_of}
use Rattle.capture.specs.Reports.{report_from, report_of}
use Rattle.capture.proofs.listing.report.Given as goal

abbrev pub invariant-loop-line : goal.invariant-loop-line
invariant-loop-line l = string_bytes l.page ++ report_from l.tally (lines_of l.line-iterator) ≡ report_of l.capture
