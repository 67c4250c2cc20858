use Rattle.report.proofs.Recovering.{script_recovers}
use Rattle.report.proofs.ReportLaws.{one_more, ends-sound, stays}
use Rattle.report.proofs.reporting.report.Goals as goal

pub returns-clause-lines : goal.returns-clause-lines
returns-clause-lines c = one_more c.args.script.now

pub returns-clause-sound : goal.returns-clause-sound
returns-clause-sound c = ends-sound c.args.script.now

pub returns-clause-recovers : goal.returns-clause-recovers
returns-clause-recovers c = script_recovers c.args.script.now

pub returns-clause-stays : goal.returns-clause-stays
returns-clause-stays c = stays c.args.script.now
