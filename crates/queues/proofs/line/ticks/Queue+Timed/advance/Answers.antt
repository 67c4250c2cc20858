use Rattle.std.proofs.Common.{rules}
use Rattle.std.proofs.lemmas.List.{take_all, drop_all}
use Rattle.std.proofs.lemmas.List.Edits.{map_over_more}
use Rattle.queues.specs.Lines.{sooner}
use Rattle.queues.specs.BufferRules.{once_round-map}
use Rattle.queues.proofs.line.ticks.Queue+Timed.advance.Goals as goal

pub loop-item-preserved : goal.loop-item-preserved
loop-item-preserved c = search (rules, map_over_more (sooner c.args.ticks))

pub returns-clause-items : goal.returns-clause-items
returns-clause-items c = search (rules, take_all, drop_all, once_round-map)
