use Rattle.std.proofs.Common.{◌≡◌, ◌++◌, map, take, drop}
use Rattle.queues.specs.Lines.{sooner}
use Rattle.queues.proofs.line.ticks.Queue+Timed.advance.Given as goal

abbrev pub invariant-loop-item : goal.invariant-loop-item
invariant-loop-item l = l.item-items ≡ map (sooner l.fn.ticks) (take l.item-index l.fn.self.items) ++ drop l.item-index l.fn.self.items
