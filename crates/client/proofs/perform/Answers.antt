use Rattle.std.proofs.Common.{add-one}
use Rattle.client.specs.Turns.{none, more}
use Rattle.client.proofs.perform.Goals as goal

pub loop-done-init : goal.loop-done-init
loop-done-init g c = none

pub loop-done-preserved : goal.loop-done-preserved
loop-done-preserved g c = rw add-one (more c.loop-done.invariant c.offer.ensures c.round.ensures)
