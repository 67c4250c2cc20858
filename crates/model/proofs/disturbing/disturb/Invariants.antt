use Rattle.std.proofs.Common.{◌≡◌, take}
use Rattle.link.specs.States.{state_of}
use Rattle.model.specs.Models.{shaped_state}
use Rattle.model.specs.Disturbances.{disturbed_all}
use Rattle.model.proofs.disturbing.disturb.Given as goal

-- the faults so far
abbrev pub invariant-loop-fault : goal.invariant-loop-fault
invariant-loop-fault g l =
    shaped_state g.F.Shaped.shape g.B.Shaped.shape (state_of l.link) ≡ disturbed_all (shaped_state g.F.Shaped.shape g.B.Shaped.shape (state_of l.initial.link)) (take l.fault-index l.faults)
