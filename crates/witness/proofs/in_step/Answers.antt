use Rattle.std.proofs.Common.{sym, ap, ◌∙◌, subst₂}
use Rattle.link.specs.States.{state_of}
use Rattle.model.specs.Faults.{handover_of}
use Rattle.witness.specs.Scripts.{in_step_calls}
use Rattle.witness.proofs.Reached.{Shows, came_by}
use Rattle.witness.proofs.Computed.{in_step_shows}
use Rattle.witness.proofs.in_step.Goals as goal

pub returns : goal.returns
returns c =
    let start = c.hand_over.ensures.after ∙ ap handover_of c.new_first-link.ensures in
    came_by _ _ _ (state_of c.hand_over.new.link) (state_of c.run.new.link) (in_step_calls c.stop.result)
    (subst₂ (Shows _ _ _) (sym start) (ap in_step_calls (sym c.stop.ensures)) in_step_shows)
    c.hand_over.ensures.recovers c.run.ensures.run
