use Rattle.std.proofs.Common.{sym, ap, ◌∙◌, subst₂}
use Rattle.link.specs.States.{state_of}
use Rattle.model.specs.Faults.{handover_of}
use Rattle.witness.specs.Scripts.{out_of_step_calls}
use Rattle.witness.proofs.Reached.{Shows, came_by}
use Rattle.witness.proofs.Computed.{out_of_step_shows}
use Rattle.witness.proofs.out_of_step.Goals as goal

pub returns : goal.returns
returns c =
    let start = c.hand_over.ensures.after ∙ ap handover_of c.new_astray-link.ensures in
    let calls = c.astray_calls.ensures ∙ ap out_of_step_calls c.stop.ensures in
    came_by _ _ _ (state_of c.hand_over.new.link) (state_of c.run.new.link) c.astray_calls.result
    (subst₂ (Shows _ _ _) (sym start) (sym calls) out_of_step_shows)
    c.hand_over.ensures.recovers c.run.ensures.run
