-- What the witnesses show, computed. Assumes nothing.
use Rattle.std.proofs.Common.{true, false, [], ◌∷◌, refl}
use Rattle.model.specs.Faults.{handover_of}
use Rattle.witness.specs.Scripts.{in_step, in_step_calls, out_of_step, out_of_step_calls}
use Rattle.commands.specs.Commands.{stop_command}
use Rattle.witness.proofs.Reached.{Shows}

pub in_step_shows : Shows 1 1 (true ∷ []) (handover_of (in_step stop_command)) (in_step_calls stop_command)
in_step_shows = record { forward = refl; back = refl; checked = refl; observer = refl; marks = refl }

pub out_of_step_shows : Shows 2 1 (false ∷ false ∷ false ∷ true ∷ []) (handover_of (out_of_step stop_command)) (out_of_step_calls stop_command)
out_of_step_shows = record { forward = refl; back = refl; checked = refl; observer = refl; marks = refl }
