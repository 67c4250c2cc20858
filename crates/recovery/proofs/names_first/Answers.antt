-- Assumes nothing.
use Rattle.recovery.proofs.Observed.{names_first_lem}
use Rattle.recovery.proofs.names_first.Goals as goal

pub returns : goal.returns
returns c = names_first_lem
