-- Assumes nothing.
use Rattle.recovery.proofs.Recovery.{recovers}
use Rattle.recovery.proofs.recovers.Goals as goal

pub returns : goal.returns
returns g c = recovers (λ C. C) _ _ g.F.Channel.rules g.B.Channel.rules
