-- What a sender is about. Assumes nothing.
use Rattle.std.specs.Prelude.{Bool, true, false, Ok, Err}
use Rattle.wire.specs.Refusals.{Answer}
use Rattle.wire.specs.declared.refusal.Refusal.TheVariants.{Stale}
use Rattle.ends.specs.declared.sender.State.{State}
use Rattle.ends.specs.declared.sender.State.TheVariants.{Idle, UnderWay}

abbrev pub is_idle : State → Bool
is_idle Idle = true
is_idle UnderWay = false

-- what settling an acknowledgement answers, by the sender's state and whether the label is the sender's own
abbrev pub decided : State → Bool → Answer
decided UnderWay true = Ok tt
decided UnderWay false = Err Stale
decided Idle own = Err Stale
