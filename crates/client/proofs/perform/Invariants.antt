use Rattle.channel.specs.Behaviours.{behaviour_of}
use Rattle.link.specs.States.{state_of}
use Rattle.codec.specs.Words.{codec}
use Rattle.client.specs.Turns.{Turns}
use Rattle.client.proofs.perform.Given as goal

abbrev pub invariant-loop-done : goal.invariant-loop-done
invariant-loop-done g l =
    Turns (codec g.R.RecordKind.NUMBER g.R.RecordKind.payload g.R.RecordKind.reads) (behaviour_of g.F.Channel) (behaviour_of g.B.Channel) l.r (state_of l.initial.link) l.done (state_of l.link)
