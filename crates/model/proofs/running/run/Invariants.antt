use Rattle.std.proofs.Common.{◌≡◌, take}
use Rattle.recovery.specs.Runs.{Run}
use Rattle.codec.specs.Words.{codec}
use Rattle.channel.specs.Behaviours.{behaviour_of}
use Rattle.link.specs.States.{state_of}
use Rattle.model.specs.Models.{shaped_state}
use Rattle.model.specs.Sequences.{after_all, events_all}
use Rattle.model.proofs.running.run.Given as goal

-- the calls so far
abbrev pub invariant-loop-call : goal.invariant-loop-call
invariant-loop-call g l =
    let words = codec g.R.RecordKind.NUMBER g.R.RecordKind.payload g.R.RecordKind.reads in
    let start = shaped_state g.F.Shaped.shape g.B.Shaped.shape (state_of l.initial.link) in
    (shaped_state g.F.Shaped.shape g.B.Shaped.shape (state_of l.link) ≡ after_all words start (take l.call-index l.calls))
    × Run words (behaviour_of g.F.Channel) (behaviour_of g.B.Channel) (state_of l.initial.link) (events_all words start (take l.call-index l.calls)) (state_of l.link)
