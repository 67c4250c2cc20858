use Rattle.std.proofs.Common.{◌≡◌}
use Rattle.codec.specs.Words.{words_of}
use Rattle.model.specs.Models.{model_of}
use Rattle.exercise.specs.Laps.{laps}
use Rattle.exercise.proofs.laps.repeat.Given as goal

-- the exchanges so far
abbrev pub invariant-loop-turn : goal.invariant-loop-turn
invariant-loop-turn g l =
    model_of g.F.Shaped.shape g.B.Shaped.shape l.link
    ≡ laps (words_of g.R.RecordKind) l._turn (model_of g.F.Shaped.shape g.B.Shaped.shape l.initial.link) l.«record»
