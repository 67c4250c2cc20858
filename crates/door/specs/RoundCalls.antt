-- Exchanges on a new link, through the door. Assumes nothing.
use Rattle.std.specs.Prelude.{ℕ, cond, Err, Result, ◌==◌}
use Rattle.wire.specs.declared.refusal.Refusal.{Refusal}
use Rattle.wire.specs.declared.refusal.Refusal.TheVariants.{Size}
use Rattle.ends.specs.declared.observer.Observer.{Observer}
use Rattle.codec.specs.Words.{codec}
use Rattle.exercise.specs.Laps.{exercised}
use Rattle.script.specs.declared.start.Setup.{Setup}
use Rattle.script.specs.declared.start.Setup.TheVariants.{First, Second}
use Rattle.report.specs.Starts.{commands_kind, forward_of, back_of}
use Rattle.door.specs.Outputs.{found_as}
use Rattle.door.specs.declared.rounds.ObserverParts.{ObserverParts}

abbrev pub observer_parts : Observer → ObserverParts
observer_parts o = record { completed = o.completed; first = o.first }

-- the observer of the link of commands over a set-up
abbrev pub observer_at : Setup → ℕ → ℕ → Result Observer Refusal
observer_at s labels n =
    exercised (codec commands_kind.number commands_kind.payload commands_kind.reads) commands_kind.kind labels (forward_of s) (back_of s) commands_kind.first n

-- set-ups are 1 and 2
abbrev pub observer_on : ℕ → ℕ → ℕ → Result Observer Refusal
observer_on setup labels n = cond (setup == 1) (observer_at First labels n) (cond (setup == 2) (observer_at Second labels n) (Err Size))

abbrev pub observed_on : ℕ → ℕ → ℕ → Result ObserverParts Refusal
observed_on setup labels n = found_as observer_parts (observer_on setup labels n)
