-- What is witnessed of a link, from what is computed of the link over shapes. Assumes nothing.
use Rattle.std.proofs.Common.{◌≡◌, ℕ, Bool, List, [], Ok, refl, ap, ◌∙◌}
use Rattle.commands.specs.declared.command.Command.{Command}
use Rattle.commands.specs.declared.command.kind.Commands.{Commands}
use Rattle.queues.specs.Rings.{ring_behaviour}
use Rattle.recovery.specs.Runs.{Run}
use Rattle.recovery.specs.Tallies.{completed_in, reported}
use Rattle.recovery.specs.Check.{checked_link}
use Rattle.recovery.specs.Findings.{Recovers}
use Rattle.codec.specs.declared.config.Config.{Config}
use Rattle.shapes.specs.Shapes.{means}
use Rattle.shapes.specs.Moves.{shape_behaviour}
use Rattle.shapes.specs.Stacks.{ring_shape}
use Rattle.shapes.specs.Queues.{ring_moves}
use Rattle.link.specs.declared.calls.Call.{Call}
use Rattle.model.specs.Models.{Model, shaped_state}
use Rattle.model.specs.Sequences.{events_all}
use Rattle.model.proofs.Exact.{check_is}
use Rattle.witness.specs.Witnesses.{RingLink, command_words, CameBy}

abbrev shaped : RingLink → Model (Config Commands) Command
shaped = shaped_state ring_shape ring_shape

-- the link over shapes that a run starts from, and the calls, show what is asked
pub record Shows (f b : ℕ) (cleans : List Bool) (from : Model (Config Commands) Command) (calls : List (Call Command)) : Type 0 where
  pub forward : (means from.forward).capacity ≡ f
  pub back : (means from.back).capacity ≡ b
  pub checked : checked_link command_words shape_behaviour shape_behaviour 256 from ≡ Ok tt
  pub observer : from.observer ≡ reported []
  pub marks : completed_in (events_all command_words from calls) ≡ cleans

pub came_by : (f b : ℕ) (cleans : List Bool) (start here : RingLink) (calls : List (Call Command)) → Shows f b cleans (shaped start) calls
    → (checked_link command_words shape_behaviour shape_behaviour 256 (shaped start) ≡ Ok tt → Recovers command_words ring_behaviour ring_behaviour start)
    → Run command_words ring_behaviour ring_behaviour start (events_all command_words (shaped start) calls) here
    → CameBy f b cleans here
came_by f b cleans start here calls shows recovers run = record {
  start = start;
  forward = shows.forward;
  back = shows.back;
  handed_over = record { checked = check_is command_words ring_moves ring_moves 256 start ∙ shows.checked; observer = shows.observer; in_hand = refl };
  recovers = recovers shows.checked;
  events = events_all command_words (shaped start) calls;
  run = run;
  marks = shows.marks;
  observer = (recovers shows.checked (events_all command_words (shaped start) calls) here run).observer ∙ ap reported shows.marks;
}
