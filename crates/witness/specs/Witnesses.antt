-- What is witnessed of links over two rings that carry commands. Assumes nothing.
use Rattle.std.specs.Prelude.{◌≡◌, ℕ, Bool, List}
use Rattle.commands.specs.declared.command.Command.{Command}
use Rattle.commands.specs.declared.command.kind.Commands.{Commands}
use Rattle.commands.specs.Commands.{command_payload, command_reads}
use Rattle.queues.specs.declared.ring.Ring.{Ring}
use Rattle.queues.specs.Rings.{ring_behaviour}
use Rattle.recovery.specs.Codec.{Codec}
use Rattle.recovery.specs.State.{LinkState}
use Rattle.recovery.specs.Runs.{Event, Run}
use Rattle.recovery.specs.Tallies.{completed_in, reported}
use Rattle.recovery.specs.Promise.{HandedOver}
use Rattle.recovery.specs.Findings.{Recovers}
use Rattle.codec.specs.declared.config.Config.{Config}
use Rattle.codec.specs.Words.{codec}

abbrev pub RingLink : Type 0
RingLink = LinkState (Config Commands) Command Ring Ring

-- the words that carry commands
abbrev pub command_words : Config Commands → Codec Command
command_words = codec 1 (λ k r. command_payload r) (λ k p. command_reads p)

-- A link over rings of these capacities was handed over past its check, so that it recovers, and came here by a run in which
-- the exchanges that were completed left it clean or not as marked.
pub record CameBy (f b : ℕ) (cleans : List Bool) (here : RingLink) : Type 0 where
  pub start : RingLink
  pub forward : start.forward.queue.capacity ≡ f
  pub back : start.back.queue.capacity ≡ b
  pub handed_over : HandedOver command_words ring_behaviour ring_behaviour 256 start
  pub recovers : Recovers command_words ring_behaviour ring_behaviour start
  pub events : List (Event Command)
  pub run : Run command_words ring_behaviour ring_behaviour start events here
  pub marks : completed_in events ≡ cleans
  pub observer : here.observer ≡ reported cleans
