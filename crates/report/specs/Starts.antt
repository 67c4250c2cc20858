-- The links that first lines ask for. Assumes nothing.
use Rattle.std.specs.Prelude.{ℕ, List, [], ◌++◌, Ok, Err, Option}
use Rattle.wire.specs.Refusals.{Answer}
use Rattle.commands.specs.Commands.{command_payload, command_reads, stop_command}
use Rattle.readings.specs.Readings.{reading_payload, reading_reads, at_rest}
use Rattle.commands.specs.declared.command.Command.{Command}
use Rattle.commands.specs.declared.command.kind.Commands as commands
use Rattle.readings.specs.declared.reading.Reading.{Reading}
use Rattle.readings.specs.declared.reading.kind.Readings as readings
use Rattle.recovery.specs.Check.{checked}
use Rattle.codec.specs.declared.config.Config.{Config}
use Rattle.shapes.specs.Shapes.{Shape, ring, line, loss, relay, means}
use Rattle.model.specs.Models.{Model}
use Rattle.model.specs.Makings.{new_of}
use Rattle.script.specs.declared.start.Kind.{Kind}
use Rattle.script.specs.declared.start.Kind.TheVariants.{Commands, Readings}
use Rattle.script.specs.declared.start.Setup.{Setup}
use Rattle.script.specs.declared.start.Setup.TheVariants.{First, Second}
use Rattle.script.specs.declared.start.Start.{Start}
use Rattle.report.specs.declared.reply.Reply.TheVariants.{One}
use Rattle.report.specs.Replies.{reply_text}
use Rattle.report.specs.Lines.{lines_text}

module _ {R Rec : Type 0} (number : ℕ) (payload : R → Rec → ℕ) (reads : R → ℕ → Option Rec) where
  -- by what the check of the link answers: a refusal is all that is written
  abbrev pub opened_by : Answer → Model (Config R) Rec → List (List ℕ) → List ℕ
  opened_by (Ok u) l lines = reply_text (One 80 (Ok u)) ++ lines_text number payload reads l lines
  opened_by (Err e) l lines = reply_text (One 80 (Err e))

  abbrev pub opened_text : R → ℕ → Shape → Shape → Rec → List (List ℕ) → List ℕ
  opened_text kind labels forward back first lines = opened_by (checked 256 labels (means forward) (means back)) (new_of kind labels forward back first) lines

-- A kind as the report knows it: its number, what its records are packed into, what payloads read as, its value, and the
-- record that a new link holds.
pub record BenchKind (R Rec : Type 0) : Type 0 where
  pub number : ℕ
  pub payload : R → Rec → ℕ
  pub reads : R → ℕ → Option Rec
  pub kind : R
  pub first : Rec

abbrev pub commands_kind : BenchKind commands.Commands Command
commands_kind = record { number = 1; payload = λ _ r. command_payload r; reads = λ _ p. command_reads p; kind = record {}; first = stop_command }

abbrev pub readings_kind : BenchKind readings.Readings Reading
readings_kind = record { number = 2; payload = λ _ r. reading_payload r; reads = λ _ p. reading_reads p; kind = record {}; first = at_rest }

abbrev pub bench_text : {R Rec : Type 0} → BenchKind R Rec → ℕ → Shape → Shape → List (List ℕ) → List ℕ
bench_text k labels forward back lines = opened_text k.number k.payload k.reads k.kind labels forward back k.first lines

abbrev pub kind_text : Kind → ℕ → Shape → Shape → List (List ℕ) → List ℕ
kind_text Commands labels forward back lines = bench_text commands_kind labels forward back lines
kind_text Readings labels forward back lines = bench_text readings_kind labels forward back lines

-- the channels of a set-up. First: a ring of 1 each way.
abbrev pub forward_of : Setup → Shape
forward_of First = ring [] 1
forward_of Second = loss 0xA000000000000000 (relay (ring [] 3) (line [] [] 2 1))

abbrev pub back_of : Setup → Shape
back_of First = ring [] 1
back_of Second = loss 0x4000000000000000 (ring [] 3)

-- what the check of the link answers
abbrev pub check_of : Start → Answer
check_of s = checked 256 s.labels (means (forward_of s.setup)) (means (back_of s.setup))

abbrev pub setup_text : Start → List (List ℕ) → List ℕ
setup_text s lines = kind_text s.kind s.labels (forward_of s.setup) (back_of s.setup) lines
