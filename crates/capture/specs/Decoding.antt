-- What a line of a capture carries. Assumes nothing.
use Rattle.std.specs.Prelude.{◌≡◌, ℕ, cond, List, length, Some, None, Ok, Err, Option, Result, ◌==◌}
use Rattle.text.specs.Hex.{hex_number, hex_digits}
use Rattle.wire.specs.declared.word.Word.{Word}
use Rattle.wire.specs.Words.{packed, reads, acknowledges}
use Rattle.commands.specs.Commands.{command_payload, command_reads}
use Rattle.readings.specs.Readings.{reading_payload, reading_reads}
use Rattle.commands.specs.declared.command.Command as command
use Rattle.readings.specs.declared.reading.Reading as reading
use Rattle.capture.specs.declared.message.Content.{Content}
use Rattle.capture.specs.declared.message.Content.TheVariants.{Acknowledgement, Command, Reading}
use Rattle.capture.specs.declared.message.Fault.{Fault}
use Rattle.capture.specs.declared.message.Fault.TheVariants.{NoWord, NotWhole, UnknownKind, NoRecord}
use Rattle.capture.specs.declared.message.Message.{Message}

-- sixteen upper-case hexadecimal digits are a word's 64 bits
abbrev pub bits_of : List ℕ → Option ℕ
bits_of line = cond (length line == 16) (hex_number line) None

-- a payload of a known kind is one of its records, or none
abbrev pub record_in : {R : Type 0} → ℕ → Option R → Result R Fault
record_in kind (Some r) = Ok r
record_in kind None = Err (NoRecord kind)

abbrev pub as_content : {R : Type 0} → (R → Content) → Result R Fault → Result Content Fault
as_content f (Ok r) = Ok (f r)
as_content f (Err e) = Err e

-- kind 1 is commands, kind 2 readings
abbrev pub record_of : ℕ → ℕ → Result Content Fault
record_of kind payload =
    cond (kind == 1) (as_content Command (record_in 1 (command_reads payload)))
    (cond (kind == 2) (as_content Reading (record_in 2 (reading_reads payload)))
    (Err (UnknownKind kind)))

abbrev pub content_of : Word → Result Content Fault
content_of w = cond (acknowledges w) (Ok Acknowledgement) (record_of w.kind w.payload)

abbrev pub labelled : ℕ → Result Content Fault → Result Message Fault
labelled label (Ok c) = Ok (record { label = label; content = c })
labelled label (Err e) = Err e

abbrev pub word_decoded : Option Word → Result Message Fault
word_decoded (Some w) = labelled w.label (content_of w)
word_decoded None = Err NotWhole

abbrev pub bits_decoded : Option ℕ → Result Message Fault
bits_decoded (Some bits) = word_decoded (reads bits)
bits_decoded None = Err NoWord

abbrev pub decoded : List ℕ → Result Message Fault
decoded line = bits_decoded (bits_of line)

-- The sixteen digits of a packed record decode to that record and its label.
pub record RecordsDecode : Type 0 where
  pub commands : (w : Word) (c : command.Command) → w.kind ≡ 1 → w.payload ≡ command_payload c → decoded (hex_digits 16 (packed w)) ≡ Ok (record { label = w.label; content = Command c })
  pub readings : (w : Word) (r : reading.Reading) → w.kind ≡ 2 → w.payload ≡ reading_payload r → decoded (hex_digits 16 (packed w)) ≡ Ok (record { label = w.label; content = Reading r })
