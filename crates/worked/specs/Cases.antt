-- The sorts of worked case, and when one passes. Assumes nothing.
use Rattle.std.specs.Prelude.{ℕ, Bool, true, false, not, ◌&&◌, List, [], ◌∷◌, ◌++◌, is_some, Some, None, Option, ◌==◌}
use Rattle.wire.specs.Refusals.{answer_of, number_of, name_of}
use Rattle.wire.specs.declared.refusal.Refusal.{Refusal}
use Rattle.wire.specs.Formats.{narrow, whole}
use Rattle.wire.specs.Words.{word_of, acknowledgement, packed}
use Rattle.readings.specs.declared.reading.Reading.{Reading}
use Rattle.readings.specs.declared.reading.Side.{Side}
use Rattle.commands.specs.Commands.{command_of}
use Rattle.readings.specs.Readings.{reading_of, reading_payload}
use Rattle.channel.specs.Meaning.{Meaning}
use Rattle.recovery.specs.Check.{checked}
use Rattle.recovery.specs.Findings.{most_rounds}
use Rattle.report.specs.Reports.{report_text}

pub data Case : Type 0 where
  -- a refusal has this number and this name
  refuses : (refusal : Refusal) (number : ℕ) (name : List ℕ) → Case
  -- the acknowledgement of a label is this word
  acknowledges : (label bits : ℕ) → Case
  -- a reading under a label is this word
  carries : (label axle : ℕ) (side : Side) (force pressure bits : ℕ) → Case
  -- a word is not whole
  broken : (bits : ℕ) → Case
  -- four values are a reading, or are none
  reading : (axle : ℕ) (side : Side) (force pressure : ℕ) → Case
  no_reading : (axle : ℕ) (side : Side) (force pressure : ℕ) → Case
  -- a code takes an argument, or does not
  command : (code argument : ℕ) → Case
  no_command : (code argument : ℕ) → Case
  -- a channel has this capacity, delay and number of losses left
  channel : (m : Meaning) (capacity delay losses : ℕ) → Case
  -- a link over two channels answers its check of a label count by this number
  checks : (forward back : Meaning) (labels answer : ℕ) → Case
  -- an exchange over two channels is completed within so many rounds
  rounds : (forward back : Meaning) (most : ℕ) → Case
  -- a script of these lines has a report of these lines
  session : (script report : List (List ℕ)) → Case

abbrev pub reading_word : ℕ → ℕ → Option Reading → Bool
reading_word label bits (Some r) = packed (word_of label 2 (reading_payload r)) == bits && whole narrow bits
reading_word label bits None = false

-- lines, each with its end
abbrev pub text_of : List (List ℕ) → List ℕ
text_of [] = []
text_of (line ∷ lines) = line ++ (10 ∷ text_of lines)

abbrev pub same : List ℕ → List ℕ → Bool
same [] [] = true
same [] (y ∷ ys) = false
same (x ∷ xs) [] = false
same (x ∷ xs) (y ∷ ys) = x == y && same xs ys

abbrev pub passes : Case → Bool
passes (refuses refusal number name) = number_of refusal == number && same (name_of refusal) name
passes (acknowledges label bits) = packed (acknowledgement label) == bits && whole narrow bits
passes (carries label axle side force pressure bits) = reading_word label bits (reading_of axle side force pressure)
passes (broken bits) = not (whole narrow bits)
passes (reading axle side force pressure) = is_some (reading_of axle side force pressure)
passes (no_reading axle side force pressure) = not (is_some (reading_of axle side force pressure))
passes (command code argument) = is_some (command_of code argument)
passes (no_command code argument) = not (is_some (command_of code argument))
passes (channel m capacity delay losses) = m.capacity == capacity && (m.delay == delay && m.losses == losses)
passes (checks forward back labels answer) = answer_of (checked 256 labels forward back) == answer
passes (rounds forward back most) = most_rounds forward back == most
passes (session script report) = same (report_text (text_of script)) (text_of report)

abbrev pub all_pass : List Case → Bool
all_pass [] = true
all_pass (c ∷ cs) = passes c && all_pass cs
