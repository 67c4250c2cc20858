-- The words of a link, and what a word reads as at either end. Assumes nothing.
use Rattle.std.specs.Prelude.{ℕ, true, cond, ◌&&◌, Some, None, Option, ◌==◌, nat_le, nat_lt}
use Rattle.wire.specs.declared.word.Word.{Word}
use Rattle.wire.specs.Words.{word_of, packed, reads, acknowledges, acknowledgement}
use Rattle.recovery.specs.Codec.{Codec}
use Rattle.records.specs.declared.kind.RecordKind as kind
use Rattle.codec.specs.declared.config.Config.{Config}

-- the label count of a link that is asked for with this one
abbrev pub label_count : ℕ → ℕ
label_count labels = cond (nat_le 2 labels && nat_le labels 256) labels 2

abbrev pub under_label : {Rec : Type 0} → ℕ → Option Rec → Option (ℕ × Rec)
under_label label (Some r) = Some (label, r)
under_label label None = None

-- a whole word with a label below the count, of this kind, and with a payload that is a record
abbrev pub record_in : {Rec : Type 0} → ℕ → ℕ → (ℕ → Option Rec) → Option Word → Option (ℕ × Rec)
record_in labels number reads (Some w) = cond (nat_lt w.label labels && w.kind == number) (under_label w.label (reads w.payload)) None
record_in labels number reads None = None

abbrev pub read_word : {Rec : Type 0} → ℕ → ℕ → (ℕ → Option Rec) → ℕ → Option (ℕ × Rec)
read_word labels number kindReads bits = record_in labels number kindReads (reads bits)

-- a whole acknowledgement with a label below the count
abbrev pub ack_in : ℕ → Option Word → Option ℕ
ack_in labels (Some w) = cond (nat_lt w.label labels && acknowledges w) (Some w.label) None
ack_in labels None = None

abbrev pub read_ack : ℕ → ℕ → Option ℕ
read_ack labels bits = ack_in labels (reads bits)

abbrev pub send_word : {Rec : Type 0} → ℕ → (Rec → ℕ) → ℕ → Rec → ℕ
send_word number payload label r = packed (word_of label number (payload r))

-- The codec of a link: its words, by the number of its kind, what its records are packed into, and what payloads read as.
abbrev pub codec : {R Rec : Type 0} → ℕ → (R → Rec → ℕ) → (R → ℕ → Option Rec) → Config R → Codec Rec
codec number payload kindReads c = record {
  labels = c.labels;
  allows = λ _. true;
  send_word = send_word number (payload c.kind);
  read_word = read_word c.labels number (kindReads c.kind);
  ack_word = λ label. packed (acknowledgement label);
  read_ack = read_ack c.labels;
}

-- the same, by the ghost members of its kind
abbrev pub words_of : {R Rec : Type 0} → kind.Ghosts R Rec → Config R → Codec Rec
words_of k = codec k.NUMBER k.payload k.reads
