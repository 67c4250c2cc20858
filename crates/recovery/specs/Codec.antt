-- How labels and records are written into words, and what any word reads as. Assumes nothing.
use Rattle.std.specs.Prelude.{◌≡◌, ℕ, ◌<◌, Bool, true, Some, None, Option}

-- The label count; which records may be sent; the word of a label and a record, and what a word reads as; the same for
-- acknowledgements. A word that reads as nothing is spoilt.
pub record Codec (Rec : Type 0) : Type 0 where
  pub labels : ℕ
  pub allows : Rec → Bool
  pub send_word : ℕ → Rec → ℕ
  pub read_word : ℕ → Option (ℕ × Rec)
  pub ack_word : ℕ → ℕ
  pub read_ack : ℕ → Option ℕ

-- What is sent reads back, and every label that is read is below the label count.
pub record CodecLaws {Rec : Type 0} (C : Codec Rec) : Type 0 where
  pub words : (x : ℕ) (r : Rec) → x < C.labels → C.allows r ≡ true → C.read_word (C.send_word x r) ≡ Some (x, r)
  pub acks : (x : ℕ) → x < C.labels → C.read_ack (C.ack_word x) ≡ Some x
  pub word_labels : (w x : ℕ) (r : Rec) → C.read_word w ≡ Some (x, r) → x < C.labels
  pub ack_labels : (w x : ℕ) → C.read_ack w ≡ Some x → x < C.labels

-- Every record may be sent.
abbrev pub AllowsAll : {Rec : Type 0} → Codec Rec → Type 0
AllowsAll {Rec} C = (r : Rec) → C.allows r ≡ true

-- the label that a word of the forward channel carries, none if it is spoilt
abbrev pub label_in : {Rec : Type 0} → Option (ℕ × Rec) → Option ℕ
label_in None = None
label_in (Some p) = Some p.0

abbrev pub word_label : {Rec : Type 0} → Codec Rec → ℕ → Option ℕ
word_label C w = label_in (C.read_word w)
