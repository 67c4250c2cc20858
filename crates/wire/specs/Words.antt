-- What the bits of a word carry. Assumes nothing.
use Rattle.std.specs.Prelude.{ℕ, ◌+◌, ◌*◌, ◌/◌, ◌%◌, ◌^◌, Bool, true, false, ◌&&◌, Some, None, Option, ◌==◌}
use Rattle.std.proofs.Common.{arith}
use Rattle.wire.specs.declared.word.Word.{Word}
use Rattle.wire.specs.Formats.{narrow, checked, whole}

-- V, the number that label, kind and payload form
abbrev pub upper : Word → ℕ
upper w = w.label * 2 ^ 40 + w.kind * 2 ^ 36 + w.payload

abbrev pub packed : Word → ℕ
packed w = checked narrow (upper w)

-- the word of a label, a kind and a payload, each as far as its field holds it
abbrev pub word_of : ℕ → ℕ → ℕ → Word
word_of label kind payload = record {
  label = label % 2 ^ 8;
  kind = kind % 2 ^ 4;
  payload = payload % 2 ^ 36;
  fits = (omega arith, omega arith, omega arith);
}

-- label, kind and payload as they stand in 64 bits
abbrev pub carried : ℕ → Word
carried bits = word_of (bits / 2 ^ 56) (bits / 2 ^ 52) (bits / 2 ^ 16)

abbrev pub given : {T : Type 0} → Bool → T → Option T
given true x = Some x
given false x = None

-- a word that is not whole carries nothing
abbrev pub reads : ℕ → Option Word
reads bits = given (whole narrow bits) (carried bits)

abbrev pub acknowledges : Word → Bool
acknowledges w = w.kind == 0 && w.payload == 0

-- kind 0 and payload 0 are no record: they acknowledge the label
abbrev pub acknowledgement : ℕ → Word
acknowledgement label = word_of label 0 0
