-- Words with a check: a number V, and below it a check field that V gives. Assumes nothing.
use Rattle.std.specs.Prelude.{◌≡◌, ℕ, ◌+◌, ◌-◌, ◌*◌, ◌/◌, ◌%◌, ◌^◌, Bool, true, ◌==◌, ◌≢◌, bit_xor}

pub record Format : Type 0 where
  pub check_bits : ℕ
  pub modulus : ℕ

-- 8 bits of label, 4 of kind, 36 of payload, 16 of check
abbrev pub narrow : Format
narrow = record { check_bits = 16; modulus = 65521 }

-- the check that belongs to V: from 1 to the modulus
abbrev pub check : Format → ℕ → ℕ
check f v = f.modulus - v % f.modulus

-- V with its check below it
abbrev pub checked : Format → ℕ → ℕ
checked f v = v * 2 ^ f.check_bits + check f v

abbrev pub whole : Format → ℕ → Bool
whole f w = w % 2 ^ f.check_bits == check f (w / 2 ^ f.check_bits)

-- changing a single bit of a whole word never gives a whole word
abbrev pub OneBit : Format → Type 0
OneBit f = (w i : ℕ) → whole f w ≡ true → whole f (bit_xor w (2 ^ i)) ≢ true
