-- A line by its fields, which single spaces (byte 32) divide. Assumes nothing.
use Rattle.std.specs.Prelude.{ℕ, cond, List, length, Some, None, Option, ◌==◌, nat_le}
use Rattle.text.specs.Parts.{length_before, part_before, part_after}
use Rattle.text.specs.Hex.{hex_number}
use Rattle.fields.specs.Decimals.{decimal_number}

-- how many bytes stand before the first space
abbrev pub field_length : List ℕ → ℕ
field_length line = length_before 32 line

abbrev pub field_of : List ℕ → List ℕ
field_of line = part_before 32 line

-- what comes after the first space, if there is one
abbrev pub after_field : List ℕ → Option (List ℕ)
after_field line = part_after 32 line

-- of what is left of a line: the next field
abbrev pub next_field : Option (List ℕ) → Option (List ℕ)
next_field (Some line) = Some (field_of line)
next_field None = None

-- and what is left behind it
abbrev pub left_after : Option (List ℕ) → Option (List ℕ)
left_after (Some line) = after_field line
left_after None = None

abbrev pub in_limit : ℕ → Option ℕ → Option ℕ
in_limit most (Some n) = cond (nat_le n most) (Some n) None
in_limit most None = None

-- a field as a decimal number up to a limit
abbrev pub decimal_field : ℕ → Option (List ℕ) → Option ℕ
decimal_field most (Some field) = in_limit most (decimal_number field)
decimal_field most None = None

-- a field as a number of so many hexadecimal digits
abbrev pub digits_field : ℕ → Option (List ℕ) → Option ℕ
digits_field count (Some field) = cond (length field == count) (hex_number field) None
digits_field count None = None
