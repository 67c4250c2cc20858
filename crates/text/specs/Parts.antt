-- A text in two parts, with a byte between them. Assumes nothing.
use Rattle.std.specs.Prelude.{ℕ, cond, List, length, Some, None, Option, ◌==◌, nat_lt}
use Rattle.std.specs.List.{position_or_len, before_first, after_first}

-- how many bytes stand before the first that is this one
abbrev pub length_before : ℕ → List ℕ → ℕ
length_before b text = position_or_len (λ c. c == b) text

abbrev pub part_before : ℕ → List ℕ → List ℕ
part_before b text = before_first (λ c. c == b) text

-- what comes after that byte, if there is one
abbrev pub part_after : ℕ → List ℕ → Option (List ℕ)
part_after b text = cond (nat_lt (length_before b text) (length text)) (Some (after_first (λ c. c == b) text)) None
