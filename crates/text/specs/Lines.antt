-- A text by its lines. A line ends with byte 10, the last one also without. Assumes nothing.
use Rattle.std.specs.Prelude.{ℕ, cond, List, [], ◌∷◌, ◌==◌}
use Rattle.std.specs.List.{after_first}
use Rattle.text.specs.Parts.{length_before, part_before}

-- how many bytes stand before the first line end
abbrev pub line_length : List ℕ → ℕ
line_length text = length_before 10 text

abbrev pub line_of : List ℕ → List ℕ
line_of text = part_before 10 text

-- what comes after the first line end
abbrev pub rest_of : List ℕ → List ℕ
rest_of text = after_first (λ c. c == 10) text

-- a byte before the lines of what follows it
abbrev pub before : ℕ → List (List ℕ) → List (List ℕ)
before c [] = (c ∷ []) ∷ []
before c (l ∷ ls) = (c ∷ l) ∷ ls

abbrev pub lines_of : List ℕ → List (List ℕ)
lines_of [] = []
lines_of (c ∷ cs) = cond (c == 10) ([] ∷ lines_of cs) (before c (lines_of cs))
