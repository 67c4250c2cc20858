-- How many bytes lines take, and their answers. Assumes nothing.
use Rattle.std.specs.Prelude.{ℕ, ◌+◌, ◌*◌, List, [], ◌∷◌, length}

-- each line with its end
abbrev pub bytes_in : List (List ℕ) → ℕ
bytes_in [] = 0
bytes_in (line ∷ lines) = length line + 1 + bytes_in lines

-- an answer is at most 12 times as long as its line, and the last line of a report has at most 21 bytes
abbrev pub lines_room : List (List ℕ) → ℕ
lines_room lines = 12 * bytes_in lines + 21

-- before them the answer of the link's check
abbrev pub opened_room : List (List ℕ) → ℕ
opened_room lines = 5 + lines_room lines
