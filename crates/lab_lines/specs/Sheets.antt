-- How the lines of a sheet grow fewer. Assumes nothing.
use Rattle.std.specs.Prelude.{ℕ, ◌+◌, ◌≤◌, List, length, Option}
use Rattle.std.specs.Option.{option_len}
use Rattle.text.specs.Lines.{lines_of}

-- Of the text of the lines left, before and after: a `link` line that was read has been one of them.
abbrev pub Fewer : {T : Type 0} → Option T → List ℕ → List ℕ → Type 0
Fewer next before after = option_len next + length (lines_of after) ≤ length (lines_of before)
