-- Readings of words that code passes on as values. Assumes nothing.
use Rattle.std.specs.Prelude.{◌≡◌, ℕ, ◌^◌, ◌<◌, Option}

-- what a call may answer of 64 bits is what a reading says of them
abbrev pub Computes : (ℕ → Option ℕ → Type 0) → (ℕ → Option ℕ) → Type 0
Computes answers read = (bits : ℕ) (found : Option ℕ) → bits < 2 ^ 64 → answers bits found → found ≡ read bits
