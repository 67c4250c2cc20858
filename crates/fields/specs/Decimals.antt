-- Decimal numbers, the most significant figure first. Assumes nothing.
use Rattle.std.specs.Prelude.{ℕ, ◌-◌, Bool, true, false, cond, not, ◌&&◌, List, [], ◌∷◌, length, Some, None, Option, ◌==◌, nat_le}
use Rattle.text.specs.Digits.{number_from}

-- '0' to '9' are bytes 48 to 57
abbrev pub figure : ℕ → Option ℕ
figure c = cond (nat_le 48 c && nat_le c 57) (Some (c - 48)) None

-- the number that figures write behind what was read before them
abbrev pub decimal_from : ℕ → List ℕ → Option ℕ
decimal_from = number_from figure 10

-- there is a figure, and no zero before another
abbrev pub is_plain : List ℕ → Bool
is_plain [] = false
is_plain (c ∷ []) = true
is_plain (c ∷ d ∷ ds) = not (c == 48)

-- the number that a text of at most nineteen figures writes
abbrev pub decimal_number : List ℕ → Option ℕ
decimal_number cs = cond (nat_le (length cs) 19 && is_plain cs) (decimal_from 0 cs) None
