-- Upper-case hexadecimal digits, the most significant first. Assumes nothing.
use Rattle.std.specs.Prelude.{◌≡◌, ℕ, zero, suc, ◌+◌, ◌-◌, ◌/◌, ◌%◌, ◌^◌, ◌<◌, ◌≤◌, cond, ◌&&◌, List, [], ◌∷◌, ◌++◌, Some, None, Option, nat_le, nat_lt}
use Rattle.text.specs.Digits.{number_from, number_in}

-- '0' to '9' are bytes 48 to 57, 'A' to 'F' bytes 65 to 70
abbrev pub digit_value : ℕ → Option ℕ
digit_value c = cond (nat_le 48 c && nat_le c 57) (Some (c - 48)) (cond (nat_le 65 c && nat_le c 70) (Some (c - 55)) None)

-- the number that digits write behind what was read before them
abbrev pub hex_from : ℕ → List ℕ → Option ℕ
hex_from = number_from digit_value 16

-- the number that a text of at most sixteen digits writes
abbrev pub hex_number : List ℕ → Option ℕ
hex_number = number_in digit_value 16 16

abbrev pub hex_digit : ℕ → ℕ
hex_digit d = cond (nat_lt d 10) (48 + d) (55 + d)

-- the last n digits of a number
abbrev pub hex_digits : ℕ → ℕ → List ℕ
hex_digits zero x = []
hex_digits (suc n) x = hex_digits n (x / 16) ++ (hex_digit (x % 16) ∷ [])

-- what is written reads back
abbrev pub DigitsRead : Type 0
DigitsRead = (n x : ℕ) → n ≤ 16 → x < 16 ^ n → hex_number (hex_digits n x) ≡ Some x
