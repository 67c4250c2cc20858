-- Loss patterns: 64 bits, of which the highest comes next. Assumes nothing.
use Rattle.std.specs.Prelude.{ℕ, zero, suc, ◌+◌, ◌*◌, ◌/◌, ◌%◌, ◌^◌, Bool, nat_le}

-- the bit that comes next
abbrev pub top_bit : ℕ → Bool
top_bit pattern = nat_le (2 ^ 63) pattern

-- the pattern shifted left by one, a 0 coming in
abbrev pub shifted : ℕ → ℕ
shifted pattern = (pattern * 2) % 2 ^ 64

-- how many of the lowest so many bits are ones
abbrev pub bit_count : ℕ → ℕ → ℕ
bit_count zero zero = 0
bit_count zero (suc n) = 0
bit_count (suc bits) zero = 0
bit_count (suc bits) (suc n) = suc n % 2 + bit_count bits (suc n / 2)
