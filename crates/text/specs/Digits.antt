-- Numbers in digits of any base, the most significant digit first. Assumes nothing.
use Rattle.std.specs.Prelude.{ℕ, ◌+◌, ◌*◌, cond, List, [], ◌∷◌, length, Some, None, Option, nat_le}

abbrev pub next : Option ℕ → (ℕ → Option ℕ) → Option ℕ
next (Some d) f = f d
next None f = None

-- By what each byte is worth as a digit, and the base: the number that digits write behind what was read before them.
abbrev pub number_from : (ℕ → Option ℕ) → ℕ → ℕ → List ℕ → Option ℕ
number_from value base n [] = Some n
number_from value base n (c ∷ cs) = next (value c) (λ d. number_from value base (n * base + d) cs)

-- the number that at most so many digits write
abbrev pub number_in : (ℕ → Option ℕ) → ℕ → ℕ → List ℕ → Option ℕ
number_in value base most digits = cond (nat_le (length digits) most) (number_from value base 0 digits) None
