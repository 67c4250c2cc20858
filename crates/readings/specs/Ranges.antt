-- What a reading can measure. Assumes nothing.
use Rattle.std.specs.Prelude.{ℕ, Bool, ◌&&◌, nat_le}

-- axle 1 to 12; force up to 60,000 newtons, in units of 10; pressure up to 15 bar, in hundredths
abbrev pub in_range : ℕ → ℕ → ℕ → Bool
in_range axle force pressure = (nat_le 1 axle && nat_le axle 12) && (nat_le force 6000 && nat_le pressure 1500)
