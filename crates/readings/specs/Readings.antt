-- Readings and their payloads. Assumes nothing.
use Rattle.std.specs.Prelude.{ℕ, zero, suc, ◌+◌, ◌*◌, ◌/◌, ◌%◌, ◌^◌, cond, None, Option, ◌==◌, refl}
use Rattle.readings.specs.declared.reading.Reading.{Reading}
use Rattle.readings.specs.declared.reading.Side.{Side}
use Rattle.readings.specs.declared.reading.Side.TheVariants.{Left, Right}
use Rattle.records.specs.Guard.{guarded}
use Rattle.readings.specs.Ranges.{in_range}

abbrev pub side_bit : Side → ℕ
side_bit Left = 0
side_bit Right = 1

abbrev pub side_of : ℕ → Side
side_of zero = Left
side_of (suc n) = Right

-- the reading of four values that are in range
abbrev pub reading_of : ℕ → Side → ℕ → ℕ → Option Reading
reading_of axle side force pressure = guarded (in_range axle force pressure) (λ e. record { axle = axle; side = side; force = force; pressure = pressure; measurable = e })

-- axle 4 bits, side 1, force 16, pressure 12, spare 3
abbrev pub reading_payload : Reading → ℕ
reading_payload r = r.axle * 2 ^ 32 + side_bit r.side * 2 ^ 31 + r.force * 2 ^ 15 + r.pressure * 2 ^ 3

-- the spare bits are all 0
abbrev pub reading_reads : ℕ → Option Reading
reading_reads p = cond (p % 2 ^ 3 == 0) (reading_of (p / 2 ^ 32) (side_of (p / 2 ^ 31 % 2)) (p / 2 ^ 15 % 2 ^ 16) (p / 2 ^ 3 % 2 ^ 12)) None

-- axle 1, left, nothing measured: what a new link of readings holds
abbrev pub at_rest : Reading
at_rest = record { axle = 1; side = Left; force = 0; pressure = 0; measurable = refl }
