-- A reading as a person reads it. Assumes nothing.
use Rattle.std.specs.Prelude.{ℕ, ◌*◌, ◌/◌, ◌%◌, List, ◌++◌, codes, decimal}
use Rattle.readings.specs.declared.reading.Reading.{Reading}
use Rattle.readings.specs.declared.reading.Side.{Side}
use Rattle.readings.specs.declared.reading.Side.TheVariants.{Left, Right}

abbrev pub side_text : Side → List ℕ
side_text Left = codes "left"
side_text Right = codes "right"

-- hundredths of a bar, with two decimals
abbrev pub bar_text : ℕ → List ℕ
bar_text pressure = decimal (pressure / 100) ++ (codes "." ++ (decimal (pressure / 10 % 10) ++ (decimal (pressure % 10) ++ codes " bar")))

abbrev pub reading_text : Reading → List ℕ
reading_text r =
    codes "axle " ++ (decimal r.axle ++ (codes " " ++ (side_text r.side ++ (codes ", " ++ (decimal (r.force * 10) ++ (codes " N, " ++ bar_text r.pressure))))))
