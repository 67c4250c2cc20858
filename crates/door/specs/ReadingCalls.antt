-- Readings through the door. Assumes nothing.
use Rattle.std.specs.Prelude.{ℕ, cond, Err, Result, nat_le}
use Rattle.wire.specs.declared.refusal.Refusal.{Refusal}
use Rattle.wire.specs.declared.refusal.Refusal.TheVariants.{Code}
use Rattle.records.specs.Kinds.{or_code}
use Rattle.readings.specs.Readings.{side_bit, side_of, reading_of, reading_payload, reading_reads}
use Rattle.readings.specs.declared.reading.Reading.{Reading}
use Rattle.door.specs.Outputs.{found_as}
use Rattle.door.specs.declared.reading.ReadingParts.{ReadingParts}

-- side 0 is left and 1 is right; there is no other
abbrev pub sided_reading : ReadingParts → Result Reading Refusal
sided_reading p = cond (nat_le p.side 1) (or_code (reading_of p.axle (side_of p.side) p.force p.pressure)) (Err Code)

abbrev pub packed_reading : ReadingParts → Result ℕ Refusal
packed_reading p = found_as reading_payload (sided_reading p)

abbrev pub reading_parts : Reading → ReadingParts
reading_parts r = record { axle = r.axle; side = side_bit r.side; force = r.force; pressure = r.pressure }

abbrev pub unpacked_reading : ℕ → Result ReadingParts Refusal
unpacked_reading p = found_as reading_parts (or_code (reading_reads p))
