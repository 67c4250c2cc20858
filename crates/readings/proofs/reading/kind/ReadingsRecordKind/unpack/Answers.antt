use Rattle.std.proofs.Common.{sym, refl, ap, ◌∙◌}
use Rattle.records.specs.Kinds.{or_code}
use Rattle.readings.specs.Readings.{side_of}
use Rattle.readings.specs.ReadingLaws.{fields_read}
use Rattle.readings.proofs.reading.kind.ReadingsRecordKind.unpack.Goals as goal

pub returns : goal.returns
returns c =
    sym (ap or_code (fields_read c.args.p _ (sym c.spare_in.ensures ∙ c.if-spare_in-ne0.false) refl (ap side_of (sym c.low.ensures) ∙ sym c.of_bit.ensures) (sym c.low-force.ensures) (sym c.low-pressure.ensures)))
