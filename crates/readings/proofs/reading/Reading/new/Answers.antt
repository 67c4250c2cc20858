use Rattle.std.proofs.Common.{sym, refl, ap}
use Rattle.records.specs.Kinds.{or_code}
use Rattle.readings.specs.ReadingLaws.{reading_is}
use Rattle.readings.proofs.reading.Reading.new.Goals as goal

pub returns : goal.returns
returns c = sym (ap or_code (reading_is _ c.args.axle c.args.side c.args.force c.args.pressure refl refl refl refl))
