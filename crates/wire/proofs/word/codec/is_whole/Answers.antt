use Rattle.std.proofs.Common.{eqb, refl, ap₂, lit<}
use Rattle.wire.specs.Formats.{narrow}
use Rattle.wire.proofs.OneBit.{one_bit}
use Rattle.wire.proofs.word.codec.is_whole.Goals as goal

pub returns : goal.returns
returns c = record { value = ap₂ eqb c.low.ensures c.check_of.ensures.value; detects = one_bit narrow refl (lit< tt) }
