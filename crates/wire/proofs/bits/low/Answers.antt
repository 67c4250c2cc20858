use Rattle.std.proofs.Common.{◌∙◌, arith}
use Rattle.wire.proofs.Shifts.{all-bits, low_bits}
use Rattle.wire.proofs.bits.low.Goals as goal

pub returns-then-bits-ge64 : goal.returns-then-bits-ge64
returns-then-bits-ge64 c = all-bits c.args.x c.args.bits (omega arith) (omega arith)

pub returns : goal.returns
returns c = c.masked.ensures ∙ low_bits c.args.x c.args.bits (omega arith)
