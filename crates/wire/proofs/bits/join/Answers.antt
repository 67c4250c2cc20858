use Rattle.std.proofs.Common.{◌*◌, ◌%◌, ◌^◌, ap, ◌∙◌, arith}
use lib.Bits.{bit_or}
use Rattle.wire.proofs.Shifts.{joined, joined-past}
use Rattle.wire.proofs.bits.join.Goals as goal

pub returns-then-bits-ge64 : goal.returns-then-bits-ge64
returns-then-bits-ge64 c = joined-past c.args.high c.args.bits c.args.x (omega arith) (omega arith)

pub returns : goal.returns
returns c = c.stacked.ensures ∙ ap (λ n. bit_or (c.args.high * 2 ^ c.args.bits % 2 ^ 64) n) c.low.ensures ∙ joined c.args.high c.args.bits c.args.x (omega arith)
