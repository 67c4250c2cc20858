use Rattle.std.proofs.Common.{◌+◌, ◌*◌, ◌^◌, ◌<◌, arith}
use Rattle.text.proofs.Folding.{fits}
use Rattle.text.proofs.digits.folded.Given as given
use Rattle.text.proofs.digits.folded.Goals as goal

below : (g : given.Over) (c : goal.After-BASE g) → c.loop-byte.number * c.BASE.result + c.in_ok-digit.digit < 2 ^ 64
below g c = rw c.BASE.ensures (fits g.D.Digits.BASE g.D.Digits.MOST c.loop-byte.number c.in_ok-digit.digit c.loop-byte.byte-index g.met.D.Digits.fits c.loop-byte.invariant.1 c.in_ok-digit.ensures.small (omega arith))

pub overflow_mul-number : goal.overflow_mul-number
overflow_mul-number g c = omega (arith, below g c)

pub overflow_add-number : goal.overflow_add-number
overflow_add-number g c = omega (arith, below g c)
