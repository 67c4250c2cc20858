use Rattle.std.proofs.Common.{◌+◌, ◌≤◌, List, All, sym, subst, arith}
use Rattle.queues.specs.declared.line.Timed.{Timed}
use Rattle.queues.specs.Buffers.{held}
use Rattle.queues.proofs.Dues.{soon_sooner}
use Rattle.queues.proofs.line.DelayLine.restart.Goals as goal

pub invariant_of-self : goal.invariant_of-self
invariant_of-self c =
    let s = c.args.self.now in
    record {
      limited = s.limited;
      countable = omega arith;
      soon = subst (λ (items : List Timed). All (λ item. item.ready ≤ 0 + s.delay) items) (sym c.advance.ensures.items) (soon_sooner s.ticks s.delay (held s.queue) s.soon);
    }
