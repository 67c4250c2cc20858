use Rattle.std.proofs.Common.{◌≡◌}
use Rattle.trying.proofs.trial.watch_calls.Given as goal

abbrev pub invariant-loop-serial : goal.invariant-loop-serial
invariant-loop-serial g l = (l.row.labels ≡ l.fn.row.labels) × (l.row.starts ≡ l.fn.row.starts)
