use Rattle.std.proofs.Common.{◌≡◌, ℕ, true, take, Option}
use Rattle.recovery.specs.State.{all_fit}
use Rattle.codec.specs.Readings.{Computes}
use Rattle.codec.proofs.reading.words_fit.Given as goal

abbrev pub invariant-loop-at : goal.invariant-loop-at
invariant-loop-at g l = (read : ℕ → Option ℕ) → Computes (goal.L-post g l.label_in) read → all_fit read l.label (take l.at (g.C.Channel.contents l.channel)) ≡ true
