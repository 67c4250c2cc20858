use Rattle.lossy.specs.PatternRules.{ones-bit_count}
use Rattle.lossy.proofs.loss.Loss.own_losses.Goals as goal

pub returns : goal.returns
returns g c = ones-bit_count 64 c.args.self.now.pattern c.args.self.now.bits
