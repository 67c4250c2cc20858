use Rattle.std.proofs.Common.{refl}
use Rattle.std.specs.Fmt.{digits}
use Rattle.worked.proofs.cases_hold.Goals as goal

pub returns : goal.returns
unfolding digits
returns c = refl
