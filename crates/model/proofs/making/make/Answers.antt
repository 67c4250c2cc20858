use Rattle.link.specs.States.{state_of}
use Rattle.model.proofs.ExactMakings.{new_is}
use Rattle.model.proofs.making.make.Goals as goal

pub returns : goal.returns
returns g c = new_is g.F.Shaped.shape g.B.Shaped.shape c.args.kind c.args.labels c.args.forward c.args.back c.args.first (state_of c.new.result) c.new.ensures
