use Rattle.link.proofs.Performed.{tick_done}
use Rattle.link.proofs.state.Link.tick.Goals as goal

pub returns : goal.returns
returns g c = tick_done _ _ _ _ _ _ _ c.pass_time.ensures.forward c.pass_time.ensures.back c.pass_time.ensures.rest
