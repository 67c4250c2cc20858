use Rattle.codec.specs.Words.{codec}
use Rattle.model.proofs.Exact.{tick_is}
use Rattle.model.proofs.ExactRuns.{tick-run}
use Rattle.model.proofs.computed.tick.Goals as goal

pub returns : goal.returns
returns g c =
    let words = codec g.R.RecordKind.NUMBER g.R.RecordKind.payload g.R.RecordKind.reads in
    let is = tick_is words g.met.F.Shaped.moves g.met.B.Shaped.moves c.tick.ensures in
    record {
      answer = is.0;
      after = is.1;
      run = tick-run words g.met.F.Shaped.moves g.met.B.Shaped.moves c.tick.ensures;
    }
