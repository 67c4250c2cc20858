use Rattle.codec.specs.Words.{codec}
use Rattle.model.proofs.Exact.{settle_is}
use Rattle.model.proofs.ExactRuns.{settle-run}
use Rattle.model.proofs.computed.settle.Goals as goal

pub returns : goal.returns
returns g c =
    let words = codec g.R.RecordKind.NUMBER g.R.RecordKind.payload g.R.RecordKind.reads in
    let is = settle_is words g.met.F.Shaped.moves g.met.B.Shaped.moves c.settle.ensures in
    record {
      answer = is.0;
      after = is.1;
      run = settle-run words g.met.F.Shaped.moves g.met.B.Shaped.moves c.settle.ensures;
    }
