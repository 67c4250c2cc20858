use Rattle.codec.specs.Words.{codec}
use Rattle.model.proofs.Exact.{hear_is}
use Rattle.model.proofs.ExactRuns.{hear-run}
use Rattle.model.proofs.computed.hear.Goals as goal

pub returns : goal.returns
returns g c =
    let words = codec g.R.RecordKind.NUMBER g.R.RecordKind.payload g.R.RecordKind.reads in
    let is = hear_is words g.met.F.Shaped.moves g.met.B.Shaped.moves c.hear.ensures in
    record {
      heard = is.0;
      reply = is.1;
      after = is.2;
      run = hear-run words g.met.F.Shaped.moves g.met.B.Shaped.moves c.hear.ensures;
    }
