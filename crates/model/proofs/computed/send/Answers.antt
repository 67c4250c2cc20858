use Rattle.codec.specs.Words.{codec}
use Rattle.model.proofs.Exact.{send_is}
use Rattle.model.proofs.ExactRuns.{send-run}
use Rattle.model.proofs.computed.send.Goals as goal

pub returns : goal.returns
returns g c =
    let words = codec g.R.RecordKind.NUMBER g.R.RecordKind.payload g.R.RecordKind.reads in
    let is = send_is words g.met.F.Shaped.moves g.met.B.Shaped.moves c.send.ensures in
    record {
      answer = is.0;
      after = is.1;
      run = send-run words g.met.F.Shaped.moves g.met.B.Shaped.moves c.send.ensures;
    }
