use Rattle.codec.specs.Words.{codec}
use Rattle.model.proofs.Exact.{round_is}
use Rattle.model.proofs.ExactRuns.{round-run}
use Rattle.model.proofs.computed.round.Goals as goal

pub returns : goal.returns
returns g c =
    let words = codec g.R.RecordKind.NUMBER g.R.RecordKind.payload g.R.RecordKind.reads in
    let is = round_is words g.met.F.Shaped.moves g.met.B.Shaped.moves c.round.ensures in
    record {
      sent = is.0;
      heard = is.1;
      reply = is.2;
      settled = is.3;
      after = is.4;
      run = round-run words g.met.F.Shaped.moves g.met.B.Shaped.moves c.round.ensures;
    }
