use Rattle.codec.specs.Words.{codec}
use Rattle.model.proofs.Exact.{offer_is}
use Rattle.model.proofs.ExactRuns.{offer-run}
use Rattle.model.proofs.computed.offer.Goals as goal

pub returns : goal.returns
returns g c =
    let words = codec g.R.RecordKind.NUMBER g.R.RecordKind.payload g.R.RecordKind.reads in
    let is = offer_is words g.met.F.Shaped.moves g.met.B.Shaped.moves c.offer.ensures in
    record {
      answer = is.0;
      after = is.1;
      run = offer-run words g.met.F.Shaped.moves g.met.B.Shaped.moves c.offer.ensures;
    }
