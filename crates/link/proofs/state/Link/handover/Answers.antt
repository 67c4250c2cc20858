use Rattle.std.proofs.Common.{refl, ap, arith}
use Rattle.recovery.proofs.Recovery.{recovers}
use Rattle.channel.specs.Behaviours.{behaviour_of}
use Rattle.link.specs.States.{state_of}
use Rattle.codec.specs.Words.{codec}
use Rattle.codec.proofs.WordLaws.{word_laws}
use Rattle.link.proofs.state.Link.handover.Goals as goal

pub returns : goal.returns
returns g c =
    let m = c.count_anew.new.self in
    let kind = g.R.RecordKind in
    let words = codec g.R.RecordKind.NUMBER kind.payload kind.reads in
    let laws = word_laws g.R.RecordKind.NUMBER kind.payload kind.reads g.met.R.RecordKind.numbered.1 g.met.R.RecordKind.small g.met.R.RecordKind.back m.config in
    record {
      after = c.count_anew.ensures;
      recovers = λ passed.
          recovers words (behaviour_of g.F.Channel) (behaviour_of g.B.Channel) g.F.Channel.rules g.B.Channel.rules 256 (omega arith) (state_of m) laws (λ r. refl)
          (record { checked = passed; observer = ap (λ l. l.observer) c.count_anew.ensures; in_hand = refl });
    }
