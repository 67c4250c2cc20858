use Rattle.std.proofs.Common.{subst}
use Rattle.channel.specs.Behaviours.{behaviour_of}
use Rattle.link.specs.States.{state_of}
use Rattle.codec.specs.Words.{codec}
use Rattle.client.specs.Turns.{Turns}
use Rattle.client.proofs.Found.{found, all-delivered}
use Rattle.client.proofs.Longer.{ran}
use Rattle.client.proofs.exchange.Goals as goal

pub returns : goal.returns
returns g c =
    let words = codec g.R.RecordKind.NUMBER g.R.RecordKind.payload g.R.RecordKind.reads in
    let forward = behaviour_of g.F.Channel in
    let back = behaviour_of g.B.Channel in
    let before = state_of c.args.link.now in
    let after = state_of c.perform.new.link in
    record {
      answer = c.in_ok-check.ensures;
      turns = (subst (λ l. Turns words forward back c.args.r l c.args.rounds after) c.handover.ensures.after c.perform.ensures, c.observer.ensures);
      first = found words forward back before (state_of c.handover.new.self) after c.observer.result
          c.in_ok-check.ensures c.handover.ensures.after c.handover.ensures.recovers (ran words forward back c.perform.ensures) c.observer.ensures;
      delivered = all-delivered words forward back before (state_of c.handover.new.self) after c.in_ok-check.ensures c.handover.ensures.after c.handover.ensures.recovers;
    }
