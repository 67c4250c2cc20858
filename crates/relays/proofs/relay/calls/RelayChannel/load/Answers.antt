use Rattle.std.proofs.Common.{arith}
use Rattle.std.proofs.lemmas.List.{length-append}
use Rattle.relays.proofs.relay.calls.RelayChannel.load.Goals as goal

pub returns : goal.returns
returns g c =
    let s = c.args.self.now in
    omega (arith, length-append (g.L.Channel.contents s.lower) (g.U.Channel.contents s.upper))
