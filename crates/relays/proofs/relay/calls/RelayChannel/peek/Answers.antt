use Rattle.channel.proofs.Peeks.{peeked_in_first, peeked_in_second, refused-past}
use Rattle.relays.proofs.relay.calls.RelayChannel.peek.Goals as goal

pub peek_upper-requires : goal.peek_upper-requires
peek_upper-requires g c = refused-past (g.L.Channel.contents c.args.self.now.lower) c.args.at _ c.in-Err.ensures

pub returns-in-Ok : goal.returns-in-Ok
returns-in-Ok g c =
    let s = c.args.self.now in
    peeked_in_first (g.L.Channel.contents s.lower) (g.U.Channel.contents s.upper) c.args.at _ c.in-Ok.ensures

pub returns-in-Err : goal.returns-in-Err
returns-in-Err g c =
    let s = c.args.self.now in
    peeked_in_second (g.L.Channel.contents s.lower) (g.U.Channel.contents s.upper) c.args.at _ _ c.in-Err.ensures c.peek_upper.ensures
