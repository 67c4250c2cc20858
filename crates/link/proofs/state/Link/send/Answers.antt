use Rattle.link.proofs.Performed.{send_done}
use Rattle.link.proofs.state.Link.send.Goals as goal

pub returns : goal.returns
returns g c = send_done _ _ _ _ c.word_in_hand-word.result _ _ _ c.if-not-is_busy.ensures c.word_in_hand-word.ensures c.put_word.ensures.put c.put_word.ensures.rest
