use Rattle.std.proofs.Common.{rules, sym}
use Rattle.recovery.specs.Steps.Hear.{silent, spoilt}
use Rattle.link.specs.States.{state_of}
use Rattle.link.proofs.Performed.{hear_repeat, hear_new}
use Rattle.link.proofs.state.Link.hear.Goals as goal

pub returns-in_default : goal.returns-in_default
returns-in_default g c = silent c.in_default.ensures

pub returns-in_default-read_word : goal.returns-in_default-read_word
returns-in_default-read_word g c = spoilt c.in-Ok.ensures (sym c.in_default-read_word.ensures)

pub returns-then-is_repeat : goal.returns-then-is_repeat
returns-then-is_repeat g c =
    hear_repeat _ _ _ _ c.in-Ok.word c.in-Some.label c.in-Some.r _ _ _ (state_of c.reply-reply.new.self) c.in-Ok.ensures c.in-Some.ensures c.reply-reply.ensures.put c.reply-reply.ensures.rest
    c.if-is_repeat.ensures

pub returns : goal.returns
returns g c =
    hear_new _ _ _ _ c.in-Ok.word c.in-Some.label c.in-Some.r _ _ _ (state_of c.reply-reply.new.self) c.in-Ok.ensures c.in-Some.ensures c.reply-reply.ensures.put c.reply-reply.ensures.rest
    _ c.if-is_repeat.ensures (search rules)
