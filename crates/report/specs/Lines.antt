-- The lines of a script, answered one after another on a link over shapes. Assumes nothing.
use Rattle.std.specs.Prelude.{ℕ, List, [], ◌∷◌, ◌++◌, Some, None, Ok, Err, Option, Result}
use Rattle.wire.specs.declared.refusal.Refusal.{Refusal}
use Rattle.wire.specs.declared.refusal.Refusal.TheVariants.{Code}
use Rattle.recovery.specs.Codec.{Codec}
use Rattle.codec.specs.declared.config.Config.{Config}
use Rattle.codec.specs.Words.{codec}
use Rattle.model.specs.Models.{Model, Turn, Hearing, Rounding}
use Rattle.model.specs.Calls.{offer_of, send_of, hear_of, settle_of, tick_of, round_of}
use Rattle.model.specs.Faults.{sender_label_of, receiver_label_of, raw_forward_of, raw_back_of}
use Rattle.script.specs.Lines.{order_of}
use Rattle.script.specs.declared.order.Order.{Order}
use Rattle.script.specs.declared.order.Order.TheVariants as order
use Rattle.report.specs.declared.reply.Reply.{Reply}
use Rattle.report.specs.declared.reply.Reply.TheVariants.{One, Hear, Round}
use Rattle.report.specs.Replies.{reply_text, sound_text}

-- what a line is answered, and the link afterwards
pub record Answered (R Rec : Type 0) : Type 0 where
  pub reply : Reply
  pub after : Model (Config R) Rec

abbrev pub outcome : {R Rec : Type 0} → Reply → Model (Config R) Rec → Answered R Rec
outcome r l = record { reply = r; after = l }

-- By the number of a kind, what its records are packed into, and what payloads read as.
module _ {R Rec : Type 0} (number : ℕ) (payload : R → Rec → ℕ) (reads : R → ℕ → Option Rec) where
  abbrev words : Config R → Codec Rec
  words = codec number payload reads

  -- the payload of the record that the receiver holds
  abbrev pub held : Model (Config R) Rec → ℕ
  held l = payload l.config.kind l.receiver.delivered

  abbrev pub one : ℕ → Turn (Config R) Rec → Answered R Rec
  one letter t = outcome (One letter t.answer) t.after

  abbrev pub heard : Hearing (Config R) Rec → Answered R Rec
  heard h = outcome (Hear h.heard h.reply (held h.after)) h.after

  abbrev pub rounded : Rounding (Config R) Rec → Answered R Rec
  rounded r = outcome (Round r.sent r.heard r.reply r.settled (held r.after)) r.after

  -- a payload that is no record is turned away before the link is asked
  abbrev pub offered : Option Rec → Model (Config R) Rec → Answered R Rec
  offered (Some r) l = one 111 (offer_of words l r)
  offered None l = outcome (One 111 (Err Code)) l

  -- each order by its letter: o, s, h, a, t, r, S, R, F, B
  abbrev pub obeyed : Order → Model (Config R) Rec → Answered R Rec
  obeyed (order.Offer p) l = offered (reads l.config.kind p) l
  obeyed order.Send l = one 115 (send_of words l)
  obeyed order.Hear l = heard (hear_of words l)
  obeyed order.Settle l = one 97 (settle_of words l)
  obeyed order.Tick l = one 116 (tick_of words l)
  obeyed order.Round l = rounded (round_of words l)
  obeyed (order.SenderLabel x) l = one 83 (sender_label_of l x)
  obeyed (order.ReceiverLabel x) l = one 82 (receiver_label_of l x)
  obeyed (order.RawForward w) l = one 70 (raw_forward_of l w)
  obeyed (order.RawBack w) l = one 66 (raw_back_of l w)

  -- a line that asks for nothing is answered by a question mark
  abbrev pub answered : Result Order Refusal → Model (Config R) Rec → Answered R Rec
  answered (Ok o) l = obeyed o l
  answered (Err e) l = outcome (One 63 (Err e)) l

  -- an answer for each line, and the observer's numbers at the end
  abbrev pub lines_text : Model (Config R) Rec → List (List ℕ) → List ℕ
  lines_text l [] = sound_text l.observer
  lines_text l (line ∷ lines) =
      let a : Answered R Rec = answered (order_of line) l in
      reply_text a.reply ++ lines_text a.after lines
