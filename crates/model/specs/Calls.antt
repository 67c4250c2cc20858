-- The six calls on a link over shapes, computed. Assumes nothing.
use Rattle.std.specs.Prelude.{ℕ, Bool, true, false, Some, None, Ok, Err, Option, Result, ◌==◌}
use Rattle.wire.specs.declared.refusal.Refusal.{Refusal}
use Rattle.wire.specs.declared.refusal.Refusal.TheVariants as refusal
use Rattle.recovery.specs.Codec.{Codec}
use Rattle.recovery.specs.State.{codec_of, senders_label, receivers_label}
use Rattle.recovery.specs.Changes.{over, offered, delivered, settled}
use Rattle.ends.specs.declared.sender.State.{State}
use Rattle.ends.specs.declared.sender.State.TheVariants.{Idle, UnderWay}
use Rattle.shapes.specs.Shapes.{Shape, PutResult, TakeResult, put, take, tick}
use Rattle.shapes.specs.Moves.{shape_behaviour}
use Rattle.model.specs.Models.{Model, Turn, Hearing, Rounding}

module _ {Config Rec : Type 0} (codec : Config → Codec Rec) where
  -- an offer, by the sender's state
  abbrev pub offer_by : State → Model Config Rec → Rec → Turn Config Rec
  offer_by UnderWay l r = record { answer = Err refusal.Busy; after = l }
  offer_by Idle l r = record { answer = Ok tt; after = offered codec l r }

  abbrev pub offer_of : Model Config Rec → Rec → Turn Config Rec
  offer_of l r = offer_by l.sender.state l r

  -- a send, by the sender's state and what putting the word forward does
  abbrev pub send_by : State → Model Config Rec → PutResult → Turn Config Rec
  send_by Idle l p = record { answer = Err refusal.Idle; after = l }
  send_by UnderWay l p = record { answer = p.0; after = over l p.1 l.back }

  abbrev pub send_of : Model Config Rec → Turn Config Rec
  send_of l = send_by l.sender.state l (put l.forward ((codec_of codec l).send_word (senders_label codec l) l.sender.in_hand))

  -- a word heard that carries this label and record, by whether the label is the receiver's own: the forward channel
  -- without the word, and what putting the acknowledgement back does
  abbrev pub hear_record : Bool → Model Config Rec → ℕ → Rec → Shape → PutResult → Hearing Config Rec
  hear_record true l x r f p = record { heard = Err refusal.Repeat; reply = p.0; after = over l f p.1 }
  hear_record false l x r f p = record { heard = Ok tt; reply = p.0; after = delivered l x r f p.1 }

  -- a word heard, by what it reads as
  abbrev pub hear_word : Option (ℕ × Rec) → Model Config Rec → Shape → Hearing Config Rec
  hear_word None l f = record { heard = Err refusal.Spoilt; reply = Err refusal.Silent; after = over l f l.back }
  hear_word (Some m) l f = hear_record (m.0 == receivers_label codec l) l m.0 m.1 f (put l.back ((codec_of codec l).ack_word m.0))

  -- a hear, by what the forward channel gives
  abbrev pub hear_by : Result ℕ Refusal → Model Config Rec → Shape → Hearing Config Rec
  hear_by (Err e) l f = record { heard = Err refusal.Silent; reply = Err refusal.Silent; after = over l f l.back }
  hear_by (Ok w) l f = hear_word ((codec_of codec l).read_word w) l f

  abbrev pub hear_of : Model Config Rec → Hearing Config Rec
  hear_of l = let t : TakeResult = take l.forward in hear_by t.0 l t.1

  -- an acknowledgement settled, by the sender's state and whether the label is the sender's own
  abbrev pub settle_label : State → Bool → Model Config Rec → Shape → Turn Config Rec
  settle_label UnderWay true l b = record { answer = Ok tt; after = settled codec shape_behaviour shape_behaviour l b }
  settle_label UnderWay false l b = record { answer = Err refusal.Stale; after = over l l.forward b }
  settle_label Idle own l b = record { answer = Err refusal.Stale; after = over l l.forward b }

  -- a word settled, by the label that it acknowledges
  abbrev pub settle_word : Option ℕ → Model Config Rec → Shape → Turn Config Rec
  settle_word None l b = record { answer = Err refusal.Spoilt; after = over l l.forward b }
  settle_word (Some x) l b = settle_label l.sender.state (x == senders_label codec l) l b

  -- a settle, by what the back channel gives
  abbrev pub settle_by : Result ℕ Refusal → Model Config Rec → Shape → Turn Config Rec
  settle_by (Err e) l b = record { answer = Err refusal.Silent; after = over l l.forward b }
  settle_by (Ok w) l b = settle_word ((codec_of codec l).read_ack w) l b

  abbrev pub settle_of : Model Config Rec → Turn Config Rec
  settle_of l = let t : TakeResult = take l.back in settle_by t.0 l t.1

  abbrev pub tick_of : Model Config Rec → Turn Config Rec
  tick_of l = record { answer = Ok tt; after = over l (tick l.forward) (tick l.back) }

  abbrev pub round_of : Model Config Rec → Rounding Config Rec
  round_of l =
      let s : Turn Config Rec = send_of l in
      let h : Hearing Config Rec = hear_of s.after in
      let d : Turn Config Rec = settle_of h.after in
      record { sent = s.answer; heard = h.heard; reply = h.reply; settled = d.answer; after = (tick_of d.after).after }
