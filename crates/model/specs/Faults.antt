-- Fault calls and the handover on a link over shapes, computed. Assumes nothing.
use Rattle.std.specs.Prelude.{ℕ, Ok}
use Rattle.ends.specs.declared.sender.State.{State}
use Rattle.codec.specs.declared.config.Config.{Config}
use Rattle.link.specs.Makings.{observed_anew}
use Rattle.link.specs.Faults.{with_sender, with_receiver, with_forward, with_back, without_word}
use Rattle.shapes.specs.Shapes.{PutResult, TakeResult, put, take}
use Rattle.model.specs.Models.{Model, Turn}

module _ {Config Rec : Type 0} where
  -- the sender's label byte
  abbrev pub sender_label_of : Model Config Rec → ℕ → Turn Config Rec
  sender_label_of l x = record { answer = Ok tt; after = with_sender l (record { label = x; state = l.sender.state; in_hand = l.sender.in_hand }) }

  -- the receiver's label byte
  abbrev pub receiver_label_of : Model Config Rec → ℕ → Turn Config Rec
  receiver_label_of l x = record { answer = Ok tt; after = with_receiver l (record { label = x; delivered = l.receiver.delivered }) }

  -- the sender's state
  abbrev pub sender_state_of : Model Config Rec → State → Turn Config Rec
  sender_state_of l s = record { answer = Ok tt; after = with_sender l (record { label = l.sender.label; state = s; in_hand = l.sender.in_hand }) }

  -- the record in hand
  abbrev pub in_hand_of : Model Config Rec → Rec → Turn Config Rec
  in_hand_of l r = record { answer = Ok tt; after = with_sender l (record { label = l.sender.label; state = l.sender.state; in_hand = r }) }

  -- a raw word on a channel
  abbrev pub raw_forward_of : Model Config Rec → ℕ → Turn Config Rec
  raw_forward_of l w = let p : PutResult = put l.forward w in record { answer = p.0; after = with_forward l p.1 p.0 }

  abbrev pub raw_back_of : Model Config Rec → ℕ → Turn Config Rec
  raw_back_of l w = let p : PutResult = put l.back w in record { answer = p.0; after = with_back l p.1 p.0 }

  -- a channel's oldest word taken and let go
  abbrev pub discard_forward_of : Model Config Rec → Turn Config Rec
  discard_forward_of l = let t : TakeResult = take l.forward in record { answer = without_word t.0; after = with_forward l t.1 (without_word t.0) }

  abbrev pub discard_back_of : Model Config Rec → Turn Config Rec
  discard_back_of l = let t : TakeResult = take l.back in record { answer = without_word t.0; after = with_back l t.1 (without_word t.0) }

-- from here on the observer counts anew
abbrev pub handover_of : {R Rec : Type 0} → Model (Config R) Rec → Model (Config R) Rec
handover_of l = observed_anew l
