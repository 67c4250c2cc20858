-- Fault calls: what they change in a link's state. Assumes nothing.
use Rattle.std.specs.Prelude.{◌≡◌, ℕ, Ok, Err, Result}
use Rattle.wire.specs.Refusals.{Answer}
use Rattle.wire.specs.declared.refusal.Refusal.{Refusal}
use Rattle.channel.specs.Meaning.{Behaviour}
use Rattle.recovery.specs.State.{LinkState}
use Rattle.ends.specs.Observers.{unobserved, after_fault}
use Rattle.ends.specs.declared.receiver.Receiver.{Receiver}
use Rattle.ends.specs.declared.sender.Sender.{Sender}
use Rattle.link.specs.declared.calls.Fault.{Fault}
use Rattle.link.specs.declared.calls.Fault.TheVariants as fault

-- what a take answers to one who lets the word go
abbrev pub without_word : Result ℕ Refusal → Answer
without_word (Ok w) = Ok tt
without_word (Err e) = Err e

module _ {Config Rec F B : Type 0} where
  -- another sender or receiver, and nothing observed
  abbrev pub with_sender : LinkState Config Rec F B → Sender Rec → LinkState Config Rec F B
  with_sender l s = record { config = l.config; sender = s; receiver = l.receiver; forward = l.forward; back = l.back; observer = unobserved }

  abbrev pub with_receiver : LinkState Config Rec F B → Receiver Rec → LinkState Config Rec F B
  with_receiver l r = record { config = l.config; sender = l.sender; receiver = r; forward = l.forward; back = l.back; observer = unobserved }

  -- another forward or back channel, after a fault call with this answer
  abbrev pub with_forward : LinkState Config Rec F B → F → Answer → LinkState Config Rec F B
  with_forward l f a = record { config = l.config; sender = l.sender; receiver = l.receiver; forward = f; back = l.back; observer = after_fault a l.observer }

  abbrev pub with_back : LinkState Config Rec F B → B → Answer → LinkState Config Rec F B
  with_back l b a = record { config = l.config; sender = l.sender; receiver = l.receiver; forward = l.forward; back = b; observer = after_fault a l.observer }

  -- A raw word is put on a channel.
  abbrev pub RawForward : Behaviour F → LinkState Config Rec F B → ℕ → Answer → LinkState Config Rec F B → Type 0
  RawForward X l w a m = X.puts l.forward w a m.forward × (m ≡ with_forward l m.forward a)

  abbrev pub RawBack : Behaviour B → LinkState Config Rec F B → ℕ → Answer → LinkState Config Rec F B → Type 0
  RawBack Y l w a m = Y.puts l.back w a m.back × (m ≡ with_back l m.back a)

  -- A channel's oldest word is taken and let go.
  abbrev pub DiscardForward : Behaviour F → LinkState Config Rec F B → Answer → LinkState Config Rec F B → Type 0
  DiscardForward X l a m = ((t : Result ℕ Refusal) × X.takes l.forward t m.forward × (a ≡ without_word t)) × (m ≡ with_forward l m.forward a)

  abbrev pub DiscardBack : Behaviour B → LinkState Config Rec F B → Answer → LinkState Config Rec F B → Type 0
  DiscardBack Y l a m = ((t : Result ℕ Refusal) × Y.takes l.back t m.back × (a ≡ without_word t)) × (m ≡ with_back l m.back a)

  -- What the fault call that a value stands for answers and leaves.
  abbrev pub Inflicted : Behaviour F → Behaviour B → LinkState Config Rec F B → Fault Rec → Answer → LinkState Config Rec F B → Type 0
  Inflicted X Y l (fault.SenderLabel x) a m = (a ≡ Ok tt) × (m ≡ with_sender l (record { label = x; state = l.sender.state; in_hand = l.sender.in_hand }))
  Inflicted X Y l (fault.ReceiverLabel x) a m = (a ≡ Ok tt) × (m ≡ with_receiver l (record { label = x; delivered = l.receiver.delivered }))
  Inflicted X Y l (fault.SenderState s) a m = (a ≡ Ok tt) × (m ≡ with_sender l (record { label = l.sender.label; state = s; in_hand = l.sender.in_hand }))
  Inflicted X Y l (fault.InHand r) a m = (a ≡ Ok tt) × (m ≡ with_sender l (record { label = l.sender.label; state = l.sender.state; in_hand = r }))
  Inflicted X Y l (fault.PutForward w) a m = RawForward X l w a m
  Inflicted X Y l (fault.PutBack w) a m = RawBack Y l w a m
  Inflicted X Y l fault.DiscardForward a m = DiscardForward X l a m
  Inflicted X Y l fault.DiscardBack a m = DiscardBack Y l a m
