-- Faults one after another on a link over shapes, computed. Assumes nothing.
use Rattle.std.specs.Prelude.{List}
use mathlib.Core.List.{foldl}
use Rattle.link.specs.declared.calls.Fault.{Fault}
use Rattle.link.specs.declared.calls.Fault.TheVariants.{SenderLabel, ReceiverLabel, SenderState, InHand, PutForward, PutBack, DiscardForward, DiscardBack}
use Rattle.model.specs.Models.{Model}
use Rattle.model.specs.Faults.{sender_label_of, receiver_label_of, sender_state_of, in_hand_of, raw_forward_of, raw_back_of, discard_forward_of, discard_back_of}

module _ {Config Rec : Type 0} where
  -- the link after a fault call, whatever it answers
  abbrev pub disturbed : Model Config Rec → Fault Rec → Model Config Rec
  disturbed l (SenderLabel x) = (sender_label_of l x).after
  disturbed l (ReceiverLabel x) = (receiver_label_of l x).after
  disturbed l (SenderState s) = (sender_state_of l s).after
  disturbed l (InHand r) = (in_hand_of l r).after
  disturbed l (PutForward w) = (raw_forward_of l w).after
  disturbed l (PutBack w) = (raw_back_of l w).after
  disturbed l DiscardForward = (discard_forward_of l).after
  disturbed l DiscardBack = (discard_back_of l).after

  -- the link after these fault calls
  abbrev pub disturbed_all : Model Config Rec → List (Fault Rec) → Model Config Rec
  disturbed_all = foldl disturbed
