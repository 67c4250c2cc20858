-- Calls one after another on a link over shapes, computed: the link afterwards, and what happened. Assumes nothing.
use Rattle.std.specs.Prelude.{List, [], ◌∷◌, ◌++◌}
use mathlib.Core.List.{foldl}
use Rattle.recovery.specs.Codec.{Codec}
use Rattle.recovery.specs.Runs as runs
use Rattle.recovery.specs.Runs.{Event, in_offer, in_hear, in_settle}
use Rattle.shapes.specs.Moves.{shape_behaviour}
use Rattle.link.specs.declared.calls.Call.{Call}
use Rattle.link.specs.declared.calls.Call.TheVariants.{Offer, Send, Hear, Settle, Tick, Round}
use Rattle.model.specs.Models.{Model, Turn, Hearing}
use Rattle.model.specs.Calls.{offer_of, send_of, hear_of, settle_of, tick_of, round_of}

module _ {Config Rec : Type 0} (codec : Config → Codec Rec) where
  -- the link after a call, whatever it answers
  abbrev pub after : Model Config Rec → Call Rec → Model Config Rec
  after l (Offer r) = (offer_of codec l r).after
  after l Send = (send_of codec l).after
  after l Hear = (hear_of codec l).after
  after l Settle = (settle_of codec l).after
  after l Tick = (tick_of codec l).after
  after l Round = (round_of codec l).after

  -- the link after these calls
  abbrev pub after_all : Model Config Rec → List (Call Rec) → Model Config Rec
  after_all = foldl after

  -- what happens in an offer, a hear and a settle
  abbrev pub offer_events : Model Config Rec → Rec → List (Event Rec)
  offer_events l r = in_offer codec shape_behaviour shape_behaviour r (offer_of codec l r).answer

  abbrev pub hear_events : Model Config Rec → List (Event Rec)
  hear_events l = let h : Hearing Config Rec = hear_of codec l in in_hear codec shape_behaviour shape_behaviour h.heard h.after

  abbrev pub settle_events : Model Config Rec → List (Event Rec)
  settle_events l = let d : Turn Config Rec = settle_of codec l in in_settle codec shape_behaviour shape_behaviour d.answer d.after

  -- what happens in a call
  abbrev pub events : Model Config Rec → Call Rec → List (Event Rec)
  events l (Offer r) = offer_events l r
  events l Send = []
  events l Hear = hear_events l
  events l Settle = settle_events l
  events l Tick = []
  events l Round = let m : Model Config Rec = (send_of codec l).after in hear_events m ++ (settle_events (hear_of codec m).after ++ (runs.Event.round ∷ []))

  -- what happens in these calls
  abbrev pub events_all : Model Config Rec → List (Call Rec) → List (Event Rec)
  events_all l [] = []
  events_all l (c ∷ cs) = events l c ++ events_all (after l c) cs
