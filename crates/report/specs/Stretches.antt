-- What has happened on the link of a script since it was handed over last: as it is made, and at each accepted fault line. Assumes nothing.
use Rattle.std.specs.Prelude.{ℕ, List, [], ◌∷◌, ◌++◌, Some, None, Ok, Err, Option, Result}
use Rattle.wire.specs.Refusals.{Answer}
use Rattle.wire.specs.declared.refusal.Refusal.{Refusal}
use Rattle.recovery.specs.Runs.{Event}
use Rattle.codec.specs.declared.config.Config.{Config}
use Rattle.codec.specs.Words.{codec}
use Rattle.link.specs.declared.calls.Call.{Call}
use Rattle.link.specs.declared.calls.Call.TheVariants as calls
use Rattle.model.specs.Models.{Model, Turn}
use Rattle.model.specs.Faults.{sender_label_of, receiver_label_of, raw_forward_of, raw_back_of}
use Rattle.model.specs.Sequences.{events}
use Rattle.script.specs.Lines.{order_of}
use Rattle.script.specs.declared.order.Order.{Order}
use Rattle.script.specs.declared.order.Order.TheVariants as order
use Rattle.report.specs.Lines.{answered}

-- The link when it was handed over, and what has happened since.
pub record Stretch (R Rec : Type 0) : Type 0 where
  pub from : Model (Config R) Rec
  pub events : List (Event Rec)

module _ {R Rec : Type 0} where
  -- a link that is handed over
  abbrev pub begun : Model (Config R) Rec → Stretch R Rec
  begun l = record { from = l; events = [] }

  -- a fault, by its answer: an accepted one begins a new stretch
  abbrev pub faulted : Answer → Model (Config R) Rec → Stretch R Rec → Stretch R Rec
  faulted (Ok u) m s = begun m
  faulted (Err e) m s = s

  abbrev pub fault : Turn (Config R) Rec → Stretch R Rec → Stretch R Rec
  fault t s = faulted t.answer t.after s

-- By the number of a kind, what its records are packed into, and what payloads read as.
module _ {R Rec : Type 0} (number : ℕ) (payload : R → Rec → ℕ) (reads : R → ℕ → Option Rec) where
  -- a call goes on with it
  abbrev pub going : Call Rec → Model (Config R) Rec → Stretch R Rec → Stretch R Rec
  going c l s = record { from = s.from; events = s.events ++ events (codec number payload reads) l c }

  abbrev pub offering : Option Rec → Model (Config R) Rec → Stretch R Rec → Stretch R Rec
  offering (Some r) l s = going (calls.Offer r) l s
  offering None l s = s

  abbrev pub ordered : Order → Model (Config R) Rec → Stretch R Rec → Stretch R Rec
  ordered (order.Offer p) l s = offering (reads l.config.kind p) l s
  ordered order.Send l s = going calls.Send l s
  ordered order.Hear l s = going calls.Hear l s
  ordered order.Settle l s = going calls.Settle l s
  ordered order.Tick l s = going calls.Tick l s
  ordered order.Round l s = going calls.Round l s
  ordered (order.SenderLabel x) l s = fault (sender_label_of l x) s
  ordered (order.ReceiverLabel x) l s = fault (receiver_label_of l x) s
  ordered (order.RawForward w) l s = fault (raw_forward_of l w) s
  ordered (order.RawBack w) l s = fault (raw_back_of l w) s

  -- a line that asks for nothing changes nothing
  abbrev pub continued : Result Order Refusal → Model (Config R) Rec → Stretch R Rec → Stretch R Rec
  continued (Ok o) l s = ordered o l s
  continued (Err e) l s = s

  -- the stretch after these lines
  abbrev pub stretch : Model (Config R) Rec → Stretch R Rec → List (List ℕ) → Stretch R Rec
  stretch l s [] = s
  stretch l s (line ∷ lines) = stretch (answered number payload reads (order_of line) l).after (continued (order_of line) l s) lines
