-- So many exchanges on a new link over shapes, computed. Assumes nothing.
use Rattle.std.specs.Prelude.{ℕ, zero, suc, Ok, Err, Result}
use Rattle.wire.specs.Refusals.{Answer}
use Rattle.wire.specs.declared.refusal.Refusal.{Refusal}
use Rattle.ends.specs.declared.observer.Observer.{Observer}
use Rattle.recovery.specs.Check.{checked}
use Rattle.recovery.specs.Codec.{Codec}
use Rattle.codec.specs.declared.config.Config.{Config}
use Rattle.shapes.specs.Shapes.{Shape, means}
use Rattle.link.specs.declared.calls.Call.TheVariants.{Offer, Round}
use Rattle.model.specs.Models.{Model}
use Rattle.model.specs.Makings.{new_of}
use Rattle.model.specs.Sequences.{after}

module _ {R Rec : Type 0} (words : Config R → Codec Rec) where
  -- the link after an offer of a record and a round, and after so many of these
  abbrev pub lap : Model (Config R) Rec → Rec → Model (Config R) Rec
  lap l r = after words (after words l (Offer r)) Round

  abbrev pub laps : ℕ → Model (Config R) Rec → Rec → Model (Config R) Rec
  laps zero l r = l
  laps (suc n) l r = lap (laps n l r) r

  -- by what the check of the link answers
  abbrev pub seen_by : Answer → Model (Config R) Rec → Result Observer Refusal
  seen_by (Ok u) l = Ok l.observer
  seen_by (Err e) l = Err e

  -- the observer of a new link after so many exchanges
  abbrev pub exercised : R → ℕ → Shape → Shape → Rec → ℕ → Result Observer Refusal
  exercised kind labels forward back r n = seen_by (checked 256 labels (means forward) (means back)) (laps n (new_of kind labels forward back r) r)
