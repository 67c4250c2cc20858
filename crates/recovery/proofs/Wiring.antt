-- What every step keeps: capacities and delays, the sender's label below the label count, and a record in hand that may be sent.
-- Assumes nothing.
use Rattle.std.proofs.Common.{◌≡◌, ℕ, ◌+◌, ◌<◌, true, List, mod-lt, arith}
use Rattle.recovery.specs.Codec.{Codec}
use Rattle.recovery.specs.Runs.{Event}
use Rattle.recovery.proofs.Channels.{Fits, fits_next, fits-put}
use Rattle.recovery.proofs.Model as model
use Rattle.recovery.proofs.Model.{View, Sound, Step, Steps, done, next, ticked}

module _ {Rec : Type 0} (C : Codec Rec) (f p b q : ℕ) where
  pub record Wired (v : View Rec) : Type 0 where
    pub forward : Fits f p v.forward
    pub back : Fits b q v.back
    pub below : v.own < C.labels
    pub allowed : C.allows v.hand ≡ true

  pub wired : {v w : View Rec} {e : List (Event Rec)} → Wired v → Sound w → Step C v e w → Wired w
  wired g k (model.Step.offer model.refused) = g
  wired {v = v} g k (model.Step.offer (model.accepted a i)) =
      record { forward = g.forward; back = g.back; below = mod-lt (v.own + 1) (omega (arith, g.below)); allowed = a }
  wired g k (model.Step.send (model.idle i)) = g
  wired g k (model.Step.send (model.sent i t)) =
      record { forward = fits-put g.forward t k.forward; back = g.back; below = g.below; allowed = g.allowed }
  wired g k (model.Step.hear (model.Hear.silent s)) = g
  wired g k (model.Step.hear (model.spoilt t i)) =
      record { forward = fits_next g.forward t.wire k.forward; back = g.back; below = g.below; allowed = g.allowed }
  wired g k (model.Step.hear (model.repeated t i u)) =
      record {
        forward = fits_next g.forward t.wire k.forward;
        back = fits-put g.back u k.back;
        below = g.below;
        allowed = g.allowed;
      }
  wired g k (model.Step.hear (model.adopted t i n u)) =
      record {
        forward = fits_next g.forward t.wire k.forward;
        back = fits-put g.back u k.back;
        below = g.below;
        allowed = g.allowed;
      }
  wired g k (model.Step.settle (model.Settle.silent s)) = g
  wired g k (model.Step.settle (model.discarded t o)) =
      record { forward = g.forward; back = fits_next g.back t.wire k.back; below = g.below; allowed = g.allowed }
  wired g k (model.Step.settle (model.completed t i u)) =
      record { forward = g.forward; back = fits_next g.back t.wire k.back; below = g.below; allowed = g.allowed }
  wired g k (model.Step.tick (ticked s t)) =
      record {
        forward = fits_next g.forward s.wire k.forward;
        back = fits_next g.back t.wire k.back;
        below = g.below;
        allowed = g.allowed;
      }
  wired g k model.mark = g

  pub wired-all : {v w : View Rec} {es : List (Event Rec)} → Wired v → Steps C v es w → Wired w
  wired-all g done = g
  wired-all g (next s k r) = wired-all (wired g k s) r
