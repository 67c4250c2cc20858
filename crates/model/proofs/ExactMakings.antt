-- A new link over channels that have shapes is the one computed of these shapes, and so is one that is handed over. Assumes nothing.
use Rattle.std.proofs.Common.{◌≡◌, ℕ, ap}
use mathlib.Core.HLevel.{is_prop→PathP, ×_prop}
use native.Mathlib.Bridge.{le_prop}
use Rattle.recovery.specs.State.{LinkState}
use Rattle.codec.specs.declared.config.Config.{Config, range-type}
use Rattle.link.specs.Makings.{Made, observed_anew}
use Rattle.shapes.specs.Shapes.{Shape}
use Rattle.model.specs.Models.{shaped_state}
use Rattle.model.specs.Makings.{config_of, new_of}
use Rattle.model.specs.Faults.{handover_of}

pub config_ext : {R : Type 0} (a b : Config R) → a.kind ≡ b.kind → a.labels ≡ b.labels → a ≡ b
config_ext {R} a b p q = λ i. record {
  kind = p i;
  labels = q i;
  range = is_prop→PathP (λ i. range-type R (p i) (q i)) (λ i. ×_prop le_prop le_prop) a.range b.range i;
}

pub new_is : {R Rec F B : Type 0} (shapeF : F → Shape) (shapeB : B → Shape) (kind : R) (count : ℕ) (f : F) (b : B) (r : Rec) (l : LinkState (Config R) Rec F B) → Made kind count f b r l
    → shaped_state shapeF shapeB l ≡ new_of kind count (shapeF f) (shapeB b) r
new_is shapeF shapeB kind count f b r l m = λ i. record {
  config = config_ext l.config (config_of kind count) m.kind m.labels i;
  sender = m.sender i;
  receiver = m.receiver i;
  forward = ap shapeF m.forward i;
  back = ap shapeB m.back i;
  observer = m.observer i;
}

pub handover_is : {R Rec F B : Type 0} (shapeF : F → Shape) (shapeB : B → Shape) (l m : LinkState (Config R) Rec F B) → m ≡ observed_anew l → shaped_state shapeF shapeB m ≡ handover_of (shaped_state shapeF shapeB l)
handover_is shapeF shapeB l m e = ap (shaped_state shapeF shapeB) e
