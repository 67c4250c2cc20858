-- A loss layer and a relay move as their shapes, where the channels that they stand on do.
use Rattle.std.specs.Prelude.{◌≡◌, ℕ, Bool, true, false, Ok, Err, Result}
use Rattle.std.proofs.Common.{ap, ap₂, subst, ◌∙◌}
use Rattle.wire.specs.Refusals.{Answer}
use Rattle.wire.specs.declared.refusal.Refusal.{Refusal}
use Rattle.channel.specs.Meaning.{Meaning, Behaviour}
use Rattle.lossy.specs.declared.loss.Loss.{Loss}
use Rattle.relays.specs.declared.relay.Relay.{Relay}
use Rattle.lossy.specs.Patterns.{top_bit}
use Rattle.lossy.specs.Losses.{lossy, LossPut, loss_behaviour}
use Rattle.relays.specs.Relays.{relayed, MovesDown, RelayMove, relay_behaviour}
use Rattle.shapes.specs.Shapes as shapes
use Rattle.shapes.specs.Shapes.{Shape, PutResult, loss, relay, accepted_below, fallen, moved}
use Rattle.shapes.specs.Moves.{Moves, shape_behaviour}
use Rattle.shapes.specs.Stacks.{loss_shape, relay_shape}

-- the layer's put, by whether the channel below is open and the word lost
module _ {C : Type 0} {shape : C → Shape} {X : Behaviour C} (below : Moves shape X) (s : Loss C) (w : ℕ) (r : Answer) (t : Loss C) where
  abbrev expected : Bool → Bool → PutResult
  expected opened lost = accepted_below opened lost s.pattern (shape s.below) (shapes.put (shape s.below) w)

  loss-put-by : (opened lost : Bool) → LossPut opened lost X.puts s w r t → (r ≡ (expected opened lost).0) × (loss_shape shape t ≡ (expected opened lost).1)
  loss-put-by true true h = (h.0, ap₂ loss h.1 (ap shape h.2))
  loss-put-by true false h = let p = below.put s.below w r t.below h.0 in (p.0, ap₂ loss h.1 p.1)
  loss-put-by false lost h = (h.0, ap₂ loss h.1 (ap shape h.2))

  loss-put : (loss_behaviour X).puts s w r t → shape_behaviour.puts (loss_shape shape s) w r (loss_shape shape t)
  loss-put h =
      subst (λ opened. (r ≡ (expected opened (top_bit s.pattern)).0) × (loss_shape shape t ≡ (expected opened (top_bit s.pattern)).1))
      (ap (λ (m : Meaning). m.is_open) (below.meaning s.below)) (loss-put-by (X.means s.below).is_open (top_bit s.pattern) h)

pub loss_moves : {C : Type 0} {shape : C → Shape} {X : Behaviour C} → Moves shape X → Moves (loss_shape shape) (loss_behaviour X)
loss_moves below = record {
  meaning = λ s. ap (lossy s.pattern) (below.meaning s.below);
  put = loss-put below;
  take = λ s r t h. let p = below.take s.below r t.below h.0 in (p.0, ap₂ loss h.1 p.1);
  tick = λ s t h. ap₂ loss h.1 (below.tick s.below t.below h.0);
}

module _ {U L : Type 0} {shapeU : U → Shape} {shapeL : L → Shape} {X : Behaviour U} {Y : Behaviour L} (upper : Moves shapeU X) (lower : Moves shapeL Y) where
  falls : (r : Result ℕ Refusal) (l m : L) → MovesDown Y.puts r l m → shapeL m ≡ fallen r (shapeL l)
  falls (Ok w) l m h = (lower.put l w h.0 m h.1).1
  falls (Err e) l m h = ap shapeL h

  -- once both have ticked, by whether the lower is open
  moves-by : (opened : Bool) (u : U) (l : L) (t : Relay U L) → RelayMove opened X.takes Y.puts u l t → relay_shape shapeU shapeL t ≡ moved opened (shapeU u) (shapes.take (shapeU u)) (shapeL l)
  moves-by true u l t (r, k, f) =
      let p = upper.take u r t.upper k in
      ap₂ relay p.1 (falls r l t.lower f ∙ ap (λ q. fallen q (shapeL l)) p.0)
  moves-by false u l t k = ap₂ relay (ap shapeU k.0) (ap shapeL k.1)

  relay-tick : (s t : Relay U L) → (relay_behaviour X Y).ticks s t → relay_shape shapeU shapeL t ≡ shapes.tick (relay_shape shapeU shapeL s)
  relay-tick s t (u, l, up, down, h) =
      moves-by (Y.means l).is_open u l t h
      ∙ ap (λ (m : Meaning). moved m.is_open (shapeU u) (shapes.take (shapeU u)) (shapeL l)) (lower.meaning l)
      ∙ ap₂ (λ v m. moved (shapes.means m).is_open v (shapes.take v) m) (upper.tick s.upper u up) (lower.tick s.lower l down)

  pub relay_moves : Moves (relay_shape shapeU shapeL) (relay_behaviour X Y)
  relay_moves = record {
    meaning = λ s. ap₂ relayed (upper.meaning s.upper) (lower.meaning s.lower);
    put = λ s w r t h. let p = upper.put s.upper w r t.upper h.0 in (p.0, ap₂ relay p.1 (ap shapeL h.1));
    take = λ s r t h. let p = lower.take s.lower r t.lower h.0 in (p.0, ap₂ relay (ap shapeU h.1) p.1);
    tick = relay-tick;
  }
