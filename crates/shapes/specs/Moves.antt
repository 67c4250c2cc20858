-- Channels that move as their shapes do. Assumes nothing.
use Rattle.std.specs.Prelude.{◌≡◌, ℕ, Result}
use Rattle.wire.specs.Refusals.{Answer}
use Rattle.wire.specs.declared.refusal.Refusal.{Refusal}
use Rattle.channel.specs.Meaning.{Behaviour}
use Rattle.shapes.specs.Shapes.{Shape, means, put, take, tick}

-- shapes as a sort of channel: each call leaves what is computed, and nothing else
abbrev pub shape_behaviour : Behaviour Shape
shape_behaviour = record {
  means = means;
  puts = λ s w r t. (r ≡ (put s w).0) × (t ≡ (put s w).1);
  takes = λ s r t. (r ≡ (take s).0) × (t ≡ (take s).1);
  ticks = λ s t. t ≡ tick s;
}

-- A channel means what its shape means, and each of its calls answers and leaves what is computed of the shape.
pub record Moves {C : Type 0} (shape : C → Shape) (X : Behaviour C) : Type 0 where
  pub meaning : (s : C) → X.means s ≡ means (shape s)
  pub put : (s : C) (w : ℕ) (r : Answer) (t : C) → X.puts s w r t → shape_behaviour.puts (shape s) w r (shape t)
  pub take : (s : C) (r : Result ℕ Refusal) (t : C) → X.takes s r t → shape_behaviour.takes (shape s) r (shape t)
  pub tick : (s t : C) → X.ticks s t → shape_behaviour.ticks (shape s) (shape t)
