-- Rings and delay lines move as their shapes.
use Rattle.std.specs.Prelude.{◌≡◌, ℕ, Bool, true, false, List, [], ◌∷◌, ◌++◌, Result, refl}
use Rattle.std.proofs.Common.{ap₂}
use Rattle.wire.specs.Refusals.{Answer}
use Rattle.wire.specs.declared.refusal.Refusal.{Refusal}
use Rattle.queues.specs.declared.line.DelayLine.{DelayLine}
use Rattle.queues.specs.Buffers.{first, rest}
use Rattle.queues.specs.Rings.{RingPut, RingTake, ring_behaviour}
use Rattle.queues.specs.Lines.{line_words, line_dues, LinePut, LineTake, SameLine, line_behaviour}
use Rattle.shapes.specs.Shapes.{ring, line, accepted, given}
use Rattle.shapes.specs.Moves.{Moves}
use Rattle.shapes.specs.Stacks.{ring_shape, line_shape}

ring-by : {words words' : List ℕ} {capacity capacity' : ℕ} → words ≡ words' → capacity ≡ capacity' → ring words capacity ≡ ring words' capacity'
ring-by p q = ap₂ ring p q

ring-put : (room : Bool) (words : List ℕ) (capacity w : ℕ) (r : Answer) (words' : List ℕ) (capacity' : ℕ) → RingPut room words w r words' → capacity' ≡ capacity
    → (r ≡ (accepted room (ring words capacity) (ring (words ++ (w ∷ [])) capacity)).0) × (ring words' capacity' ≡ (accepted room (ring words capacity) (ring (words ++ (w ∷ [])) capacity)).1)
ring-put true words capacity w r words' capacity' h e = (h.0, ring-by h.1 e)
ring-put false words capacity w r words' capacity' h e = (h.0, ring-by h.1 e)

ring-take : (some : Bool) (words : List ℕ) (capacity : ℕ) (r : Result ℕ Refusal) (words' : List ℕ) (capacity' : ℕ) → RingTake some words r words' → capacity' ≡ capacity
    → (r ≡ (given some (first words) (ring words capacity) (ring (rest words) capacity)).0) × (ring words' capacity' ≡ (given some (first words) (ring words capacity) (ring (rest words) capacity)).1)
ring-take true words capacity r words' capacity' h e = (h.0, ring-by h.1 e)
ring-take false words capacity r words' capacity' h e = (h.0, ring-by h.1 e)

pub ring_moves : Moves ring_shape ring_behaviour
ring_moves = record {
  meaning = λ s. refl;
  put = λ s w r t h. ring-put _ _ _ w r _ _ h.0 h.1;
  take = λ s r t h. ring-take _ _ _ r _ _ h.0 h.1;
  tick = λ s t h. ring-by h.0 h.1;
}

line-by : {words words' dues dues' : List ℕ} {capacity capacity' delay delay' : ℕ} → words ≡ words' → dues ≡ dues' → capacity ≡ capacity' → delay ≡ delay'
    → line words dues capacity delay ≡ line words' dues' capacity' delay'
line-by p q r s = cc

line-put : (room : Bool) (s : DelayLine) (w : ℕ) (r : Answer) (t : DelayLine) → LinePut room (line_words s) (line_dues s) s.delay w r (line_words t) (line_dues t) → SameLine s t
    → let p = accepted room (line_shape s) (line (line_words s ++ (w ∷ [])) (line_dues s ++ (s.delay ∷ [])) s.queue.capacity s.delay) in (r ≡ p.0) × (line_shape t ≡ p.1)
line-put true s w r t h e = (h.0, line-by h.1 h.2 e.0 e.1)
line-put false s w r t h e = (h.0, line-by h.1 h.2 e.0 e.1)

line-take : (ready : Bool) (s : DelayLine) (r : Result ℕ Refusal) (t : DelayLine) → LineTake ready (line_words s) (line_dues s) r (line_words t) (line_dues t) → SameLine s t
    → let p = given ready (first (line_words s)) (line_shape s) (line (rest (line_words s)) (rest (line_dues s)) s.queue.capacity s.delay) in (r ≡ p.0) × (line_shape t ≡ p.1)
line-take true s r t h e = (h.0, line-by h.1 h.2 e.0 e.1)
line-take false s r t h e = (h.0, line-by h.1 h.2 e.0 e.1)

pub line_moves : Moves line_shape line_behaviour
line_moves = record {
  meaning = λ s. refl;
  put = λ s w r t h. line-put _ s w r t h.0 h.1;
  take = λ s r t h. line-take _ s r t h.0 h.1;
  tick = λ s t h. line-by h.0.0 h.0.1 h.1.0 h.1.1;
}
