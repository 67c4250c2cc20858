-- Fault calls on a link over channels that move as their shapes do what is computed of the link over shapes. Assumes nothing.
use Rattle.std.proofs.Common.{◌≡◌, ℕ, ap, ◌∙◌, ap₂}
use Rattle.wire.specs.Refusals.{Answer}
use Rattle.channel.specs.Meaning.{Behaviour}
use Rattle.recovery.specs.State.{LinkState}
use Rattle.link.specs.Faults.{with_forward, with_back, RawForward, RawBack, without_word, DiscardForward, DiscardBack}
use Rattle.shapes.specs.Shapes.{Shape}
use Rattle.shapes.specs.Moves.{Moves}
use Rattle.model.specs.Models.{shaped_state}
use Rattle.model.specs.Faults.{raw_forward_of, raw_back_of, discard_forward_of, discard_back_of}

module _ {Config Rec F B : Type 0} {X : Behaviour F} {shapeF : F → Shape} (forward : Moves shapeF X) (shapeB : B → Shape) (l : LinkState Config Rec F B) where
  pub raw_forward_is : (w : ℕ) (a : Answer) (m : LinkState Config Rec F B) → RawForward X l w a m
      → (a ≡ (raw_forward_of (shaped_state shapeF shapeB l) w).answer) × (shaped_state shapeF shapeB m ≡ (raw_forward_of (shaped_state shapeF shapeB l) w).after)
  raw_forward_is w a m h =
      let q = forward.put l.forward w a m.forward h.0 in
      (q.0, ap (shaped_state shapeF shapeB) h.1 ∙ ap₂ (λ (f : Shape) (b : Answer). with_forward (shaped_state shapeF shapeB l) f b) q.1 q.0)

  pub discard_forward_is : (a : Answer) (m : LinkState Config Rec F B) → DiscardForward X l a m
      → (a ≡ (discard_forward_of (shaped_state shapeF shapeB l)).answer) × (shaped_state shapeF shapeB m ≡ (discard_forward_of (shaped_state shapeF shapeB l)).after)
  discard_forward_is a m h =
      let q = forward.take l.forward h.0.0 m.forward h.0.1 in
      let e : a ≡ (discard_forward_of (shaped_state shapeF shapeB l)).answer = h.0.2 ∙ ap without_word q.0 in
      (e, ap (shaped_state shapeF shapeB) h.1 ∙ ap₂ (λ (f : Shape) (b : Answer). with_forward (shaped_state shapeF shapeB l) f b) q.1 e)

module _ {Config Rec F B : Type 0} {Y : Behaviour B} (shapeF : F → Shape) {shapeB : B → Shape} (back : Moves shapeB Y) (l : LinkState Config Rec F B) where
  pub raw_back_is : (w : ℕ) (a : Answer) (m : LinkState Config Rec F B) → RawBack Y l w a m
      → (a ≡ (raw_back_of (shaped_state shapeF shapeB l) w).answer) × (shaped_state shapeF shapeB m ≡ (raw_back_of (shaped_state shapeF shapeB l) w).after)
  raw_back_is w a m h =
      let q = back.put l.back w a m.back h.0 in
      (q.0, ap (shaped_state shapeF shapeB) h.1 ∙ ap₂ (λ (b : Shape) (r : Answer). with_back (shaped_state shapeF shapeB l) b r) q.1 q.0)

  pub discard_back_is : (a : Answer) (m : LinkState Config Rec F B) → DiscardBack Y l a m
      → (a ≡ (discard_back_of (shaped_state shapeF shapeB l)).answer) × (shaped_state shapeF shapeB m ≡ (discard_back_of (shaped_state shapeF shapeB l)).after)
  discard_back_is a m h =
      let q = back.take l.back h.0.0 m.back h.0.1 in
      let e : a ≡ (discard_back_of (shaped_state shapeF shapeB l)).answer = h.0.2 ∙ ap without_word q.0 in
      (e, ap (shaped_state shapeF shapeB) h.1 ∙ ap₂ (λ (b : Shape) (r : Answer). with_back (shaped_state shapeF shapeB l) b r) q.1 e)
