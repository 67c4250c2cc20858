-- A call on a link over channels that move as their shapes answers and leaves what is computed of the link over shapes. Assumes nothing.
use Rattle.std.proofs.Common.{◌≡◌, ℕ, Bool, true, false, eqb, Some, Ok, Option, Result, sym, refl, ap, ◌∙◌, ap₂, inl, inr, eq-eqb, ne_eqb}
use Rattle.wire.specs.Refusals.{Answer}
use Rattle.wire.specs.declared.refusal.Refusal.{Refusal}
use Rattle.channel.specs.Meaning.{Meaning, Behaviour}
use Rattle.recovery.specs.Codec.{Codec}
use Rattle.recovery.specs.State.{LinkState, codec_of, senders_label, receivers_label, clean_at, clean}
use Rattle.ends.specs.Observers.{observed}
use Rattle.recovery.specs.Changes.{over, rested}
use Rattle.recovery.specs.Check.{checked, checked_link}
use Rattle.recovery.specs.Steps as steps
use Rattle.recovery.specs.Steps.{Offer, Send, Hear, Settle, Ticks, Round}
use Rattle.ends.specs.declared.sender.State.{State}
use Rattle.ends.specs.declared.sender.State.TheVariants.{Idle, UnderWay}
use Rattle.shapes.specs.Shapes.{Shape, put}
use Rattle.shapes.specs.Moves.{Moves, shape_behaviour}
use Rattle.model.specs.Models.{Model, shaped_state, Turn, Hearing, Rounding}
use Rattle.model.specs.Calls.{offer_by, offer_of, send_by, send_of, hear_record, hear_word, hear_by, hear_of, settle_label, settle_word, settle_by, settle_of, tick_of, round_of}

module _ {Config Rec : Type 0} where
  abbrev turn : Answer → Model Config Rec → Turn Config Rec
  turn a l = record { answer = a; after = l }

  abbrev hearing : Answer → Answer → Model Config Rec → Hearing Config Rec
  hearing a c l = record { heard = a; reply = c; after = l }

  abbrev rounding : Answer → Answer → Answer → Answer → Model Config Rec → Rounding Config Rec
  rounding a h c d l = record { sent = a; heard = h; reply = c; settled = d; after = l }

module _ {Config Rec F B : Type 0} (codec : Config → Codec Rec) {X : Behaviour F} {Y : Behaviour B} {shapeF : F → Shape} {shapeB : B → Shape} (forward : Moves shapeF X) (back : Moves shapeB Y) where
  abbrev shaped : LinkState Config Rec F B → Model Config Rec
  shaped = shaped_state shapeF shapeB

  -- the link is as clean as the link over shapes, and its check answers the same
  pub clean_is : (l : LinkState Config Rec F B) → clean codec X Y l ≡ clean codec shape_behaviour shape_behaviour (shaped l)
  clean_is l = ap₂ (λ (f b : Meaning). clean_at (codec_of codec l) (senders_label codec l) l.sender.state (receivers_label codec l) f b) (forward.meaning l.forward) (back.meaning l.back)

  pub check_is : (largest : ℕ) (l : LinkState Config Rec F B) → checked_link codec X Y largest l ≡ checked_link codec shape_behaviour shape_behaviour largest (shaped l)
  check_is largest l = ap₂ (λ (f b : Meaning). checked largest (codec_of codec l).labels f b) (forward.meaning l.forward) (back.meaning l.back)

  offer-turn : {l m : LinkState Config Rec F B} {r : Rec} {a : Answer} → Offer codec X Y l r a m → turn a (shaped m) ≡ offer_of codec (shaped l) r
  offer-turn {l = l} {r = r} (steps.busy i) = ap (λ (s : State). offer_by codec s (shaped l) r) (sym i)
  offer-turn {l = l} {r = r} (steps.accepted i) = ap (λ (s : State). offer_by codec s (shaped l) r) (sym i)

  send-turn : {l m : LinkState Config Rec F B} {a : Answer} → Send codec X Y l a m → turn a (shaped m) ≡ send_of codec (shaped l)
  send-turn {l = l} (steps.idle i) =
      ap (λ (s : State). send_by codec s (shaped l) (put (shapeF l.forward) ((codec_of codec l).send_word (senders_label codec l) l.sender.in_hand))) (sym i)
  send-turn {l = l} (steps.sent i p) =
      let q = forward.put _ _ _ _ p in
      ap₂ (λ (a : Answer) (f : Shape). send_by codec UnderWay (shaped l) (a, f)) q.0 q.1
      ∙ ap (λ (s : State). send_by codec s (shaped l) (put (shapeF l.forward) ((codec_of codec l).send_word (senders_label codec l) l.sender.in_hand))) (sym i)

  -- a hear, from what the forward channel gave on
  module _ (l : LinkState Config Rec F B) where
    hear_taken : {t : Result ℕ Refusal} {f : F} → X.takes l.forward t f → hear_by codec t (shaped l) (shapeF f) ≡ hear_of codec (shaped l)
    hear_taken h = let q = forward.take _ _ _ h in ap₂ (λ (t : Result ℕ Refusal) (f : Shape). hear_by codec t (shaped l) f) q.0 q.1

    hear_read : {w : ℕ} {m : Option (ℕ × Rec)} {f : F} → X.takes l.forward (Ok w) f → (codec_of codec l).read_word w ≡ m → hear_word codec m (shaped l) (shapeF f) ≡ hear_of codec (shaped l)
    hear_read {f = f} h i = ap (λ (m : Option (ℕ × Rec)). hear_word codec m (shaped l) (shapeF f)) (sym i) ∙ hear_taken h

    hear_replied : (own : Bool) (x : ℕ) {w : ℕ} {r : Rec} {a : Answer} {f : F} {b : B} → X.takes l.forward (Ok w) f → (codec_of codec l).read_word w ≡ Some (x, r)
        → eqb x (receivers_label codec l) ≡ own → Y.puts l.back ((codec_of codec l).ack_word x) a b → hear_record codec own (shaped l) x r (shapeF f) (a, shapeB b) ≡ hear_of codec (shaped l)
    hear_replied own x {r = r} {f = f} h i e p =
        let q = back.put _ _ _ _ p in
        ap₂ (λ (a : Answer) (b : Shape). hear_record codec own (shaped l) x r (shapeF f) (a, b)) q.0 q.1
        ∙ ap (λ (own : Bool). hear_record codec own (shaped l) x r (shapeF f) (put (shapeB l.back) ((codec_of codec l).ack_word x))) (sym e)
        ∙ hear_read h i

  hear-turn : {l m : LinkState Config Rec F B} {a c : Answer} → Hear codec X Y l a c m → hearing a c (shaped m) ≡ hear_of codec (shaped l)
  hear-turn {l = l} (steps.Hear.silent t) = hear_taken l t
  hear-turn {l = l} (steps.Hear.spoilt t i) = hear_read l t i
  hear-turn {l = l} (steps.repeated t i p) = hear_replied l true (receivers_label codec l) t i (eq-eqb _ _ refl) p
  hear-turn {l = l} (steps.adopted {x = x} t i n p) = hear_replied l false x t i (ne_eqb _ _ n) p

  -- a settle, from what the back channel gave on
  module _ (l : LinkState Config Rec F B) where
    settle_taken : {t : Result ℕ Refusal} {b : B} → Y.takes l.back t b → settle_by codec t (shaped l) (shapeB b) ≡ settle_of codec (shaped l)
    settle_taken h = let q = back.take _ _ _ h in ap₂ (λ (t : Result ℕ Refusal) (b : Shape). settle_by codec t (shaped l) b) q.0 q.1

    settle_read : {w : ℕ} {m : Option ℕ} {b : B} → Y.takes l.back (Ok w) b → (codec_of codec l).read_ack w ≡ m → settle_word codec m (shaped l) (shapeB b) ≡ settle_of codec (shaped l)
    settle_read {b = b} h i = ap (λ (m : Option ℕ). settle_word codec m (shaped l) (shapeB b)) (sym i) ∙ settle_taken h

    settle-decided : (s : State) (own : Bool) {w x : ℕ} {b : B} → Y.takes l.back (Ok w) b → (codec_of codec l).read_ack w ≡ Some x → l.sender.state ≡ s → eqb x (senders_label codec l) ≡ own
        → settle_label codec s own (shaped l) (shapeB b) ≡ settle_of codec (shaped l)
    settle-decided s own {b = b} h i j e = ap₂ (λ (s : State) (own : Bool). settle_label codec s own (shaped l) (shapeB b)) (sym j) (sym e) ∙ settle_read h i

  stale_under : (s : State) (l : Model Config Rec) (b : Shape) → settle_label codec s false l b ≡ settle_label codec Idle false l b
  stale_under Idle l b = refl
  stale_under UnderWay l b = refl

  settle-turn : {l m : LinkState Config Rec F B} {a : Answer} → Settle codec X Y l a m → turn a (shaped m) ≡ settle_of codec (shaped l)
  settle-turn {l = l} (steps.Settle.silent t) = settle_taken l t
  settle-turn {l = l} (steps.Settle.spoilt t i) = settle_read l t i
  settle-turn {l = l} (steps.stale t i (inl s)) = settle-decided l Idle _ t i s refl
  settle-turn {l = l} (steps.stale {b = b} t i (inr n)) = sym (stale_under l.sender.state (shaped l) (shapeB b)) ∙ settle-decided l _ false t i refl (ne_eqb _ _ n)
  settle-turn {l = l} (steps.completed {b = b} t i s) =
      ap (λ (mark : Bool). turn (Ok tt) (rested (shaped l) (shapeB b) (observed mark l.observer))) (clean_is (rested l b l.observer))
      ∙ settle-decided l UnderWay true t i s (eq-eqb _ _ refl)

  tick-turn : {l m : LinkState Config Rec F B} {a : Answer} → Ticks codec X Y l a m → turn a (shaped m) ≡ tick_of codec (shaped l)
  tick-turn {l = l} (steps.ticked f b) = ap₂ (λ (f b : Shape). turn (Ok tt) (over (shaped l) f b)) (forward.tick _ _ f) (back.tick _ _ b)

  -- the calls of a round, from the last to the first
  round-turn : {l m : LinkState Config Rec F B} {a h c d : Answer} → Round codec X Y l a h c d m → rounding a h c d (shaped m) ≡ round_of codec (shaped l)
  round-turn (steps.in_turn {a = a} {h = h} {c = c} {d = d} s₁ s₂ s₃ s₄) =
      ap (λ (t : Turn Config Rec). rounding a h c d t.after) (tick-turn s₄)
      ∙ ap (λ (t : Turn Config Rec). rounding a h c t.answer (tick_of codec t.after).after) (settle-turn s₃)
      ∙ ap (λ (t : Hearing Config Rec). let d : Turn Config Rec = settle_of codec t.after in rounding a t.heard t.reply d.answer (tick_of codec d.after).after) (hear-turn s₂)
      ∙ ap (λ (t : Turn Config Rec). let h : Hearing Config Rec = hear_of codec t.after in let d : Turn Config Rec = settle_of codec h.after in rounding t.answer h.heard h.reply d.answer (tick_of codec d.after).after) (send-turn s₁)

  pub offer_is : {l m : LinkState Config Rec F B} {r : Rec} {a : Answer} → Offer codec X Y l r a m
      → (a ≡ (offer_of codec (shaped l) r).answer) × (shaped m ≡ (offer_of codec (shaped l) r).after)
  offer_is s = let e = offer-turn s in (ap (λ (t : Turn Config Rec). t.answer) e, ap (λ (t : Turn Config Rec). t.after) e)

  pub send_is : {l m : LinkState Config Rec F B} {a : Answer} → Send codec X Y l a m → (a ≡ (send_of codec (shaped l)).answer) × (shaped m ≡ (send_of codec (shaped l)).after)
  send_is s = let e = send-turn s in (ap (λ (t : Turn Config Rec). t.answer) e, ap (λ (t : Turn Config Rec). t.after) e)

  pub hear_is : {l m : LinkState Config Rec F B} {a c : Answer} → Hear codec X Y l a c m
      → (a ≡ (hear_of codec (shaped l)).heard) × (c ≡ (hear_of codec (shaped l)).reply) × (shaped m ≡ (hear_of codec (shaped l)).after)
  hear_is s = let e = hear-turn s in (ap (λ (t : Hearing Config Rec). t.heard) e, ap (λ (t : Hearing Config Rec). t.reply) e, ap (λ (t : Hearing Config Rec). t.after) e)

  pub settle_is : {l m : LinkState Config Rec F B} {a : Answer} → Settle codec X Y l a m → (a ≡ (settle_of codec (shaped l)).answer) × (shaped m ≡ (settle_of codec (shaped l)).after)
  settle_is s = let e = settle-turn s in (ap (λ (t : Turn Config Rec). t.answer) e, ap (λ (t : Turn Config Rec). t.after) e)

  pub tick_is : {l m : LinkState Config Rec F B} {a : Answer} → Ticks codec X Y l a m → (a ≡ (tick_of codec (shaped l)).answer) × (shaped m ≡ (tick_of codec (shaped l)).after)
  tick_is s = let e = tick-turn s in (ap (λ (t : Turn Config Rec). t.answer) e, ap (λ (t : Turn Config Rec). t.after) e)

  pub round_is : {l m : LinkState Config Rec F B} {a h c d : Answer} → Round codec X Y l a h c d m
      → (a ≡ (round_of codec (shaped l)).sent) × (h ≡ (round_of codec (shaped l)).heard) × (c ≡ (round_of codec (shaped l)).reply) × (d ≡ (round_of codec (shaped l)).settled)
      × (shaped m ≡ (round_of codec (shaped l)).after)
  round_is s =
      let e = round-turn s in
      (ap (λ (t : Rounding Config Rec). t.sent) e, ap (λ (t : Rounding Config Rec). t.heard) e, ap (λ (t : Rounding Config Rec). t.reply) e, ap (λ (t : Rounding Config Rec). t.settled) e, ap (λ (t : Rounding Config Rec). t.after) e)
