-- Calls on a link over shapes, as they are computed, are steps and runs. Assumes nothing.
use Rattle.std.proofs.Common.{◌≡◌, ℕ, Bool, true, false, eqb, Some, None, Ok, Err, Option, Result, refl, ap, ◌∙◌, subst, inl, inr, append-nil, eqb-true}
use borrow.Author.Tests.{eqb-false}
use Rattle.wire.specs.declared.refusal.Refusal.{Refusal}
use Rattle.recovery.specs.Codec.{Codec}
use Rattle.recovery.specs.State.{codec_of, senders_label, receivers_label}
use Rattle.recovery.specs.Steps as steps
use Rattle.recovery.specs.Steps.{Offer, Send, Hear, Settle, Ticks, Round}
use Rattle.recovery.specs.Runs as runs
use Rattle.recovery.specs.Runs.{Event, Run}
use Rattle.ends.specs.declared.sender.State.{State}
use Rattle.ends.specs.declared.sender.State.TheVariants.{Idle, UnderWay}
use Rattle.shapes.specs.Shapes.{Shape, put, take}
use Rattle.shapes.specs.Moves.{shape_behaviour}
use Rattle.link.specs.declared.calls.Call.{Call}
use Rattle.link.specs.declared.calls.Call.TheVariants as calls
use Rattle.model.specs.Models.{Model, Turn, Hearing}
use Rattle.model.specs.Calls.{offer_by, offer_of, send_by, send_of, hear_record, hear_word, hear_by, hear_of, settle_label, settle_word, settle_by, settle_of, tick_of, round_of}
use Rattle.model.specs.Sequences.{after, events}

module _ {Config Rec : Type 0} (codec : Config → Codec Rec) (l : Model Config Rec) where
  abbrev Sends : Turn Config Rec → Type 0
  Sends t = Send codec shape_behaviour shape_behaviour l t.answer t.after

  abbrev Hears : Hearing Config Rec → Type 0
  Hears h = Hear codec shape_behaviour shape_behaviour l h.heard h.reply h.after

  abbrev Settles : Turn Config Rec → Type 0
  Settles t = Settle codec shape_behaviour shape_behaviour l t.answer t.after

  offers : (r : Rec) → Offer codec shape_behaviour shape_behaviour l r (offer_of codec l r).answer (offer_of codec l r).after
  offers r = by l.sender.state refl
    where
      by : (s : State) → l.sender.state ≡ s → Offer codec shape_behaviour shape_behaviour l r (offer_by codec s l r).answer (offer_by codec s l r).after
      by Idle e = steps.accepted e
      by UnderWay e = steps.busy e

  sends : Sends (send_of codec l)
  sends = by l.sender.state refl
    where
      by : (s : State) → l.sender.state ≡ s → Sends (send_by codec s l (put l.forward ((codec_of codec l).send_word (senders_label codec l) l.sender.in_hand)))
      by Idle e = steps.idle e
      by UnderWay e = steps.sent e (refl, refl)

  -- a word that was taken off the forward channel, by what it reads as
  module _ (w : ℕ) (taken : Ok w ≡ (take l.forward).0) where
    abbrev left : Shape
    left = (take l.forward).1

    hears_record : (x : ℕ) (r : Rec) → (codec_of codec l).read_word w ≡ Some (x, r) → (b : Bool) → eqb x (receivers_label codec l) ≡ b
        → Hears (hear_record codec b l x r left (put l.back ((codec_of codec l).ack_word x)))
    hears_record x r e true q =
        let own : x ≡ receivers_label codec l = eqb-true x (receivers_label codec l) q in
        let p = put l.back ((codec_of codec l).ack_word x) in
        steps.repeated (taken, refl) (subst (λ y. (codec_of codec l).read_word w ≡ Some (y, r)) own e)
        (subst (λ y. shape_behaviour.puts l.back ((codec_of codec l).ack_word y) p.0 p.1) own (refl, refl))
    hears_record x r e false q = steps.adopted (taken, refl) e (eqb-false x (receivers_label codec l) q) (refl, refl)

    hears-word : (o : Option (ℕ × Rec)) → (codec_of codec l).read_word w ≡ o → Hears (hear_word codec o l left)
    hears-word None e = steps.Hear.spoilt (taken, refl) e
    hears-word (Some (x, r)) e = hears_record x r e (eqb x (receivers_label codec l)) refl

  hears : Hears (hear_of codec l)
  hears = by (take l.forward).0 refl
    where
      by : (a : Result ℕ Refusal) → a ≡ (take l.forward).0 → Hears (hear_by codec a l (take l.forward).1)
      by (Err e) k = steps.Hear.silent (k, refl)
      by (Ok w) k = hears-word w k ((codec_of codec l).read_word w) refl

  -- an acknowledgement that was taken off the back channel, by its label
  module _ (w : ℕ) (taken : Ok w ≡ (take l.back).0) where
    abbrev rest : Shape
    rest = (take l.back).1

    settles_label : (x : ℕ) → (codec_of codec l).read_ack w ≡ Some x → (s : State) (b : Bool) → l.sender.state ≡ s → eqb x (senders_label codec l) ≡ b → Settles (settle_label codec s b l rest)
    settles_label x e UnderWay true i q = steps.completed (taken, refl) (e ∙ ap Some (eqb-true x (senders_label codec l) q)) i
    settles_label x e UnderWay false i q = steps.stale (taken, refl) e (inr (eqb-false x (senders_label codec l) q))
    settles_label x e Idle b i q = steps.stale (taken, refl) e (inl i)

    settles-word : (o : Option ℕ) → (codec_of codec l).read_ack w ≡ o → Settles (settle_word codec o l rest)
    settles-word None e = steps.Settle.spoilt (taken, refl) e
    settles-word (Some x) e = settles_label x e l.sender.state (eqb x (senders_label codec l)) refl refl

  settles : Settles (settle_of codec l)
  settles = by (take l.back).0 refl
    where
      by : (a : Result ℕ Refusal) → a ≡ (take l.back).0 → Settles (settle_by codec a l (take l.back).1)
      by (Err e) k = steps.Settle.silent (k, refl)
      by (Ok w) k = settles-word w k ((codec_of codec l).read_ack w) refl

  ticks : Ticks codec shape_behaviour shape_behaviour l (tick_of codec l).answer (tick_of codec l).after
  ticks = steps.ticked refl refl

-- A call is a run of one step.
pub call_run : {Config Rec : Type 0} (codec : Config → Codec Rec) (l : Model Config Rec) (c : Call Rec) → Run codec shape_behaviour shape_behaviour l (events codec l c) (after codec l c)
call_run codec l (calls.Offer r) = subst (λ es. Run codec shape_behaviour shape_behaviour l es (offer_of codec l r).after) (append-nil _) (runs.Run.offer (offers codec l r) runs.stop)
call_run codec l calls.Send = runs.Run.send (sends codec l) runs.stop
call_run codec l calls.Hear = subst (λ es. Run codec shape_behaviour shape_behaviour l es (hear_of codec l).after) (append-nil _) (runs.Run.hear (hears codec l) runs.stop)
call_run codec l calls.Settle = subst (λ es. Run codec shape_behaviour shape_behaviour l es (settle_of codec l).after) (append-nil _) (runs.Run.settle (settles codec l) runs.stop)
call_run codec l calls.Tick = runs.Run.tick (ticks codec l) runs.stop
call_run {Config} {Rec} codec l calls.Round =
    let m₁ : Model Config Rec = (send_of codec l).after in
    let m₂ : Model Config Rec = (hear_of codec m₁).after in
    let m₃ : Model Config Rec = (settle_of codec m₂).after in
    subst (λ es. Run codec shape_behaviour shape_behaviour l es (round_of codec l).after) (append-nil _)
    (runs.Run.round (steps.in_turn (sends codec l) (hears codec m₁) (settles codec m₂) (ticks codec m₃)) runs.stop)
