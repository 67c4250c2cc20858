-- Calls on a link over channels that move as their shapes are a run, with the events that are computed. Assumes nothing.
use Rattle.std.proofs.Common.{◌≡◌, ℕ, ◌+◌, ◌<◌, ◌≤◌, Bool, List, [], ◌∷◌, ◌++◌, length, get_or, take, Ok, Err, sym, refl, ap, ◌∙◌, subst, ap₂, append_assoc, append-nil}
use Rattle.std.proofs.lemmas.List.{take_more, take_all}
use Rattle.wire.specs.Refusals.{Answer}
use Rattle.channel.specs.Meaning.{Behaviour}
use Rattle.recovery.specs.Codec.{Codec}
use Rattle.recovery.specs.State.{LinkState}
use Rattle.recovery.specs.Steps as steps
use Rattle.recovery.specs.Steps.{Offer, Send, Hear, Settle, Ticks, Round}
use Rattle.recovery.specs.Runs as runs
use Rattle.recovery.specs.Runs.{Event, Run, in_offer, in_hear, in_settle}
use Rattle.shapes.specs.Shapes.{Shape}
use Rattle.shapes.specs.Moves.{Moves, shape_behaviour}
use Rattle.link.specs.declared.calls.Call.{Call}
use Rattle.link.specs.declared.calls.Call.TheVariants as calls
use Rattle.model.specs.Models.{Model, shaped_state}
use Rattle.model.specs.Calls.{hear_of}
use Rattle.model.specs.Sequences.{after, after_all, offer_events, hear_events, settle_events, events, events_all}
use Rattle.model.proofs.Exact.{clean_is, offer_is, send_is, hear_is, settle_is}

-- one run behind another
pub run_append : {Config Rec F B : Type 0} (codec : Config → Codec Rec) {X : Behaviour F} {Y : Behaviour B} {l m n : LinkState Config Rec F B} {es fs : List (Event Rec)} → Run codec X Y l es m → Run codec X Y m fs n → Run codec X Y l (es ++ fs) n
run_append codec runs.stop k = k
run_append codec (runs.Run.offer s r) k = rw append_assoc (runs.Run.offer s (run_append codec r k))
run_append codec (runs.Run.send s r) k = runs.Run.send s (run_append codec r k)
run_append codec (runs.Run.hear s r) k = rw append_assoc (runs.Run.hear s (run_append codec r k))
run_append codec (runs.Run.settle s r) k = rw append_assoc (runs.Run.settle s (run_append codec r k))
run_append codec (runs.Run.tick s r) k = runs.Run.tick s (run_append codec r k)
run_append codec (runs.Run.round s r) k = rw append_assoc (runs.Run.round s (run_append codec r k))

module _ {Config Rec F B : Type 0} (codec : Config → Codec Rec) {X : Behaviour F} {Y : Behaviour B} {shapeF : F → Shape} {shapeB : B → Shape} (forward : Moves shapeF X) (back : Moves shapeB Y) where
  abbrev shaped : LinkState Config Rec F B → Model Config Rec
  shaped = shaped_state shapeF shapeB

  abbrev Runs : LinkState Config Rec F B → List (Event Rec) → LinkState Config Rec F B → Type 0
  Runs l es m = Run codec X Y l es m

  -- what happened is what is computed
  offer-events : {l m : LinkState Config Rec F B} {r : Rec} {a : Answer} → Offer codec X Y l r a m → in_offer codec X Y r a ≡ offer_events codec (shaped l) r
  offer-events {r = r} s = ap (in_offer codec shape_behaviour shape_behaviour r) (offer_is codec forward back s).0

  hear-events : {l m : LinkState Config Rec F B} {a c : Answer} → Hear codec X Y l a c m → in_hear codec X Y a m ≡ hear_events codec (shaped l)
  hear-events {m = m} {a = a} s = let p = hear_is codec forward back s in by a ∙ ap₂ (in_hear codec shape_behaviour shape_behaviour) p.0 p.2
    where
      by : (a : Answer) → in_hear codec X Y a m ≡ in_hear codec shape_behaviour shape_behaviour a (shaped m)
      by (Ok u) = refl
      by (Err e) = refl

  settle-events : {l m : LinkState Config Rec F B} {a : Answer} → Settle codec X Y l a m → in_settle codec X Y a m ≡ settle_events codec (shaped l)
  settle-events {m = m} {a = a} s = let p = settle_is codec forward back s in by a ∙ ap₂ (in_settle codec shape_behaviour shape_behaviour) p.0 p.1
    where
      by : (a : Answer) → in_settle codec X Y a m ≡ in_settle codec shape_behaviour shape_behaviour a (shaped m)
      by (Ok u) = ap (λ (mark : Bool). runs.completes mark ∷ []) (clean_is codec forward back m)
      by (Err e) = refl

  pub offer-run : {l m : LinkState Config Rec F B} {r : Rec} {a : Answer} → Offer codec X Y l r a m → Runs l (events codec (shaped l) (calls.Offer r)) m
  offer-run {l = l} {m = m} s = subst (λ es. Runs l es m) (append-nil _ ∙ offer-events s) (runs.Run.offer s runs.stop)

  pub send-run : {l m : LinkState Config Rec F B} {a : Answer} → Send codec X Y l a m → Runs l (events codec (shaped l) calls.Send) m
  send-run s = runs.Run.send s runs.stop

  pub hear-run : {l m : LinkState Config Rec F B} {a c : Answer} → Hear codec X Y l a c m → Runs l (events codec (shaped l) calls.Hear) m
  hear-run {l = l} {m = m} s = subst (λ es. Runs l es m) (append-nil _ ∙ hear-events s) (runs.Run.hear s runs.stop)

  pub settle-run : {l m : LinkState Config Rec F B} {a : Answer} → Settle codec X Y l a m → Runs l (events codec (shaped l) calls.Settle) m
  settle-run {l = l} {m = m} s = subst (λ es. Runs l es m) (append-nil _ ∙ settle-events s) (runs.Run.settle s runs.stop)

  pub tick-run : {l m : LinkState Config Rec F B} {a : Answer} → Ticks codec X Y l a m → Runs l (events codec (shaped l) calls.Tick) m
  tick-run s = runs.Run.tick s runs.stop

  pub round-run : {l m : LinkState Config Rec F B} {a h c d : Answer} → Round codec X Y l a h c d m → Runs l (events codec (shaped l) calls.Round) m
  round-run {l = l} {m = m} (steps.in_turn {m₁ = m₁} s₁ s₂ s₃ s₄) =
      let sent = (send_is codec forward back s₁).1 in
      let heard = (hear_is codec forward back s₂).2 in
      let hears = hear-events s₂ ∙ ap (hear_events codec) sent in
      let settles = settle-events s₃ ∙ ap (settle_events codec) (heard ∙ ap (λ (k : Model Config Rec). (hear_of codec k).after) sent) in
      subst (λ es. Runs l es m)
      (append-nil _ ∙ ap₂ (λ (es fs : List (Event Rec)). es ++ (fs ++ (runs.Event.round ∷ []))) hears settles) (runs.Run.round (steps.in_turn s₁ s₂ s₃ s₄) runs.stop)

-- the events of calls one after another, and one more
module _ {Config Rec : Type 0} (codec : Config → Codec Rec) where
  events_push : (l : Model Config Rec) (cs : List (Call Rec)) (c : Call Rec) → events_all codec l (cs ++ (c ∷ [])) ≡ events_all codec l cs ++ events codec (after_all codec l cs) c
  events_push l [] c = append-nil _
  events_push l (d ∷ cs) c = ap (λ (es : List (Event Rec)). events codec l d ++ es) (events_push (after codec l d) cs c) ∙ sym (append_assoc (events codec l d) _ _)

  events-more : (l : Model Config Rec) (cs : List (Call Rec)) (i : ℕ) (c : Call Rec) → i < length cs → c ≡ get_or cs i c → events_all codec l (take (i + 1) cs) ≡ events_all codec l (take i cs) ++ events codec (after_all codec l (take i cs)) c
  events-more l cs i c h e =
      ap (events_all codec l) (take_more cs i c h) ∙ events_push l (take i cs) (get_or cs i c)
      ∙ ap (λ (d : Call Rec). events_all codec l (take i cs) ++ events codec (after_all codec l (take i cs)) d) (sym e)

  -- a run of the calls before a position, and of the call there
  pub run_more : {F B : Type 0} {X : Behaviour F} {Y : Behaviour B} {l m n : LinkState Config Rec F B} (start here : Model Config Rec) (cs : List (Call Rec)) (i : ℕ) (c : Call Rec) → i < length cs → c ≡ get_or cs i c
      → here ≡ after_all codec start (take i cs) → Run codec X Y l (events_all codec start (take i cs)) m → Run codec X Y m (events codec here c) n → Run codec X Y l (events_all codec start (take (i + 1) cs)) n
  run_more {X = X} {Y = Y} {l = l} {n = n} start here cs i c h e k r s =
      subst (λ es. Run codec X Y l es n) (ap (λ (m : Model Config Rec). events_all codec start (take i cs) ++ events codec m c) k ∙ sym (events-more start cs i c h e)) (run_append codec r s)

  -- behind the last there are no more
  pub run-all : {F B : Type 0} {X : Behaviour F} {Y : Behaviour B} {l m : LinkState Config Rec F B} (start : Model Config Rec) (cs : List (Call Rec)) (i : ℕ) → length cs ≤ i
      → Run codec X Y l (events_all codec start (take i cs)) m → Run codec X Y l (events_all codec start cs) m
  run-all {X = X} {Y = Y} {l = l} {m = m} start cs i past = subst (λ ds. Run codec X Y l (events_all codec start ds) m) (take_all i cs past)
