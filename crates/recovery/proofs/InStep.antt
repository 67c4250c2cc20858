-- An exchange whose label stood in neither channel when it began ends clean; from then on the ends stay in step: each record is
-- delivered once, in order, and each exchange ends clean. Assumes nothing.
use Rattle.std.proofs.Common.{◌≡◌, ℕ, ◌+◌, ◌%◌, ◌<◌, ◌≤◌, Bool, true, false, ◌≢◌, List, [], ◌∷◌, Some, sym, refl, ap, ◌∙◌, inl, inr}
use borrow.Author.Tests.{both_ways}
use Rattle.std.specs.List.{AllByRecursion as All}
use Rattle.std.proofs.ByRecursion.{All-weaker}
use Rattle.channel.specs.Meaning.{Meaning}
use Rattle.recovery.specs.Codec.{Codec, CodecLaws, label_in, word_label}
use Rattle.recovery.specs.Runs.{Event, accepts, delivers, completes, round}
use Rattle.ends.specs.declared.sender.State.TheVariants.{UnderWay}
use Rattle.recovery.proofs.Channels.{PutCase, all-put, all_taken, all_sublist, Turned, all_old, turned_put, turned_taken, turned_sublist}
use Rattle.recovery.proofs.Labels.{not_both, next-other, Agrees, Lacks, some_same, some-none, agrees_some, lacks_some, agrees_lacks, Quiet, quiet-clean}
use Rattle.recovery.proofs.Model as model
use Rattle.recovery.proofs.Model.{View, over, delivered, rested, Offer, Send, Hear, Settle, Ticks, ticked, Step}

module _ {Rec : Type 0} (C : Codec Rec) where
  -- The words from before the exchange: they do not carry its label x, and once an exchange ended clean they carry the receiver's ρ.
  abbrev pub Old : Bool → ℕ → ℕ → ℕ → Type 0
  Old true ρ x w = Agrees ρ (word_label C w)
  Old false ρ x w = Lacks x (word_label C w)

  -- The words of the exchange with the label x and the record r.
  abbrev pub New : ℕ → Rec → ℕ → Type 0
  New x r w = C.read_word w ≡ Some (x, r)

  -- Acknowledgements of other exchanges, and of the one with the label x.
  abbrev pub OldAck : ℕ → ℕ → Type 0
  OldAck x w = Lacks x (C.read_ack w)

  abbrev pub NewAck : ℕ → ℕ → Type 0
  NewAck x w = C.read_ack w ≡ Some x

  -- The link rests clean; or its exchange awaits that the first of its words is heard; or one was heard, and only words of the
  -- exchange are on their way. s says whether an exchange ended clean before; pending are the records accepted and not yet delivered.
  pub data InStep (v : View Rec) : Bool → List Rec → Type 0 where
    rests : Quiet C v → InStep v true []
    awaits : {s : Bool} → v.state ≡ UnderWay → (s ≡ true → v.other ≢ v.own) →
        Turned (Old s v.other v.own) (New v.own v.hand) v.forward.contents →
        All (OldAck v.own) v.back.contents → InStep v s (v.hand ∷ [])
    heard : {s : Bool} → v.state ≡ UnderWay → v.other ≡ v.own → All (New v.own v.hand) v.forward.contents →
        Turned (OldAck v.own) (NewAck v.own) v.back.contents → InStep v s []

  -- What a step makes of it.
  pub data Outcome (s : Bool) (pending : List Rec) (w : View Rec) : List (Event Rec) → Type 0 where
    stays : InStep w s pending → Outcome s pending w []
    marks : InStep w s pending → Outcome s pending w (round ∷ [])
    begins : {r : Rec} → s ≡ true → pending ≡ [] → InStep w s (r ∷ []) → Outcome s pending w (accepts r ∷ [])
    adopts : {r : Rec} → s ≡ false → InStep w s pending → Outcome s pending w (delivers r ∷ [])
    passes : {r : Rec} → pending ≡ r ∷ [] → InStep w s [] → Outcome s pending w (delivers r ∷ [])
    passed : s ≡ false → InStep w s [] → Outcome s pending w []
    ends : {clean : Bool} → clean ≡ true → pending ≡ [] → InStep w true [] → Outcome s pending w (completes clean ∷ [])

  read_label : {w x : ℕ} {r : Rec} → C.read_word w ≡ Some (x, r) → word_label C w ≡ Some x
  read_label e = ap label_in e

  same_label : {w x y : ℕ} {r s : Rec} → C.read_word w ≡ Some (x, r) → C.read_word w ≡ Some (y, s) → x ≡ y
  same_label h k = ap (λ (p : ℕ × Rec). p.0) (some_same h k)

  same_record : {w x y : ℕ} {r s : Rec} → C.read_word w ≡ Some (x, r) → C.read_word w ≡ Some (y, s) → r ≡ s
  same_record h k = ap (λ (p : ℕ × Rec). p.1) (some_same h k)

  module _ (laws : CodecLaws C) where
    -- At rest.
    rest-offer : {v w : View Rec} {e : List (Event Rec)} → v.own < C.labels → 2 ≤ C.labels → Quiet C v → Offer C v e w → Outcome true [] w e
    rest-offer b k q model.refused = stays (rests q)
    rest-offer {v = v} b k q (model.accepted a i) =
        begins refl refl (awaits refl (λ _. rw q.agreed apart) (all_old _ _ _ (rw q.agreed q.forward)) (All-weaker _ _ (λ w h. agrees_lacks apart h) _ q.back))
      where
        apart : v.own ≢ (v.own + 1) % C.labels
        apart = next-other C.labels v.own b k

    rest-send : {v w : View Rec} → Quiet C v → Send C v w → Outcome true [] w []
    rest-send q (model.idle i) = stays (rests q)
    rest-send q (model.sent i p) = absurd (not_both i q.idle)

    -- a repeat is acknowledged with the same label
    rest-hear : {v w : View Rec} {e : List (Event Rec)} → Quiet C v → Hear C v e w → Outcome true [] w e
    rest-hear q (model.Hear.silent s) = stays (rests q)
    rest-hear q (model.spoilt t i) =
        stays (rests (record { idle = q.idle; agreed = q.agreed; forward = (all_taken _ t q.forward).1; back = q.back }))
    rest-hear {v = v} q (model.repeated {w = w} {r = r} t i p) =
        stays (rests (record {
          idle = q.idle;
          agreed = q.agreed;
          forward = (all_taken _ t q.forward).1;
          back = all-put _ p (agrees_some (laws.acks v.other (laws.word_labels w v.other r i)) q.agreed) q.back;
        }))
    rest-hear q (model.adopted t i n p) = absurd (n ((all_taken _ t q.forward).0 _ (read_label i) ∙ sym q.agreed))

    rest-settle : {v w : View Rec} {e : List (Event Rec)} → Quiet C v → Settle C v e w → Outcome true [] w e
    rest-settle q (model.Settle.silent s) = stays (rests q)
    rest-settle q (model.discarded t o) =
        stays (rests (record { idle = q.idle; agreed = q.agreed; forward = q.forward; back = (all_taken _ t q.back).1 }))
    rest-settle q (model.completed t i u) = absurd (not_both u q.idle)

    rest-tick : {v w : View Rec} → Quiet C v → Ticks C v w → Outcome true [] w []
    rest-tick q (ticked s t) =
        stays (rests (record {
          idle = q.idle;
          agreed = q.agreed;
          forward = all_sublist _ s.order q.forward;
          back = all_sublist _ t.order q.back;
        }))

    -- With an exchange under way.
    module _ (v : View Rec) (below : v.own < C.labels) (allowed : C.allows v.hand ≡ true) (way : v.state ≡ UnderWay) where
      new_word : New v.own v.hand (C.send_word v.own v.hand)
      new_word = laws.words v.own v.hand below allowed

      new_ack : {x : ℕ} → x ≡ v.own → NewAck v.own (C.ack_word x)
      new_ack e = rw e (laws.acks v.own below)

      busy : {s : Bool} {pending : List Rec} {w : View Rec} {e : List (Event Rec)} → InStep v s pending → Offer C v e w → Outcome s pending w e
      busy h model.refused = stays h
      busy h (model.accepted a i) = absurd (not_both way i)

      -- None of its words was heard yet.
      module _ (s : Bool) (apart : s ≡ true → v.other ≢ v.own) (forward : Turned (Old s v.other v.own) (New v.own v.hand) v.forward.contents)
          (back : All (OldAck v.own) v.back.contents) where
        awaits-send : {w : View Rec} → Send C v w → Outcome s (v.hand ∷ []) w []
        awaits-send (model.idle i) = absurd (not_both way i)
        awaits-send (model.sent i p) = stays (awaits way apart (turned_put _ _ p new_word forward) back)

        awaits-settle : {w : View Rec} {e : List (Event Rec)} → Settle C v e w → Outcome s (v.hand ∷ []) w e
        awaits-settle (model.Settle.silent i) = stays (awaits way apart forward back)
        awaits-settle (model.discarded t o) = stays (awaits way apart forward (all_taken _ t back).1)
        awaits-settle (model.completed t i u) = absurd ((all_taken _ t back).0 i)

        awaits-tick : {w : View Rec} → Ticks C v w → Outcome s (v.hand ∷ []) w []
        awaits-tick (ticked h k) = stays (awaits way apart (turned_sublist _ _ h.order forward) (all_sublist _ k.order back))

        -- an old word is acknowledged with another label
        old_reply : {w y : ℕ} {r : Rec} {b : Meaning} → Old s v.other v.own w → C.read_word w ≡ Some (y, r) →
            PutCase v.back (C.ack_word y) b → All (OldAck v.own) b.contents
        old_reply {w = w} {y = y} {r = r} h i p = all-put _ p (lacks_some (laws.acks y (laws.word_labels w y r i)) (old_label s apart h)) back
          where
            old_label : (s : Bool) → (s ≡ true → v.other ≢ v.own) → Old s v.other v.own w → y ≢ v.own
            old_label true n h e = n refl (sym (h y (read_label i)) ∙ e)
            old_label false n h e = h (rw e at (read_label i))

        -- a new word is acknowledged with the exchange's label
        new-reply : {y : ℕ} {b : Meaning} → y ≡ v.own → PutCase v.back (C.ack_word y) b → Turned (OldAck v.own) (NewAck v.own) b.contents
        new-reply e p = turned_put _ _ p (new_ack e) (all_old _ _ _ back)

        awaits-hear : {w : View Rec} {e : List (Event Rec)} → Hear C v e w → Outcome s (v.hand ∷ []) w e
        awaits-hear (model.Hear.silent i) = stays (awaits way apart forward back)
        awaits-hear (model.spoilt t i) =
            elim (turned_taken _ _ t forward) [ inl u ↦ stays (awaits way apart u.1 back) | inr u ↦ absurd (some-none u.0 i) ]
        awaits-hear (model.repeated {f = f} {b = b} t i p) =
            elim (turned_taken _ _ t forward) [
              | inl u ↦ stays (awaits way apart u.1 (old_reply u.0 i p))
              | inr u ↦ let e : v.other ≡ v.own = same_label i u.0 in repeats s apart (heard way e u.1 (new-reply e p))
            ]
          where
            repeats : (s : Bool) → (s ≡ true → v.other ≢ v.own) → InStep (over v f b) s [] → Outcome s (v.hand ∷ []) (over v f b) []
            repeats true n h = absurd (n refl (same_end h))
              where
                same_end : InStep (over v f b) true [] → v.other ≡ v.own
                same_end (rests q) = q.agreed
                same_end (heard w e a t) = e
            repeats false n h = passed refl h
        awaits-hear (model.adopted {w = z} {x = y} {r = r} {f = f} {b = b} t i n p) =
            elim (turned_taken _ _ t forward) [
              | inl u ↦ adopts_old s u.0 u.1 (old_reply u.0 i p)
              | inr u ↦ let e : y ≡ v.own = same_label i u.0 in passes (ap (λ (z : Rec). z ∷ []) (same_record u.0 i)) (heard way e u.1 (new-reply e p))
            ]
          where
            adopts_old : (s : Bool) → Old s v.other v.own z → Turned (Old s v.other v.own) (New v.own v.hand) f.contents →
                All (OldAck v.own) b.contents → Outcome s (v.hand ∷ []) (delivered v y f b) (delivers r ∷ [])
            adopts_old true h k a = absurd (n (h y (read_label i)))
            adopts_old false h k a = adopts refl (awaits way (λ z. absurd (both_ways _ refl z)) k a)

      -- All that stands in the forward channel is the exchange's.
      module _ (s : Bool) (agree : v.other ≡ v.own) (forward : All (New v.own v.hand) v.forward.contents)
          (back : Turned (OldAck v.own) (NewAck v.own) v.back.contents) where
        heard-send : {w : View Rec} → Send C v w → Outcome s [] w []
        heard-send (model.idle i) = absurd (not_both way i)
        heard-send (model.sent i p) = stays (heard way agree (all-put _ p new_word forward) back)

        heard-hear : {w : View Rec} {e : List (Event Rec)} → Hear C v e w → Outcome s [] w e
        heard-hear (model.Hear.silent i) = stays (heard way agree forward back)
        heard-hear (model.spoilt t i) = absurd (some-none (all_taken _ t forward).0 i)
        heard-hear (model.repeated t i p) = stays (heard way agree (all_taken _ t forward).1 (turned_put _ _ p (new_ack agree) back))
        heard-hear (model.adopted t i n p) = absurd (n (same_label i (all_taken _ t forward).0 ∙ sym agree))

        quiet : (b : Meaning) → All (NewAck v.own) b.contents → Quiet C (rested v b)
        quiet b a =
            record {
              idle = refl;
              agreed = agree;
              forward = All-weaker _ _ (λ w h. agrees_some (read_label h) refl) _ forward;
              back = All-weaker _ _ (λ w h. agrees_some h refl) _ a;
            }

        heard-settle : {w : View Rec} {e : List (Event Rec)} → Settle C v e w → Outcome s [] w e
        heard-settle (model.Settle.silent i) = stays (heard way agree forward back)
        heard-settle (model.discarded t o) =
            elim (turned_taken _ _ t back) [ inl u ↦ stays (heard way agree forward u.1) | inr u ↦ absurd (elim o [ inl i ↦ not_both way i | inr n ↦ n u.0 ]) ]
        heard-settle (model.completed {b = b} t i u) =
            elim (turned_taken _ _ t back) [ inl k ↦ absurd (k.0 i) | inr k ↦ let q = quiet b k.1 in ends (quiet-clean C _ q) refl (rests q) ]

        heard-tick : {w : View Rec} → Ticks C v w → Outcome s [] w []
        heard-tick (ticked h k) = stays (heard way agree (all_sublist _ h.order forward) (turned_sublist _ _ k.order back))

    pub step_in_step : {v w : View Rec} {e : List (Event Rec)} {s : Bool} {pending : List Rec} → v.own < C.labels → C.allows v.hand ≡ true →
        2 ≤ C.labels → InStep v s pending → Step C v e w → Outcome s pending w e
    step_in_step b a k (rests q) (model.Step.offer h) = rest-offer b k q h
    step_in_step b a k (rests q) (model.Step.send h) = rest-send q h
    step_in_step b a k (rests q) (model.Step.hear h) = rest-hear q h
    step_in_step b a k (rests q) (model.Step.settle h) = rest-settle q h
    step_in_step b a k (rests q) (model.Step.tick h) = rest-tick q h
    step_in_step {v = v} b a k (awaits u n f t) (model.Step.offer h) = busy v b a u (awaits u n f t) h
    step_in_step {v = v} {s = s} b a k (awaits u n f t) (model.Step.send h) = awaits-send v b a u s n f t h
    step_in_step {v = v} {s = s} b a k (awaits u n f t) (model.Step.hear h) = awaits-hear v b a u s n f t h
    step_in_step {v = v} {s = s} b a k (awaits u n f t) (model.Step.settle h) = awaits-settle v b a u s n f t h
    step_in_step {v = v} {s = s} b a k (awaits u n f t) (model.Step.tick h) = awaits-tick v b a u s n f t h
    step_in_step {v = v} b a k (heard u n f t) (model.Step.offer h) = busy v b a u (heard u n f t) h
    step_in_step {v = v} {s = s} b a k (heard u n f t) (model.Step.send h) = heard-send v b a u s n f t h
    step_in_step {v = v} {s = s} b a k (heard u n f t) (model.Step.hear h) = heard-hear v b a u s n f t h
    step_in_step {v = v} {s = s} b a k (heard u n f t) (model.Step.settle h) = heard-settle v b a u s n f t h
    step_in_step {v = v} {s = s} b a k (heard u n f t) (model.Step.tick h) = heard-tick v b a u s n f t h
    step_in_step b a k h model.mark = marks h
