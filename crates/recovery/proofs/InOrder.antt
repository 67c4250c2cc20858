-- Runs from a fresh exchange on: every exchange ends clean, and the records are delivered in order. Assumes nothing.
use Rattle.std.proofs.Common.{◌≡◌, ℕ, suc, ◌≤◌, Bool, true, false, List, [], ◌∷◌, ◌++◌, replicate, refl, ap, inl, inr}
use borrow.Author.Tests.{both_ways}
use Rattle.std.proofs.lemmas.List.{append-nil}
use Rattle.recovery.specs.Codec.{Codec, CodecLaws}
use Rattle.recovery.specs.Runs.{Event, completes}
use Rattle.recovery.specs.Tallies.{accepted_in, delivered_in, completed_in, after_clean}
use Rattle.recovery.specs.Findings.{InOrder}
use Rattle.ends.specs.declared.sender.Sender.{Sender}
use Rattle.recovery.proofs.Model.{View, Steps, done, next}
use Rattle.recovery.proofs.InStep.{InStep, rests, awaits, heard, Outcome, stays, marks, begins, adopts, passes, passed, ends, step_in_step}
use Rattle.recovery.proofs.Wiring.{Wired, wired}

abbrev pub sender_of : {Rec : Type 0} → View Rec → Sender Rec
sender_of v = record { label = v.own; state = v.state; in_hand = v.hand }

module _ {Rec : Type 0} (C : Codec Rec) (laws : CodecLaws C) (two : 2 ≤ C.labels) (f p b q : ℕ) where
  -- After a clean exchange, with the records pending.
  record Onward (pending : List Rec) (es : List (Event Rec)) (w : View Rec) : Type 0 where
    left : List Rec
    in_step : InStep C w true left
    order : pending ++ accepted_in es ≡ delivered_in es ++ left
    clean : ℕ
    completed_clean : completed_in es ≡ replicate clean true

  onward : (v w : View Rec) (pending : List Rec) (es : List (Event Rec)) → Wired C f p b q v → InStep C v true pending → Steps C v es w →
      Onward pending es w
  onward v w pending es g h done = record { left = pending; in_step = h; order = append-nil pending; clean = 0; completed_clean = refl }
  onward v w pending es g h (next {w = u} {e = e} {es = fs} s k rest) =
      go e (step_in_step C laws g.below g.allowed two h s) (λ pend i. onward u w pend fs (wired C f p b q g k s) i rest)
    where
      go : (e : List (Event Rec)) → Outcome C true pending u e → ((pend : List Rec) → InStep C u true pend → Onward pend fs w) →
          Onward pending (e ++ fs) w
      go e (stays i) ih = ih pending i
      go e (marks i) ih =
          let t = ih pending i in record { left = t.left; in_step = t.in_step; order = t.order; clean = t.clean; completed_clean = t.completed_clean }
      go e (begins {r = r} s j i) ih =
          let t = ih (r ∷ []) i in record { left = t.left; in_step = t.in_step; order = rw j t.order; clean = t.clean; completed_clean = t.completed_clean }
      go e (adopts s i) ih = absurd (both_ways _ s refl)
      go e (passes {r = r} j i) ih =
          let t = ih [] i in
          record {
            left = t.left;
            in_step = t.in_step;
            order = rw j (ap (λ (z : List Rec). r ∷ z) t.order);
            clean = t.clean;
            completed_clean = t.completed_clean;
          }
      go e (passed s i) ih = absurd (both_ways _ s refl)
      go e (ends c j i) ih =
          let t = ih [] i in
          record {
            left = t.left;
            in_step = t.in_step;
            order = rw j t.order;
            clean = suc t.clean;
            completed_clean = rw c (ap (λ (z : List Bool). true ∷ z) t.completed_clean);
          }

  in_order : (w : View Rec) (left : List Rec) (es : List (Event Rec)) → InStep C w true left → accepted_in es ≡ delivered_in es ++ left →
      InOrder es (sender_of w)
  in_order w left es (rests q) e = record { missing = []; order = e; last = inl refl }
  in_order w left es (awaits u n t a) e = record { missing = w.hand ∷ []; order = e; last = inr (u, refl) }
  in_order w left es (heard u n t a) e = record { missing = []; order = e; last = inl refl }

  -- What is found of such a run: each exchange left the link clean, and after the first the records are in order.
  pub record AllClean (es : List (Event Rec)) (w : View Rec) : Type 0 where
    pub clean : ℕ
    pub completed_clean : completed_in es ≡ replicate clean true
    pub ordered : InOrder (after_clean es) (sender_of w)

  -- From the moment after a clean exchange.
  pub clean-then : (v w : View Rec) (es : List (Event Rec)) → Wired C f p b q v → InStep C v true [] → Steps C v es w →
      AllClean (completes true ∷ es) w
  clean-then v w es g h r =
      let t = onward v w [] es g h r in
      record {
        clean = suc t.clean;
        completed_clean = ap (λ (z : List Bool). true ∷ z) t.completed_clean;
        ordered = in_order w t.left es t.in_step t.order;
      }

  -- From the moment after a fresh exchange began.
  pub fresh-then : (v w : View Rec) (pending : List Rec) (es : List (Event Rec)) → Wired C f p b q v → InStep C v false pending → Steps C v es w →
      AllClean es w
  fresh-then v w pending es g h done = record { clean = 0; completed_clean = refl; ordered = record { missing = []; order = refl; last = inl refl } }
  fresh-then v w pending es g h (next {w = u} {e = e} {es = fs} s k rest) =
      let g' = wired C f p b q g k s in
      go e (step_in_step C laws g.below g.allowed two h s) (λ pend i. fresh-then u w pend fs g' i rest) (λ i. clean-then u w fs g' i rest)
    where
      go : (e : List (Event Rec)) → Outcome C false pending u e → ((pend : List Rec) → InStep C u false pend → AllClean fs w) →
          (InStep C u true [] → AllClean (completes true ∷ fs) w) → AllClean (e ++ fs) w
      go e (stays i) ih js = ih pending i
      go e (marks i) ih js = let t = ih pending i in record { clean = t.clean; completed_clean = t.completed_clean; ordered = t.ordered }
      go e (begins s j i) ih js = absurd (both_ways _ refl s)
      go e (adopts s i) ih js = let t = ih pending i in record { clean = t.clean; completed_clean = t.completed_clean; ordered = t.ordered }
      go e (passes j i) ih js = let t = ih [] i in record { clean = t.clean; completed_clean = t.completed_clean; ordered = t.ordered }
      go e (passed s i) ih js = ih [] i
      go e (ends c j i) ih js = rw c (js i)
