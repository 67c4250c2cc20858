-- Rounds are few for each exchange completed: each round with an exchange under way lowers the bound on the rounds left, and a loss or a
-- completion raises it once. So an exchange under way is completed in time. Assumes nothing.
use Rattle.std.proofs.Common.{◌≡◌, ℕ, zero, suc, ◌+◌, ◌*◌, ◌<◌, ◌≤◌, Bool, ◌≢◌, List, [], ◌∷◌, ◌++◌, length, Some, sym, refl, ap, ◌∙◌, inl, inr, append_assoc, le_refl, mul-le-mul_right, arith}
use Rattle.channel.specs.Meaning.{Meaning}
use Rattle.recovery.specs.Codec.{Codec, CodecLaws}
use Rattle.recovery.specs.Runs.{Event, completes, round}
use Rattle.recovery.specs.Tallies.{completed_in, rounds_in}
use Rattle.recovery.specs.Findings.{most_rounds}
use Rattle.ends.specs.declared.sender.State.TheVariants.{Idle, UnderWay}
use Rattle.recovery.proofs.Channels.{put-losses, tick-losses}
use Rattle.recovery.proofs.Labels.{not_both, some_same, some-none}
use Rattle.recovery.proofs.Model as model
use Rattle.recovery.proofs.Model.{View, over, rested, Offer, Send, Hear, Settle, Ticks, ticked, Run, Working, Step}
use Rattle.recovery.proofs.Wiring.{Wired, wired}
use Rattle.recovery.proofs.RoundsLeft as bound
use Rattle.recovery.proofs.RoundsLeft.{total, Stage, fewer, same, Within, Hearing, Settled, nothing, other, Settling}

-- Neither a completed exchange nor the end of a round is among these events.
abbrev Calm : {Rec : Type 0} → List (Event Rec) → Type 0
Calm {Rec} e = (es : List (Event Rec)) → (completed_in (e ++ es) ≡ completed_in es) × (rounds_in (e ++ es) ≡ rounds_in es)

module _ {Rec : Type 0} (C : Codec Rec) (laws : CodecLaws C) (f p b q : ℕ) where
  -- The words of the exchange with the label x, and their acknowledgements.
  abbrev G : ℕ → ℕ → Type 0
  G x w = (r : Rec) × (C.read_word w ≡ Some (x, r))

  abbrev H : ℕ → ℕ → Type 0
  H x w = C.read_ack w ≡ Some x

  abbrev D : ℕ
  D = (f + 2) * (p + 1) + (b + 1) * (q + 1)

  abbrev left : View Rec → ℕ
  left v = total v.forward v.back

  -- The exchange of the sender's label takes at most N rounds, if nothing is lost.
  abbrev Bound : View Rec → ℕ → Type 0
  Bound v N = Within f p b q (G v.own) (H v.own) v.forward v.back N

  -- The same of what a hear and a settle leave.
  abbrev Heard : View Rec → View Rec → ℕ → Type 0
  Heard v w N = Hearing f p b q (G w.own) (H w.own) v.forward w.forward w.back N

  abbrev Settles : View Rec → ℕ → Type 0
  Settles v N = Settling f p b q (G v.own) (H v.own) v.forward v.back N

  abbrev Since : View Rec → Type 0 → View Rec → Type 0
  Since v P w = Stage (left v) P w.forward w.back

  -- What each call does to the bound.
  send : {v w : View Rec} {N : ℕ} → v.state ≡ UnderWay → Wired C f p b q v → Wired C f p b q w → Send C v w → Bound v N →
      Since v (Bound w N × (0 < length w.forward.contents)) w
  send way g g' (model.idle i) h = absurd (not_both way i)
  send {v = v} way g g' (model.sent i t) h =
      bound.sends f p b q _ _ g.forward g'.forward (v.hand, laws.words v.own v.hand g.below g.allowed) t h

  acks : {w x y : ℕ} {r : Rec} → C.read_word w ≡ Some (y, r) → G x w → H x (C.ack_word y)
  acks {w = w} {y = y} {r = r} e h = laws.acks y (laws.word_labels w y r e) ∙ ap (λ (z : ℕ × Rec). Some z.0) (some_same e h.1)

  hear : {v w : View Rec} {e : List (Event Rec)} {N : ℕ} → Wired C f p b q v → Wired C f p b q w → Hear C v e w → Bound v (suc N) →
      Since v (Heard v w N) w
  hear g g' (model.Hear.silent i) h = same refl (bound.hears-nothing f p b q _ _ i h)
  hear g g' (model.spoilt t i) h =
      same (omega (arith, t.losses)) (bound.hears-other f p b q _ _ g'.forward g.back t (λ z. some-none z.1 i) h)
  hear g g' (model.repeated t i u) h = bound.hears-reply f p b q _ _ g'.forward g'.back t (acks i) u h
  hear g g' (model.adopted t i n u) h = bound.hears-reply f p b q _ _ g'.forward g'.back t (acks i) u h

  -- A settle completes the exchange, or leaves it under way.
  data SettleCase (v : View Rec) : List (Event Rec) → View Rec → Type 0 where
    finished : {c : Bool} {k : Meaning} → SettleCase v (completes c ∷ []) (rested v k)
    unfinished : {k : Meaning} → Settled f p b q (G v.own) (H v.own) v.back k → SettleCase v [] (over v v.forward k)

  settle_case : {v w : View Rec} {e : List (Event Rec)} → v.state ≡ UnderWay → Settle C v e w → SettleCase v e w
  settle_case way (model.Settle.silent s) = unfinished (nothing s)
  settle_case way (model.discarded t o) = unfinished (other t (λ h. elim o [ inl i ↦ not_both way i | inr n ↦ n h ]))
  settle_case way (model.completed t i u) = finished

  -- No call raises the losses left; and a hear leaves the sender as it is.
  falls : {v w : View Rec} {e : List (Event Rec)} → Step C v e w → left w ≤ left v
  falls (model.Step.offer model.refused) = omega arith
  falls (model.Step.offer (model.accepted a i)) = omega arith
  falls (model.Step.send (model.idle i)) = omega arith
  falls (model.Step.send (model.sent i t)) = omega (arith, put-losses t)
  falls (model.Step.hear (model.Hear.silent s)) = omega arith
  falls (model.Step.hear (model.spoilt t i)) = omega (arith, t.losses)
  falls (model.Step.hear (model.repeated t i u)) = omega (arith, t.losses, put-losses u)
  falls (model.Step.hear (model.adopted t i n u)) = omega (arith, t.losses, put-losses u)
  falls (model.Step.settle (model.Settle.silent s)) = omega arith
  falls (model.Step.settle (model.discarded t o)) = omega (arith, t.losses)
  falls (model.Step.settle (model.completed t i u)) = omega (arith, t.losses)
  falls (model.Step.tick (ticked s t)) = omega (arith, tick-losses s, tick-losses t)
  falls model.mark = omega arith

  hear-state : {v w : View Rec} {e : List (Event Rec)} → Hear C v e w → w.state ≡ v.state
  hear-state (model.Hear.silent s) = refl
  hear-state (model.spoilt t i) = refl
  hear-state (model.repeated t i u) = refl
  hear-state (model.adopted t i n u) = refl

  hear_calm : {v w : View Rec} {e : List (Event Rec)} → Hear C v e w → Calm e
  hear_calm (model.Hear.silent s) es = (refl, refl)
  hear_calm (model.spoilt t i) es = (refl, refl)
  hear_calm (model.repeated t i u) es = (refl, refl)
  hear_calm (model.adopted t i n u) es = (refl, refl)

  -- At most R rounds with an exchange under way go by until one is completed, whatever is lost: the one under way, or the next one.
  pub data Phase (v : View Rec) (R : ℕ) : Type 0 where
    idle : v.state ≡ Idle → left v * D + D ≤ R → Phase v R
    going : v.state ≡ UnderWay → (N : ℕ) → Bound v N → left v * D + N ≤ R → Phase v R

  less : {i j : ℕ} → i ≤ j → i * D ≤ j * D
  less h = mul-le-mul_right D h

  -- from a state with L losses left, since when something was lost, or nothing was
  after : {w : View Rec} {L N R : ℕ} → w.state ≡ UnderWay → Wired C f p b q w → L * D + N ≤ R → Stage L (Bound w N) w.forward w.back →
      Phase w R
  after {N = N} way g h (same e i) = going way N i (rw e h)
  after {w = w} {L = L} way g h (fewer i) =
      going way D (bound.always f p b q _ _ g.forward g.back) (let k : suc (left w) * D ≤ L * D = less i in omega arith)

  pub starts : {v : View Rec} → Wired C f p b q v → Phase v (left v * D + D)
  starts {v = v} g = go v.state refl
    where
      go : (s : _) → v.state ≡ s → Phase v (left v * D + D)
      go Idle e = idle e (le_refl _)
      go UnderWay e = going e D (bound.always f p b q _ _ g.forward g.back) (le_refl _)

  stage_map : {L : ℕ} {P Q : Type 0} {m n : Meaning} → (P → Q) → Stage L P m n → Stage L Q m n
  stage_map k (fewer h) = fewer h
  stage_map k (same e h) = same e (k h)

  -- one call after another
  stage_then : {L : ℕ} {P Q : Type 0} (v w : View Rec) → left w ≤ left v → (P → Since v Q w) → Stage L P v.forward v.back →
      Stage L Q w.forward w.back
  stage_then v w h k (fewer i) = fewer (omega arith)
  stage_then {L = L} {Q = Q} v w h k (same e i) = go (k i)
    where
      go : Since v Q w → Stage L Q w.forward w.back
      go (fewer j) = fewer (omega arith)
      go (same j u) = same (j ∙ e) u

  -- No call raises the bound, unless it completes an exchange.
  still-idle : {w : View Rec} {L R : ℕ} → w.state ≡ Idle → left w ≤ L → L * D + D ≤ R → Phase w R
  still-idle {w = w} {L = L} e i h = idle e (let k : left w * D ≤ L * D = less i in omega arith)

  offer_phase : {v w : View Rec} {e : List (Event Rec)} {R : ℕ} → Wired C f p b q w → Offer C v e w → Phase v R → Phase w R
  offer_phase g model.refused h = h
  offer_phase g (model.accepted a i) (idle e h) = going refl D (bound.always f p b q _ _ g.forward g.back) h
  offer_phase g (model.accepted a i) (going way N h k) = absurd (not_both way i)

  send_phase : {v w : View Rec} {R : ℕ} → Wired C f p b q v → Wired C f p b q w → Send C v w → Phase v R → Phase w R
  send_phase g g' (model.idle i) h = h
  send_phase g g' (model.sent i t) (idle e h) = absurd (not_both i e)
  send_phase g g' (model.sent i t) (going way N h k) = after way g' k (stage_map (λ z. z.0) (send way g g' (model.sent i t) h))

  hear_phase : {v w : View Rec} {e : List (Event Rec)} {R : ℕ} → Wired C f p b q v → Wired C f p b q w → Hear C v e w → Phase v R → Phase w R
  hear_phase g g' s (idle e h) = still-idle (hear-state s ∙ e) (falls (model.Step.hear s)) h
  hear_phase g g' s (going way zero h k) = absurd (omega (arith, bound.positive f p b q _ _ h))
  hear_phase g g' s (going way (suc N) h k) = after (hear-state s ∙ way) g' k (stage_map (bound.heard-weaker f p b q _ _) (hear g g' s h))

  tick_phase : {v w : View Rec} {R : ℕ} → Wired C f p b q w → Ticks C v w → Phase v R → Phase w R
  tick_phase g (ticked s t) (idle e h) = still-idle e (omega (arith, tick-losses s, tick-losses t)) h
  tick_phase g (ticked s t) (going way N h k) = after way g k (bound.ticks f p b q _ _ s t h)

  -- Fewer than R rounds went by, and D more for each exchange completed.
  abbrev pub Few : List (Event Rec) → ℕ → Type 0
  Few es R = rounds_in es < R + length (completed_in es) * D

  few_calm : (e es : List (Event Rec)) (R : ℕ) → Calm e → Few es R → Few (e ++ es) R
  few_calm e es R c h = rw ((c es).0, (c es).1) h

  -- an exchange was completed, by itself or in a round
  few-finished : (c : Bool) (es : List (Event Rec)) (L N R : ℕ) → 1 ≤ N → L * D + N ≤ R → (l : ℕ) → l ≤ L → Few es (l * D + D) →
      Few (completes c ∷ es) R × Few (completes c ∷ round ∷ es) R
  few-finished c es L N R n h l i k = let j : l * D ≤ L * D = less i in (omega arith, omega arith)

  offer_calm : {v w : View Rec} {e : List (Event Rec)} → Offer C v e w → Calm e
  offer_calm model.refused es = (refl, refl)
  offer_calm (model.accepted a i) es = (refl, refl)

  settle-idle : {v w : View Rec} {e : List (Event Rec)} → v.state ≡ Idle → Settle C v e w → (w.state ≡ Idle) × Calm e
  settle-idle i (model.Settle.silent s) = (i, λ es. (refl, refl))
  settle-idle i (model.discarded t o) = (i, λ es. (refl, refl))
  settle-idle i (model.completed t j u) = absurd (not_both u i)

  settle-few : {v w : View Rec} {e : List (Event Rec)} (es : List (Event Rec)) (R : ℕ) → Wired C f p b q w → Settle C v e w → Phase v R →
      ((S : ℕ) → Phase w S → Few es S) → Few (e ++ es) R
  settle-few {e = e} es R g s (idle i h) ih =
      let j = settle-idle i s in few_calm e es R j.1 (ih R (still-idle j.0 (falls (model.Step.settle s)) h))
  settle-few {v = v} {w = w} {e = e} es R g s (going way N h i) ih = go (settle_case way s) g (falls (model.Step.settle s)) ih
    where
      go : {w : View Rec} {e : List (Event Rec)} → SettleCase v e w → Wired C f p b q w → left w ≤ left v → ((S : ℕ) → Phase w S → Few es S) →
          Few (e ++ es) R
      go (finished {c = c} {k = k}) g j ih = (few-finished c es (left v) N R (bound.positive f p b q _ _ h) i _ j (ih _ (idle refl (le_refl _)))).0
      go (unfinished {k = k} t) g j ih =
          let l : left (over v v.forward k) * D ≤ left v * D = less j in
          ih R (going way N (bound.settles f p b q _ _ g.back t h) (omega arith))

  send-state : {v w : View Rec} → v.state ≡ UnderWay → Send C v w → w.state ≡ UnderWay
  send-state way (model.idle i) = way
  send-state way (model.sent i t) = way

  -- a round begun with an exchange under way completes it, or lowers the bound
  round-few : {v v₁ v₂ v₃ v₄ : View Rec} {d e : List (Event Rec)} (es : List (Event Rec)) (R : ℕ) → v.state ≡ UnderWay → Wired C f p b q v →
      Wired C f p b q v₁ → Wired C f p b q v₂ → Wired C f p b q v₃ → Wired C f p b q v₄ →
      Send C v v₁ → Hear C v₁ d v₂ → Settle C v₂ e v₃ → Ticks C v₃ v₄ → Phase v R → ((S : ℕ) → Phase v₄ S → Few es S) → Few (d ++ (e ++ (round ∷ es))) R
  round-few es R way g g₁ g₂ g₃ g₄ s₁ s₂ s₃ s₄ (idle i h) ih = absurd (not_both way i)
  round-few es R way g g₁ g₂ g₃ g₄ s₁ s₂ s₃ s₄ (going way' zero h i) ih = absurd (omega (arith, bound.positive f p b q _ _ h))
  round-few es zero way g g₁ g₂ g₃ g₄ s₁ s₂ s₃ s₄ (going way' (suc n) h i) ih = absurd (omega arith)
  round-few {v = v} {v₁ = v₁} {v₂ = v₂} {v₄ = v₄} {d = d} {e = e} es (suc R) way g g₁ g₂ g₃ g₄ s₁ s₂ s₃ s₄ (going way' (suc n) h i) ih =
      few_calm d (e ++ (round ∷ es)) (suc R) (hear_calm s₂) (go (settle_case way₂ s₃) s₄ g₃ g₄ (falls (model.Step.settle s₃)) (falls (model.Step.tick s₄)) ih)
    where
      way₂ : v₂.state ≡ UnderWay
      way₂ = hear-state s₂ ∙ send-state way s₁

      so_far : left v₂ ≤ left v
      so_far = omega (arith, falls (model.Step.send s₁), falls (model.Step.hear s₂))

      heard : Since v (Heard v₁ v₂ n × (0 < length v₁.forward.contents)) v₂
      heard = stage_then v₁ v₂ (falls (model.Step.hear s₂)) (λ z. stage_map (λ y. (y, z.1)) (hear g₁ g₂ s₂ z.0)) (send way g g₁ s₁ h)

      go : {v₃ v₄ : View Rec} {e : List (Event Rec)} → SettleCase v₂ e v₃ → Ticks C v₃ v₄ → Wired C f p b q v₃ → Wired C f p b q v₄ →
          left v₃ ≤ left v₂ → left v₄ ≤ left v₃ → ((S : ℕ) → Phase v₄ S → Few es S) → Few (e ++ (round ∷ es)) (suc R)
      go (finished {c = c}) (ticked s t) g₃ g₄ j₃ j₄ ih =
          (few-finished c es (left v) (suc n) (suc R) (omega arith) i _ (omega (arith, so_far)) (ih _ (idle refl (le_refl _)))).1
      go (unfinished {k = k} u) (ticked {f = m} {b = l} s t) g₃ g₄ j₃ j₄ ih =
          let settled : Since v (Settles (over v₂ v₂.forward k) n) (over v₂ v₂.forward k) =
          stage_then v₂ (over v₂ v₂.forward k) j₃ (λ z. same (omega (arith, bound.settled-losses f p b q _ _ u)) (bound.settles-heard f p b q _ _ g₃.back z.1 u z.0)) heard in
          let t : Few es R = ih R (after way₂ g₄ (omega arith) (stage_then (over v₂ v₂.forward k) (over v₂ m l) j₄ (bound.ticks-round f p b q _ _ g₃.forward s t) settled)) in
          omega arith

  pub few : {v w : View Rec} {es : List (Event Rec)} {R : ℕ} → Wired C f p b q v → Phase v R → (r : Run C v es w) → Working C r → Few es R
  few g (idle e h) model.stop k = omega arith
  few g (going way N h i) model.stop k = omega (arith, bound.positive f p b q _ _ h)
  few {R = R} g ph (model.Run.offer {e = e} {es = es} s k r) w =
      let g' = wired C f p b q g k (model.Step.offer s) in few_calm e es R (offer_calm s) (few g' (offer_phase g' s ph) r w)
  few g ph (model.Run.send s k r) w = let g' = wired C f p b q g k (model.Step.send s) in few g' (send_phase g g' s ph) r w
  few {R = R} g ph (model.Run.hear {e = e} {es = es} s k r) w =
      let g' = wired C f p b q g k (model.Step.hear s) in few_calm e es R (hear_calm s) (few g' (hear_phase g g' s ph) r w)
  few {R = R} g ph (model.Run.settle {es = es} s k r) w =
      let g' = wired C f p b q g k (model.Step.settle s) in settle-few es R g' s ph (λ S i. few g' i r w)
  few g ph (model.Run.tick s k r) w = let g' = wired C f p b q g k (model.Step.tick s) in few g' (tick_phase g' s ph) r w
  few {R = R} g ph (model.turn {es = es} s₁ k₁ s₂ k₂ s₃ k₃ s₄ k₄ r) w =
      let g₁ = wired C f p b q g k₁ (model.Step.send s₁) in
      let g₂ = wired C f p b q g₁ k₂ (model.Step.hear s₂) in
      let g₃ = wired C f p b q g₂ k₃ (model.Step.settle s₃) in
      let g₄ = wired C f p b q g₃ k₄ (model.Step.tick s₄) in
      rw (append_assoc, append_assoc) (round-few es R w.0 g g₁ g₂ g₃ g₄ s₁ s₂ s₃ s₄ ph (λ S i. few g₄ i r w.1))

  completes-some : {c : Bool} {cs : List Bool} → c ∷ cs ≢ []
  completes-some e = let n = ap length e in omega arith

  settle-works : {v w : View Rec} {e : List (Event Rec)} → v.state ≡ UnderWay → SettleCase v e w → (es : List (Event Rec)) →
      completed_in (e ++ es) ≡ [] → (w.state ≡ UnderWay) × (completed_in es ≡ [])
  settle-works way finished es h = absurd (completes-some h)
  settle-works way (unfinished t) es h = (way, h)

  -- With none completed, the exchange stays under way.
  works : {v w : View Rec} {es : List (Event Rec)} → v.state ≡ UnderWay → (r : Run C v es w) → completed_in es ≡ [] → Working C r
  works way model.stop h = tt
  works way (model.Run.offer model.refused k r) h = works way r h
  works way (model.Run.offer (model.accepted a i) k r) h = absurd (not_both way i)
  works way (model.Run.send s k r) h = works (send-state way s) r h
  works way (model.Run.hear {es = es} s k r) h = works (hear-state s ∙ way) r (sym (hear_calm s es).0 ∙ h)
  works way (model.Run.settle {e = e} {es = es} s k r) h = let i = settle-works way (settle_case way s) es h in works i.0 r i.1
  works way (model.Run.tick (ticked s t) k r) h = works way r h
  works way (model.turn {d = d} {e = e} {es = es} s₁ k₁ s₂ k₂ s₃ k₃ (ticked s t) k₄ r) h =
      let j : completed_in (d ++ (e ++ (round ∷ es))) ≡ [] = rw (append_assoc, append_assoc) at h in
      let way₂ = hear-state s₂ ∙ send-state way s₁ in
      let i = settle-works way₂ (settle_case way₂ s₃) (round ∷ es) (sym (hear_calm s₂ (e ++ (round ∷ es))).0 ∙ j) in
      (way, works i.0 r i.1)

  pub in_most-rounds : {v w : View Rec} {es : List (Event Rec)} → Wired C f p b q v → v.state ≡ UnderWay → Run C v es w →
      most_rounds v.forward v.back ≤ rounds_in es → completed_in es ≢ []
  in_most-rounds {v = v} {es = es} g way r enough none =
      let h : rounds_in es < left v * D + D + length (completed_in es) * D = few g (starts g) r (works way r none) in
      let n : length (completed_in es) ≡ 0 = ap length none in
      let k : rounds_in es < left v * D + D + 0 * D = rw n at h in
      let e : (left v + 1) * D ≤ rounds_in es = rw (g.forward.is_capacity, g.forward.is_delay, g.back.is_capacity, g.back.is_delay) at enough in
      omega arith
