-- From any start: an exchange that begins with its label in a channel uses up one of the words that stood there at the start; so one of
-- the first exchanges begins with its label in neither, and ends clean. Assumes nothing.
use Rattle.std.proofs.Common.{◌≡◌, ℕ, zero, suc, ◌+◌, ◌-◌, ◌%◌, ◌<◌, ◌≤◌, Bool, true, false, ◌⊎◌, List, [], ◌∷◌, ◌++◌, length, replicate, Some, None, Option, refl, ap, ◌∙◌, inl, inr, arith}
use borrow.Author.Tests.{both_ways}
use Rattle.std.proofs.ByRecursion.{All-weaker}
use Rattle.channel.specs.Meaning.{Meaning}
use Rattle.channel.specs.Rules.{Taken}
use Rattle.recovery.specs.Codec.{Codec, CodecLaws, label_in, word_label}
use Rattle.recovery.specs.Runs.{Event, accepts, delivers, completes, round}
use Rattle.recovery.specs.Tallies.{completed_in, after_clean}
use Rattle.recovery.specs.Findings.{InOrder}
use Rattle.ends.specs.declared.sender.State.{State}
use Rattle.ends.specs.declared.sender.State.TheVariants.{Idle, UnderWay}
use Rattle.recovery.proofs.Channels.{PutCase, all_old}
use Rattle.recovery.proofs.Labels.{not_both, some_same, some-none, clean-quiet}
use Rattle.recovery.proofs.Model as model
use Rattle.recovery.proofs.Model.{View, rested, is_clean, Offer, Send, Hear, Settle, Ticks, ticked, Step, Steps, done, next}
use Rattle.recovery.proofs.InStep.{InStep, rests, awaits}
use Rattle.recovery.proofs.Wiring.{Wired, wired}
use Rattle.recovery.proofs.InOrder.{sender_of, AllClean, clean-then, fresh-then}
use Rattle.recovery.proofs.Weights.{weigh, weigh-put, weigh_taken, weigh_sublist, weigh-length, weigh-zero, weigh-split, on, on-split, on-small, on_some, on_lacks, near, at, near-own, near_next, at_next, near-rest, at_own}

module _ {Rec : Type 0} (C : Codec Rec) (laws : CodecLaws C) where
  abbrev K : ℕ
  K = C.labels

  -- The weight of a word, and of an acknowledgement, by its label; and of all in both channels.
  abbrev W : (ℕ → ℕ) → ℕ → ℕ
  W g w = on g (word_label C w)

  abbrev A : (ℕ → ℕ) → ℕ → ℕ
  A g w = on g (C.read_ack w)

  abbrev load : (ℕ → ℕ) → View Rec → ℕ
  load g v = weigh (W g) v.forward.contents + weigh (A g) v.back.contents

  word_below : (w z : ℕ) → word_label C w ≡ Some z → z < K
  word_below w z e = go (C.read_word w) refl e
    where
      go : (o : Option (ℕ × Rec)) → C.read_word w ≡ o → label_in o ≡ Some z → z < K
      go None i j = absurd (some-none j refl)
      go (Some r) i j = rw (some_same j refl) (laws.word_labels w r.0 r.1 i)

  load_split : (g d e : ℕ → ℕ) → ((z : ℕ) → z < K → d z + e z ≤ g z) → (v : View Rec) → load d v + load e v ≤ load g v
  load_split g d e h v =
      omega (
        arith,
        weigh-split (W g) (W d) (W e) (λ w. on-split K g d e h (word_label C w) (word_below w)) v.forward.contents,
        weigh-split (A g) (A d) (A e) (λ w. on-split K g d e h (C.read_ack w) (laws.ack_labels w)) v.back.contents,
      )

  -- The words of the sender's label weigh something, and all weigh nothing: the exchange is fresh.
  fresh : (g : ℕ → ℕ) (v : View Rec) → 0 < g v.own → load g v ≡ 0 → v.state ≡ UnderWay → InStep C v false (v.hand ∷ [])
  fresh g v h z way =
      awaits way (λ k. absurd (both_ways _ refl k))
      (all_old _ _ _ (All-weaker _ _ (λ w. on_lacks g v.own h (word_label C w)) _ (weigh-zero (W g) v.forward.contents (omega arith))))
      (All-weaker _ _ (λ w. on_lacks g v.own h (C.read_ack w)) _ (weigh-zero (A g) v.back.contents (omega arith)))

  module _ (two : 2 ≤ K) (f p b q : ℕ) (enough : f + b + 1 ≤ K) (few-forward : f ≤ 65535) (few-back : b ≤ 65535) where
    -- After n exchanges, none of which ended clean: so many labels were used since the start, and so many were not; and the words that
    -- carry one of these are no more than there are left to use up.
    record Leftover (n : ℕ) (v : View Rec) : Type 0 where
      used : ℕ
      unused : ℕ
      all-labels : used + unused ≡ K
      so_far : ((v.state ≡ Idle) × (n ≡ used)) ⊎ ((v.state ≡ UnderWay) × (n + 1 ≡ used))
      words : load (near K v.own unused) v + used ≤ f + b

    few_so_far : {n : ℕ} {v : View Rec} → Leftover n v → n ≤ f + b
    few_so_far h = elim h.so_far [ inl u ↦ omega (arith, h.words) | inr u ↦ omega (arith, h.words) ]

    -- What a step makes of it.
    data Outcome (n : ℕ) (w : View Rec) : List (Event Rec) → Type 0 where
      stays : Leftover n w → Outcome n w []
      marks : Leftover n w → Outcome n w (round ∷ [])
      adopts : {r : Rec} → Leftover n w → Outcome n w (delivers r ∷ [])
      begins : {r : Rec} → Leftover n w → Outcome n w (accepts r ∷ [])
      begins-fresh : {r : Rec} → InStep C w false (r ∷ []) → Outcome n w (accepts r ∷ [])
      ends : {c : Bool} → c ≡ false → Leftover (n + 1) w → Outcome n w (completes c ∷ [])
      ends-clean : {c : Bool} → c ≡ true → InStep C w true [] → Outcome n w (completes c ∷ [])

    module _ (n : ℕ) (v : View Rec) (h : Leftover n v) where
      abbrev g : ℕ → ℕ
      g = near K v.own h.unused

      -- the same sender, and no more words
      lighter : (x : ℕ) (m k : Meaning) → weigh (W g) m.contents + weigh (A g) k.contents ≤ load g v → Leftover n (model.delivered v x m k)
      lighter x m k i = record { used = h.used; unused = h.unused; all-labels = h.all-labels; so_far = h.so_far; words = omega (arith, h.words) }

      offer : {w : View Rec} {e : List (Event Rec)} → v.own < K → Offer C v e w → Outcome n w e
      offer below model.refused = stays h
      offer below (model.accepted {r = r} a i) = go h.unused refl (load (at K v.own 1) v) refl
        where
          one_more : ((v.state ≡ Idle) × (n ≡ h.used)) ⊎ ((v.state ≡ UnderWay) × (n + 1 ≡ h.used)) → n + 1 ≡ suc h.used
          one_more (inl u) = omega arith
          one_more (inr u) = absurd (not_both u.0 i)

          go : (m : ℕ) → h.unused ≡ m → (k : ℕ) → load (at K v.own 1) v ≡ k → Outcome n (model.offered v ((v.own + 1) % K) r) (accepts r ∷ [])
          go zero j k z = absurd (omega (arith, h.all-labels, h.words))
          go (suc m) j zero z = begins-fresh (fresh (at K v.own 1) _ (at_next K v.own below two) z refl)
          go (suc m) j (suc k) z =
              let t : load (near K ((v.own + 1) % K) m) v + load (at K v.own 1) v ≤ load (near K v.own (suc m)) v =
              load_split (near K v.own (suc m)) (near K ((v.own + 1) % K) m) (at K v.own 1) (near_next K v.own m below (omega (arith, h.all-labels))) v in
              let u : load (near K v.own (suc m)) v + h.used ≤ f + b = rw j at h.words in
              begins (record {
                used = suc h.used;
                unused = m;
                all-labels = omega (arith, h.all-labels);
                so_far = inr (refl, one_more h.so_far);
                words = omega arith;
              })

      send : {w : View Rec} → v.own < K → C.allows v.hand ≡ true → Send C v w → Outcome n w []
      send below may (model.idle i) = stays h
      send below may (model.sent {f = m} i t) = stays (lighter v.other m v.back (omega (arith, weigh-put (W g) t, own-word)))
        where
          some-used : ((v.state ≡ Idle) × (n ≡ h.used)) ⊎ ((v.state ≡ UnderWay) × (n + 1 ≡ h.used)) → h.unused < K
          some-used (inl u) = absurd (not_both i u.0)
          some-used (inr u) = omega (arith, h.all-labels)

          own-word : W g (C.send_word v.own v.hand) ≡ 0
          own-word = on_some g (ap label_in (laws.words v.own v.hand below may)) ∙ near-own K v.own h.unused (some-used h.so_far) below

      -- a word moves from the forward channel to the back channel, with its label
      reply : {w x : ℕ} {r : Rec} {m k : Meaning} → Taken v.forward w m → C.read_word w ≡ Some (x, r) → PutCase v.back (C.ack_word x) k →
          weigh (W g) m.contents + weigh (A g) k.contents ≤ load g v
      reply {w = w} {x = x} {r = r} t i u =
          let s : W g w ≡ g x = on_some g (ap label_in i) in
          let a : A g (C.ack_word x) ≡ g x = on_some g (laws.acks x (laws.word_labels w x r i)) in
          omega (arith, weigh_taken (W g) t, weigh-put (A g) u)

      hear : {w : View Rec} {e : List (Event Rec)} → Hear C v e w → Outcome n w e
      hear (model.Hear.silent s) = stays h
      hear (model.spoilt {f = m} t i) = stays (lighter v.other m v.back (omega (arith, weigh_taken (W g) t)))
      hear (model.repeated {f = m} {b = k} t i u) = stays (lighter v.other m k (reply t i u))
      hear (model.adopted {x = x} {f = m} {b = k} t i o u) = adopts (lighter x m k (reply t i u))

      settle : {w : View Rec} {e : List (Event Rec)} → length v.forward.contents ≤ 65535 → length v.back.contents ≤ 65535 → Settle C v e w →
          Outcome n w e
      settle lf lb (model.Settle.silent s) = stays h
      settle lf lb (model.discarded {b = k} t o) = stays (lighter v.other v.forward k (omega (arith, weigh_taken (A g) t)))
      settle lf lb (model.completed {b = k} t i u) = go (is_clean C (rested v k)) refl
        where
          now-done : ((v.state ≡ Idle) × (n ≡ h.used)) ⊎ ((v.state ≡ UnderWay) × (n + 1 ≡ h.used)) → n + 1 ≡ h.used
          now-done (inl z) = absurd (not_both u z.0)
          now-done (inr z) = z.1

          go : (c : Bool) → is_clean C (rested v k) ≡ c → Outcome n (rested v k) (completes (is_clean C (rested v k)) ∷ [])
          go true e =
              ends-clean e (rests (clean-quiet C (rested v k) lf (let j : length v.back.contents ≡ suc (length k.contents) = ap length t.oldest in omega arith) e))
          go false e =
              ends e (record {
                used = h.used;
                unused = h.unused;
                all-labels = h.all-labels;
                so_far = inl (refl, now-done h.so_far);
                words = omega (arith, h.words, weigh_taken (A g) t);
              })

      tick : {w : View Rec} → Ticks C v w → Outcome n w []
      tick (ticked {f = m} {b = k} s t) =
          stays (lighter v.other m k (omega (arith, weigh_sublist (W g) s.order, weigh_sublist (A g) t.order)))

    step : {n : ℕ} {v w : View Rec} {e : List (Event Rec)} → Wired C f p b q v → Leftover n v → Step C v e w → Outcome n w e
    step g h (model.Step.offer s) = offer _ _ h g.below s
    step g h (model.Step.send s) = send _ _ h g.below g.allowed s
    step g h (model.Step.hear s) = hear _ _ h s
    step g h (model.Step.settle s) =
        settle _ _ h (omega (arith, g.forward.standing.within, g.forward.is_capacity)) (omega (arith, g.back.standing.within, g.back.is_capacity)) s
    step g h (model.Step.tick s) = tick _ _ h s
    step g h model.mark = marks h

    -- What is found of a run after n exchanges that did not end clean.
    pub record TurnedClean (n : ℕ) (es : List (Event Rec)) (w : View Rec) : Type 0 where
      pub unclean : ℕ
      pub clean : ℕ
      pub completed_clean : completed_in es ≡ replicate unclean false ++ replicate clean true
      pub soon : n + unclean ≤ f + b
      pub ordered : InOrder (after_clean es) (sender_of w)

    all-clean : {n : ℕ} {es : List (Event Rec)} {w : View Rec} → n ≤ f + b → AllClean C laws two f p b q es w → TurnedClean n es w
    all-clean h t = record { unclean = 0; clean = t.clean; completed_clean = t.completed_clean; soon = omega arith; ordered = t.ordered }

    turns : {n : ℕ} {v w : View Rec} {es : List (Event Rec)} → Wired C f p b q v → Leftover n v → Steps C v es w → TurnedClean n es w
    turns g h done =
        record {
          unclean = 0;
          clean = 0;
          completed_clean = refl;
          soon = omega (arith, few_so_far h);
          ordered = record { missing = []; order = refl; last = inl refl };
        }
    turns {n = n} {w = w} g h (next {w = u} {e = e} {es = fs} s k rest) = go e (step g h s) (λ m i. turns {n = m} g' i rest)
      where
        g' : Wired C f p b q u
        g' = wired C f p b q g k s

        go : (e : List (Event Rec)) → Outcome n u e → ((m : ℕ) → Leftover m u → TurnedClean m fs w) → TurnedClean n (e ++ fs) w
        go e (stays i) ih = ih n i
        go e (marks i) ih =
            let t = ih n i in record { unclean = t.unclean; clean = t.clean; completed_clean = t.completed_clean; soon = t.soon; ordered = t.ordered }
        go e (adopts i) ih =
            let t = ih n i in record { unclean = t.unclean; clean = t.clean; completed_clean = t.completed_clean; soon = t.soon; ordered = t.ordered }
        go e (begins i) ih =
            let t = ih n i in record { unclean = t.unclean; clean = t.clean; completed_clean = t.completed_clean; soon = t.soon; ordered = t.ordered }
        go e (begins-fresh {r = r} i) ih =
            let t = fresh-then C laws two f p b q u w (r ∷ []) fs g' i rest in
            record { unclean = 0; clean = t.clean; completed_clean = t.completed_clean; soon = omega (arith, few_so_far h); ordered = t.ordered }
        go e (ends c i) ih =
            let t = ih (n + 1) i in
            rw c (record {
              unclean = suc t.unclean;
              clean = t.clean;
              completed_clean = ap (λ (z : List Bool). false ∷ z) t.completed_clean;
              soon = omega (arith, t.soon);
              ordered = t.ordered;
            })
        go e (ends-clean c i) ih = rw c (all-clean (few_so_far h) (clean-then C laws two f p b q u w fs g' i rest))

    -- All words weigh at most one each.
    all_words : (g : ℕ → ℕ) → ((z : ℕ) → g z ≤ 1) → (v : View Rec) → Wired C f p b q v → load g v ≤ f + b
    all_words g i v h =
        omega (
          arith,
          weigh-length (W g) v.forward.contents (λ w. on-small g i (word_label C w)),
          weigh-length (A g) v.back.contents (λ w. on-small g i (C.read_ack w)),
          h.forward.standing.within,
          h.forward.is_capacity,
          h.back.standing.within,
          h.back.is_capacity,
        )

    -- Whatever the state at the start.
    pub from_any_start : {v w : View Rec} {es : List (Event Rec)} → Wired C f p b q v → Steps C v es w → TurnedClean 0 es w
    from_any_start {v = v} {w = w} {es = es} g r = go v.state refl
      where
        under_way : (n : ℕ) → load (at K v.own K) v ≡ n → v.state ≡ UnderWay → TurnedClean 0 es w
        under_way zero z e =
            all-clean (omega arith) (fresh-then C laws two f p b q v w _ es g (fresh (at K v.own K) v (at_own K v.own g.below) z e) r)
        under_way (suc n) z e =
            let t : load (near K v.own (K - 1)) v + load (at K v.own K) v ≤ load (λ _. 1) v =
            load_split (λ _. 1) (near K v.own (K - 1)) (at K v.own K) (λ x _. near-rest K v.own (K - 1) (omega arith) x) v in
            turns g (record {
              used = 1;
              unused = K - 1;
              all-labels = omega arith;
              so_far = inr (e, omega arith);
              words = omega (arith, all_words (λ _. 1) (λ _. omega arith) v g);
            }) r

        go : (s : State) → v.state ≡ s → TurnedClean 0 es w
        go Idle e =
            turns g (record {
              used = 0;
              unused = K;
              all-labels = omega arith;
              so_far = inl (e, refl);
              words = omega (arith, all_words (near K v.own K) (λ z. omega arith) v g);
            }) r
        go UnderWay e = under_way (load (at K v.own K) v) refl e
