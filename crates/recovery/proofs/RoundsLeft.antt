-- How many rounds an exchange under way can still take, if nothing is lost: a bound that no call raises and every round lowers.
-- Assumes nothing.
use Rattle.std.proofs.Common.{◌≡◌, ℕ, zero, suc, ◌+◌, ◌*◌, ◌<◌, ◌≤◌, false, ◌≢◌, ◌⊎◌, List, [], ◌∷◌, ◌++◌, length, drop, refl, ap, ◌∙◌, subst, inl, inr, mul-le-mul_right, arith, length-append}
use native.Mathlib.Decide.{dec_lt}
use borrow.Author.Tests.{both_ways}
use Rattle.std.specs.List.{AllByRecursion as All}
use Rattle.std.proofs.ByRecursion.{All-push}
use Rattle.channel.specs.Meaning.{Meaning}
use Rattle.channel.specs.Rules.{Taken, Tick}
use Rattle.channel.specs.Sublists.{sublist_length}
use Rattle.recovery.proofs.Channels.{PutCase, refused, kept, lost, Fits, all_taken, sublist_whole}
use Rattle.recovery.proofs.Model.{Silent}
use Rattle.recovery.proofs.Places.{Nth, nth_append, nth_last, nth_below, shape, all-drop_append, all-drop-past}

nonempty : {xs : List ℕ} → 0 < length xs → xs ≢ []
nonempty h e = let k = ap length e in omega arith

empty_none : {xs : List ℕ} {k : ℕ} → xs ≡ [] → length xs ≡ suc k → ⊥
empty_none e i = let n = ap length e in omega arith

abbrev pub total : Meaning → Meaning → ℕ
total F B = F.losses + B.losses

-- Since there were L losses left, something was lost; or nothing was, and P holds.
pub data Stage (L : ℕ) (P : Type 0) (F B : Meaning) : Type 0 where
  fewer : total F B < L → Stage L P F B
  same : total F B ≡ L → P → Stage L P F B

-- f, p and b, q are the capacity and the delay of the two channels; G are the words of the exchange, H their acknowledgements.
module _ (f p b q : ℕ) (G H : ℕ → Type 0) where
  -- The bound N comes from the forward channel F: the back channel B is empty, or words of other exchanges stand in F.
  pub data ByForward (F B : Meaning) (N : ℕ) : Type 0 where
    unsent : All G F.contents → B.contents ≡ [] → p + q + 2 ≤ N → ByForward F B N
    unheard : All G F.contents → B.contents ≡ [] → 0 < length F.contents → F.wait + q + 2 ≤ N → ByForward F B N
    flushes : (n : ℕ) → All G (drop (suc n) F.contents) → 0 < length F.contents →
        F.wait + 1 + n * (p + 1) + b * (q + 1) + (p + 1) + (q + 1) ≤ N → ByForward F B N

  -- The bound N comes from the back channel B: an acknowledgement of the exchange stands in it, or only others do.
  pub data ByBack (F B : Meaning) (N : ℕ) : Type 0 where
    answered : (j : ℕ) → Nth H j B.contents → B.wait + 1 + j * (q + 1) ≤ N → ByBack F B N
    drains : (k : ℕ) → All G F.contents → length B.contents ≡ suc k → B.wait + 1 + k * (q + 1) + (p + 1) + (q + 1) ≤ N → ByBack F B N

  abbrev pub Within : Meaning → Meaning → ℕ → Type 0
  Within F B N = ByForward F B N ⊎ ByBack F B N

  abbrev pub most : ℕ
  most = (f + 2) * (p + 1) + (b + 1) * (q + 1)

  -- once only words of the exchange stand in the forward channel
  cleared : {F B : Meaning} {N : ℕ} → Fits b q B → All G F.contents → b * (q + 1) + (p + 1) + (q + 1) ≤ N → Within F B N
  cleared {F = F} {B = B} {N = N} fb all h = go (shape B.contents)
    where
      go : (B.contents ≡ []) ⊎ ((x : ℕ) × (ys : List ℕ) × (B.contents ≡ x ∷ ys)) → Within F B N
      go (inl e) = inl (unsent all e (omega arith))
      go (inr (x, ys, e)) =
          let n : length B.contents ≡ suc (length ys) = ap length e in
          let c : suc (length ys) ≤ b = omega (arith, fb.standing.within, fb.is_capacity) in
          inr (drains (length ys) all n (omega (arith, mul-le-mul_right (q + 1) c, fb.standing.soon, fb.is_delay)))

  pub always : {F B : Meaning} → Fits f p F → Fits b q B → Within F B most
  always {F = F} {B = B} ff fb = go (shape F.contents)
    where
      go : (F.contents ≡ []) ⊎ ((x : ℕ) × (ys : List ℕ) × (F.contents ≡ x ∷ ys)) → Within F B most
      go (inl e) = cleared fb (rw e tt) (omega arith)
      go (inr (x, ys, e)) =
          let n : length F.contents ≡ suc (length ys) = ap length e in
          let c : suc (length ys) ≤ f = omega (arith, ff.standing.within, ff.is_capacity) in
          inl (flushes (length ys) (all-drop-past G (suc (length ys)) F.contents (omega arith)) (omega arith) (omega (arith, mul-le-mul_right (p + 1) c, ff.standing.soon, ff.is_delay)))

  pub positive : {F B : Meaning} {N : ℕ} → Within F B N → 1 ≤ N
  positive (inl (unsent a e h)) = omega arith
  positive (inl (unheard a e n h)) = omega arith
  positive (inl (flushes k a n h)) = omega arith
  positive (inr (answered j a h)) = omega arith
  positive (inr (drains k a n h)) = omega arith

  weaker : {F B : Meaning} {N : ℕ} → Within F B N → Within F B (suc N)
  weaker (inl (unsent a e h)) = inl (unsent a e (omega arith))
  weaker (inl (unheard a e n h)) = inl (unheard a e n (omega arith))
  weaker (inl (flushes k a n h)) = inl (flushes k a n (omega arith))
  weaker (inr (answered j a h)) = inr (answered j a (omega arith))
  weaker (inr (drains k a n h)) = inr (drains k a n (omega arith))

  -- A send leaves a word in the forward channel: its own, or the channel was closed, and so held one.
  closed_holds : {F : Meaning} → Fits f p F → F.is_open ≡ false → 0 < length F.contents
  closed_holds {F = F} ff s = go (shape F.contents)
    where
      go : (F.contents ≡ []) ⊎ ((x : ℕ) × (ys : List ℕ) × (F.contents ≡ x ∷ ys)) → 0 < length F.contents
      go (inl e) = absurd (both_ways F.is_open s (ff.standing.free e))
      go (inr (x, ys, e)) = let k = ap length e in omega arith

  holds_more : (xs : List ℕ) (w : ℕ) {ys : List ℕ} → ys ≡ xs ++ (w ∷ []) → 0 < length ys
  holds_more xs w e = omega (arith, ap length e, length-append xs (w ∷ []))

  sent-more : {F B F' : Meaning} {N w : ℕ} → Fits f p F' → G w → (F.contents ≢ [] → F'.wait ≡ F.wait) → F'.contents ≡ F.contents ++ (w ∷ []) →
      Within F B N → Within F' B N
  sent-more ff g t e (inl (unsent a i h)) =
      inl (unheard (rw e (All-push G _ _ a g)) i (holds_more _ _ e) (omega (arith, ff.standing.soon, ff.is_delay)))
  sent-more ff g t e (inl (unheard a i m h)) = inl (unheard (rw e (All-push G _ _ a g)) i (holds_more _ _ e) (omega (arith, t (nonempty m))))
  sent-more ff g t e (inl (flushes k a m h)) =
      inl (flushes k (rw e (all-drop_append G (suc k) _ _ a g)) (holds_more _ _ e) (omega (arith, t (nonempty m))))
  sent-more ff g t e (inr (answered j a h)) = inr (answered j a h)
  sent-more ff g t e (inr (drains k a m h)) = inr (drains k (rw e (All-push G _ _ a g)) m h)

  pub sends : {F B F' : Meaning} {N w : ℕ} → Fits f p F → Fits f p F' → G w → PutCase F w F' → Within F B N →
      Stage (total F B) (Within F' B N × (0 < length F'.contents)) F' B
  sends ff ff' g (refused s) h = same refl (h, closed_holds ff s)
  sends ff ff' g (kept s t e i) h = same (omega arith) (sent-more ff' g t e h, holds_more _ _ e)
  sends ff ff' g (lost s e i) h = fewer (omega arith)

  -- A hear lowers the bound; or the forward channel's ticks will, where nothing was heard; or the back channel will.
  pub data Hearing (F F' B' : Meaning) (N : ℕ) : Type 0 where
    lowered : Within F' B' N → Hearing F F' B' N
    ticking : ByForward F' B' (suc N) → Silent F → F' ≡ F → Hearing F F' B' N
    backward : ByBack F' B' (suc N) → Hearing F F' B' N

  -- the oldest word leaves the forward channel, with at most n old ones behind it
  forward_taken : {F F' B' : Meaning} {N w : ℕ} (n : ℕ) → Fits f p F' → Fits b q B' → Taken F w F' → All G (drop (suc n) F.contents) →
      n * (p + 1) + b * (q + 1) + (p + 1) + (q + 1) ≤ N → Within F' B' N
  forward_taken zero ff fb t a h = cleared fb (rw t.oldest at a) (omega arith)
  forward_taken {F' = F'} {B' = B'} {N = N} (suc n) ff fb t a h = go (shape F'.contents)
    where
      go : (F'.contents ≡ []) ⊎ ((x : ℕ) × (ys : List ℕ) × (F'.contents ≡ x ∷ ys)) → Within F' B' N
      go (inl e) = cleared fb (rw e tt) (omega arith)
      go (inr (x, ys, e)) =
          let k = ap length e in
          inl (flushes n (rw t.oldest at a) (omega arith) (omega (arith, ff.standing.soon, ff.is_delay)))

  -- an acknowledgement of the exchange becomes the newest word of the back channel
  acknowledged : (B : Meaning) {F' B' : Meaning} {N v : ℕ} → Fits b q B' → H v → (B.contents ≢ [] → B'.wait ≡ B.wait) →
      B'.contents ≡ B.contents ++ (v ∷ []) →
      (B.contents ≡ [] → q + 1 ≤ N) → ((k : ℕ) → length B.contents ≡ suc k → B.wait + 1 + suc k * (q + 1) ≤ N) → Within F' B' N
  acknowledged B {F' = F'} {B' = B'} {N = N} {v = v} fb g t e h₀ h₁ = go (shape B.contents)
    where
      at-end : (n : ℕ) → length B.contents ≡ n → Nth H n B'.contents
      at-end n k = subst (λ (m : ℕ). Nth H m B'.contents) k (rw e (nth_last H B.contents v g))

      go : (B.contents ≡ []) ⊎ ((x : ℕ) × (ys : List ℕ) × (B.contents ≡ x ∷ ys)) → Within F' B' N
      go (inl i) = inr (answered 0 (at-end 0 (ap length i)) (omega (arith, h₀ i, fb.standing.soon, fb.is_delay)))
      go (inr (x, ys, i)) =
          let k : length B.contents ≡ suc (length ys) = ap length i in
          inr (answered (suc (length ys)) (at-end _ k) (omega (arith, h₁ (length ys) k, t (nonempty (omega arith)))))

  -- a word was heard that is not the exchange's, and none is put back
  pub hears-other : {F B F' : Meaning} {N w : ℕ} → Fits f p F' → Fits b q B → Taken F w F' → ¬ G w → Within F B (suc N) → Hearing F F' B N
  hears-other ff fb t n (inl (unsent a e h)) = absurd (n (all_taken G t a).0)
  hears-other ff fb t n (inl (unheard a e m h)) = absurd (n (all_taken G t a).0)
  hears-other ff fb t n (inl (flushes k a m h)) = lowered (forward_taken k ff fb t a (omega (arith, t.ready)))
  hears-other ff fb t n (inr (answered j a h)) = backward (answered j a h)
  hears-other ff fb t n (inr (drains k a m h)) = absurd (n (all_taken G t a).0)

  -- a word was heard, and its acknowledgement was refused, as the back channel was closed
  hears-refused : {F B F' : Meaning} {N w : ℕ} → Fits f p F' → Fits b q B → Taken F w F' → B.is_open ≡ false → Within F B (suc N) → Hearing F F' B N
  hears-refused ff fb t s (inl (unsent a e h)) = absurd (both_ways _ s (fb.standing.free e))
  hears-refused ff fb t s (inl (unheard a e m h)) = absurd (both_ways _ s (fb.standing.free e))
  hears-refused ff fb t s (inl (flushes n a m h)) = lowered (forward_taken n ff fb t a (omega (arith, t.ready)))
  hears-refused ff fb t s (inr (answered j a h)) = backward (answered j a h)
  hears-refused ff fb t s (inr (drains k a m h)) = backward (drains k (all_taken G t a).1 m h)

  -- a word was heard, and its acknowledgement stands in the back channel
  hears-kept : {F B F' B' : Meaning} {N w v : ℕ} → Fits f p F' → Fits b q B' → Taken F w F' → (G w → H v) → (B.contents ≢ [] → B'.wait ≡ B.wait) →
      B'.contents ≡ B.contents ++ (v ∷ []) →
      Within F B (suc N) → Hearing F F' B' N
  hears-kept {B = B} ff fb t g u e (inl (unsent a i h)) =
      lowered (acknowledged B fb (g (all_taken G t a).0) u e (λ _. omega arith) (λ k j. absurd (empty_none i j)))
  hears-kept {B = B} ff fb t g u e (inl (unheard a i m h)) =
      lowered (acknowledged B fb (g (all_taken G t a).0) u e (λ _. omega arith) (λ k j. absurd (empty_none i j)))
  hears-kept ff fb t g u e (inl (flushes k a m h)) = lowered (forward_taken k ff fb t a (omega (arith, t.ready)))
  hears-kept {B = B} {v = v} ff fb t g u e (inr (answered j a h)) =
      let m : j < length B.contents = nth_below H j B.contents a in
      backward (answered j (rw e (nth_append H j B.contents (v ∷ []) a)) (omega (arith, u (nonempty (omega arith)))))
  hears-kept {B = B} ff fb t g u e (inr (drains k a m h)) =
      lowered (acknowledged B fb (g (all_taken G t a).0) u e (λ o. absurd (empty_none o m)) (λ j i. let o : j ≡ k = omega arith in rw o (omega arith)))

  pub hears-reply : {F B F' B' : Meaning} {N w v : ℕ} → Fits f p F' → Fits b q B' → Taken F w F' → (G w → H v) → PutCase B v B' →
      Within F B (suc N) → Stage (total F B) (Hearing F F' B' N) F' B'
  hears-reply ff fb t g (refused s) h = same (omega (arith, t.losses)) (hears-refused ff fb t s h)
  hears-reply ff fb t g (kept s u e i) h = same (omega (arith, t.losses)) (hears-kept ff fb t g u e h)
  hears-reply ff fb t g (lost s e i) h = fewer (omega (arith, t.losses))

  pub hears-nothing : {F B : Meaning} {N : ℕ} → Silent F → Within F B (suc N) → Hearing F F B N
  hears-nothing s (inl h) = ticking h s refl
  hears-nothing s (inr h) = backward h

  pub heard-weaker : {F F' B' : Meaning} {N : ℕ} → Hearing F F' B' N → Within F' B' (suc N)
  heard-weaker (lowered h) = weaker h
  heard-weaker (ticking h s e) = inl h
  heard-weaker (backward h) = inr h

  -- A settle that completes nothing takes nothing, or a word that does not acknowledge the exchange.
  pub data Settled (B : Meaning) : Meaning → Type 0 where
    nothing : Silent B → Settled B B
    other : {w : ℕ} {B' : Meaning} → Taken B w B' → ¬ H w → Settled B B'

  pub settled-losses : {B B' : Meaning} → Settled B B' → B'.losses ≡ B.losses
  settled-losses (nothing s) = refl
  settled-losses (other t n) = t.losses

  settles-forward : {F B B' : Meaning} {N : ℕ} → Settled B B' → ByForward F B N → ByForward F B' N
  settles-forward (nothing s) h = h
  settles-forward (other t n) (unsent a e h) = absurd (empty_none e (ap length t.oldest))
  settles-forward (other t n) (unheard a e m h) = absurd (empty_none e (ap length t.oldest))
  settles-forward (other t n) (flushes k a m h) = flushes k a m h

  -- it lowers a bound that comes from the back channel, or the oldest word there still waits
  settles-back : {F B B' : Meaning} {N : ℕ} → Fits b q B' → Settled B B' → ByBack F B (suc N) → Within F B' N ⊎ (ByBack F B' (suc N) × (0 < B'.wait))
  settles-back fb (nothing (inl e)) (answered j a h) = absurd (rw e at a)
  settles-back fb (nothing (inl e)) (drains k a m h) = absurd (empty_none e m)
  settles-back fb (nothing (inr i)) h = inr (h, i)
  settles-back fb (other t n) (answered zero a h) = absurd (n (rw t.oldest at a))
  settles-back fb (other t n) (answered (suc j) a h) =
      inl (inr (answered j (rw t.oldest at a) (omega (arith, fb.standing.soon, fb.is_delay, t.ready))))
  settles-back {F = F} {B = B} {B' = B'} {N = N} fb (other t n) (drains k a m h) = go (shape B'.contents) k m h
    where
      all : length B.contents ≡ suc (length B'.contents)
      all = ap length t.oldest

      go : (B'.contents ≡ []) ⊎ ((x : ℕ) × (ys : List ℕ) × (B'.contents ≡ x ∷ ys)) → (k : ℕ) → length B.contents ≡ suc k →
          B.wait + 1 + k * (q + 1) + (p + 1) + (q + 1) ≤ suc N →
          Within F B' N ⊎ (ByBack F B' (suc N) × (0 < B'.wait))
      go (inl e) k m h = inl (inl (unsent a e (omega (arith, t.ready))))
      go (inr (x, ys, e)) zero m h = absurd (omega (arith, all, ap length e))
      go (inr (x, ys, e)) (suc j) m h = inl (inr (drains j a (omega (arith, all)) (omega (arith, fb.standing.soon, fb.is_delay, t.ready))))

  pub settles : {F B B' : Meaning} {N : ℕ} → Fits b q B' → Settled B B' → Within F B N → Within F B' N
  settles fb s (inl h) = inl (settles-forward s h)
  settles {N = zero} fb s (inr h) = absurd (omega (arith, positive (inr h)))
  settles {N = suc N} fb s (inr h) = elim (settles-back fb s h) [ inl i ↦ weaker i | inr i ↦ inr i.0 ]

  -- After a hear with a word in the forward channel, and a settle, the bound was lowered, or the next tick will lower it.
  pub data Settling (F B : Meaning) (N : ℕ) : Type 0 where
    lowered : Within F B N → Settling F B N
    ticks-forward : ByForward F B (suc N) → 0 < F.wait → Settling F B N
    ticks-back : ByBack F B (suc N) → 0 < B.wait → Settling F B N

  pub settles-heard : {F F' B B' : Meaning} {N : ℕ} → Fits b q B' → 0 < length F.contents → Settled B B' → Hearing F F' B N → Settling F' B' N
  settles-heard fb m s (lowered h) = lowered (settles fb s h)
  settles-heard fb m s (ticking h (inl e) _) = absurd (nonempty m e)
  settles-heard fb m s (ticking h (inr i) e) = ticks-forward (settles-forward s h) (rw e i)
  settles-heard fb m s (backward h) = elim (settles-back fb s h) [ inl i ↦ lowered i | inr i ↦ ticks-back i.0 i.1 ]

  -- A tick that loses nothing.
  record Ticked (m n : Meaning) : Type 0 where
    same-contents : n.contents ≡ m.contents
    no_longer : n.wait ≤ m.wait
    shorter : 0 < m.wait → n.wait < m.wait

  ticked : {m n : Meaning} → Tick m n → (n.losses < m.losses) ⊎ ((n.losses ≡ m.losses) × Ticked m n)
  ticked {m = m} {n = n} t = go (dec_lt (length n.contents) (length m.contents))
    where
      go : Dec (length n.contents < length m.contents) → (n.losses < m.losses) ⊎ ((n.losses ≡ m.losses) × Ticked m n)
      go (yes h) = inl (omega (arith, t.losses))
      go (no h) =
          let e : length n.contents ≡ length m.contents = omega (arith, sublist_length t.order) in
          let s : ((m.wait ≡ 0) × (n.wait ≡ 0)) ⊎ (n.wait < m.wait) = t.wait e in
          inr (omega (arith, t.losses), record { same-contents = sublist_whole t.order e; no_longer = omega arith; shorter = λ i. omega arith })

  ticks-kept : {F B F' B' : Meaning} {N : ℕ} → Ticked F F' → Ticked B B' → Within F B N → Within F' B' N
  ticks-kept s t (inl (unsent a e h)) = inl (unsent (rw s.same-contents a) (t.same-contents ∙ e) h)
  ticks-kept s t (inl (unheard a e m h)) =
      inl (unheard (rw s.same-contents a) (t.same-contents ∙ e) (rw s.same-contents m) (omega (arith, s.no_longer)))
  ticks-kept s t (inl (flushes k a m h)) = inl (flushes k (rw s.same-contents a) (rw s.same-contents m) (omega (arith, s.no_longer)))
  ticks-kept s t (inr (answered j a h)) = inr (answered j (rw t.same-contents a) (omega (arith, t.no_longer)))
  ticks-kept s t (inr (drains k a m h)) = inr (drains k (rw s.same-contents a) (rw t.same-contents m) (omega (arith, t.no_longer)))

  waits_holds : {F : Meaning} → Fits f p F → 0 < F.wait → 0 < length F.contents
  waits_holds {F = F} ff i = go (shape F.contents)
    where
      go : (F.contents ≡ []) ⊎ ((x : ℕ) × (ys : List ℕ) × (F.contents ≡ x ∷ ys)) → 0 < length F.contents
      go (inl e) = absurd (omega (arith, ff.standing.still e))
      go (inr (x, ys, e)) = let k = ap length e in omega arith

  ticks_settling : {F B F' B' : Meaning} {N : ℕ} → Fits f p F → Ticked F F' → Ticked B B' → Settling F B N → Within F' B' N
  ticks_settling ff s t (lowered h) = ticks-kept s t h
  ticks_settling ff s t (ticks-forward (unsent a e h) i) =
      inl (unheard (rw s.same-contents a) (t.same-contents ∙ e) (rw s.same-contents (waits_holds ff i)) (omega (arith, s.shorter i, ff.standing.soon, ff.is_delay)))
  ticks_settling ff s t (ticks-forward (unheard a e m h) i) =
      inl (unheard (rw s.same-contents a) (t.same-contents ∙ e) (rw s.same-contents m) (omega (arith, s.shorter i)))
  ticks_settling ff s t (ticks-forward (flushes k a m h) i) =
      inl (flushes k (rw s.same-contents a) (rw s.same-contents m) (omega (arith, s.shorter i)))
  ticks_settling ff s t (ticks-back (answered j a h) i) = inr (answered j (rw t.same-contents a) (omega (arith, t.shorter i)))
  ticks_settling ff s t (ticks-back (drains k a m h) i) =
      inr (drains k (rw s.same-contents a) (rw t.same-contents m) (omega (arith, t.shorter i)))

  -- A tick of both channels loses something, or does what a tick that loses nothing does.
  ticks_either : {F B F' B' : Meaning} {P : Type 0} → Tick F F' → Tick B B' → (Ticked F F' → Ticked B B' → P) → Stage (total F B) P F' B'
  ticks_either {F = F} {B = B} {F' = F'} {B' = B'} {P = P} s t h = go (ticked s) (ticked t)
    where
      go : (F'.losses < F.losses) ⊎ ((F'.losses ≡ F.losses) × Ticked F F') →
          (B'.losses < B.losses) ⊎ ((B'.losses ≡ B.losses) × Ticked B B') → Stage (total F B) P F' B'
      go (inl i) (inl j) = fewer (omega arith)
      go (inl i) (inr j) = fewer (omega arith)
      go (inr i) (inl j) = fewer (omega arith)
      go (inr i) (inr j) = same (omega arith) (h i.1 j.1)

  pub ticks : {F B F' B' : Meaning} {N : ℕ} → Tick F F' → Tick B B' → Within F B N → Stage (total F B) (Within F' B' N) F' B'
  ticks s t h = ticks_either s t (λ i j. ticks-kept i j h)

  pub ticks-round : {F B F' B' : Meaning} {N : ℕ} → Fits f p F → Tick F F' → Tick B B' → Settling F B N → Stage (total F B) (Within F' B' N) F' B'
  ticks-round ff s t h = ticks_either s t (λ i j. ticks_settling ff i j h)
