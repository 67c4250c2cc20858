-- What a put, a take and a tick do to the words of a channel, case by case. Assumes nothing.
use Rattle.std.proofs.Common.{◌≡◌, ℕ, ◌+◌, ◌≤◌, false, ◌≢◌, ◌⊎◌, List, [], ◌∷◌, ◌++◌, length, Ok, Err, sym, refl, ap, subst, inl, inr, arith}
use Rattle.std.specs.List.{AllByRecursion as All}
use Rattle.std.proofs.ByRecursion.{All-push}
use Rattle.wire.specs.Refusals.{Answer}
use Rattle.channel.specs.Meaning.{Meaning, Standing}
use Rattle.channel.specs.Rules.{Sublist, SameWire, Taken, Put, Tick}
use Rattle.channel.specs.Rules.Sublist.{none, keep, drop}
use Rattle.channel.specs.Sublists.{sublist_length}

-- A put was refused, as the channel was closed; or the word became the newest; or it was lost.
pub data PutCase (m : Meaning) (w : ℕ) : Meaning → Type 0 where
  refused : m.is_open ≡ false → PutCase m w m
  kept : {n : Meaning} → SameWire m n → (m.contents ≢ [] → n.wait ≡ m.wait) → n.contents ≡ m.contents ++ (w ∷ []) → n.losses ≡ m.losses →
      PutCase m w n
  lost : {n : Meaning} → SameWire m n → n.contents ≡ m.contents → n.losses + 1 ≡ m.losses → PutCase m w n

pub put_case : (m : Meaning) (w : ℕ) (a : Answer) (n : Meaning) → Put m w a n → PutCase m w n
put_case m w (Ok u) n (o, h) = elim h.word [ inl e ↦ kept h.wire h.wait e.0 e.1 | inr e ↦ lost h.wire e.0 e.1 ]
put_case m w (Err e) n (o, _, i) = subst (PutCase m w) (sym i) (refused o)

pub put-losses : {m n : Meaning} {w : ℕ} → PutCase m w n → n.losses ≤ m.losses
put-losses (refused o) = omega arith
put-losses (kept s u e i) = omega arith
put-losses (lost s e i) = omega arith

pub tick-losses : {m n : Meaning} → Tick m n → n.losses ≤ m.losses
tick-losses t = omega (arith, t.losses, sublist_length t.order)

pub sublist_whole : {xs ys : List ℕ} → Sublist xs ys → length xs ≡ length ys → xs ≡ ys
sublist_whole none e = refl
sublist_whole (keep {w = w} s) e = ap (λ (zs : List ℕ). w ∷ zs) (sublist_whole s (omega arith))
sublist_whole (drop s) e = absurd (omega (arith, sublist_length s))

-- A channel that stands, with this capacity and this delay.
pub record Fits (capacity delay : ℕ) (m : Meaning) : Type 0 where
  pub is_capacity : m.capacity ≡ capacity
  pub is_delay : m.delay ≡ delay
  pub standing : Standing m

pub fits_next : {c d : ℕ} {m n : Meaning} → Fits c d m → SameWire m n → Standing n → Fits c d n
fits_next h s n = record { is_capacity = cc (s.capacity, h.is_capacity); is_delay = cc (s.delay, h.is_delay); standing = n }

pub fits-put : {c d w : ℕ} {m n : Meaning} → Fits c d m → PutCase m w n → Standing n → Fits c d n
fits-put h (refused o) n = h
fits-put h (kept s u e i) n = fits_next h s n
fits-put h (lost s e i) n = fits_next h s n

-- Words that all have a property.
module _ (P : ℕ → Type 0) where
  pub all-put : {m n : Meaning} {w : ℕ} → PutCase m w n → P w → All P m.contents → All P n.contents
  all-put (refused o) h t = t
  all-put {m = m} {w = w} (kept s u e i) h t = rw e (All-push P m.contents w t h)
  all-put (lost s e i) h t = rw e t

  pub all_taken : {m n : Meaning} {w : ℕ} → Taken m w n → All P m.contents → P w × All P n.contents
  all_taken t h = rw t.oldest at h

  pub all_sublist : {xs ys : List ℕ} → Sublist xs ys → All P ys → All P xs
  all_sublist none h = tt
  all_sublist (keep s) h = (h.0, all_sublist s h.1)
  all_sublist (drop s) h = all_sublist s h.1

-- Old words, and behind them new ones.
pub data Turned (P Q : ℕ → Type 0) : List ℕ → Type 0 where
  all_new : {ws : List ℕ} → All Q ws → Turned P Q ws
  one_old : {w : ℕ} {ws : List ℕ} → P w → Turned P Q ws → Turned P Q (w ∷ ws)

module _ (P Q : ℕ → Type 0) where
  pub all_old : (ws : List ℕ) → All P ws → Turned P Q ws
  all_old [] h = all_new tt
  all_old (w ∷ ws) h = one_old h.0 (all_old ws h.1)

  turned_push : (w : ℕ) (ws : List ℕ) → Turned P Q ws → Q w → Turned P Q (ws ++ (w ∷ []))
  turned_push w ws (all_new h) k = all_new (All-push Q ws w h k)
  turned_push w ws (one_old h t) k = one_old h (turned_push w _ t k)

  pub turned_put : {m n : Meaning} {w : ℕ} → PutCase m w n → Q w → Turned P Q m.contents → Turned P Q n.contents
  turned_put (refused o) h t = t
  turned_put {m = m} {w = w} (kept s u e i) h t = rw e (turned_push w m.contents t h)
  turned_put (lost s e i) h t = rw e t

  turned_head : (w : ℕ) (ws : List ℕ) → Turned P Q (w ∷ ws) → (P w × Turned P Q ws) ⊎ (Q w × All Q ws)
  turned_head w ws (all_new h) = inr h
  turned_head w ws (one_old h t) = inl (h, t)

  pub turned_taken : {m n : Meaning} {w : ℕ} → Taken m w n → Turned P Q m.contents → (P w × Turned P Q n.contents) ⊎ (Q w × All Q n.contents)
  turned_taken {n = n} {w = w} t h = turned_head w n.contents (rw t.oldest at h)

  pub turned_sublist : {xs ys : List ℕ} → Sublist xs ys → Turned P Q ys → Turned P Q xs
  turned_sublist s (all_new h) = all_new (all_sublist Q s h)
  turned_sublist (keep s) (one_old h u) = one_old h (turned_sublist s u)
  turned_sublist (drop s) (one_old h u) = turned_sublist s u
