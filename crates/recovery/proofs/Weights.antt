-- Counting words: a weight for each, summed over a channel; and labels by how far ahead of the sender's they lie. Assumes nothing.
use Rattle.std.proofs.Common.{◌≡◌, ℕ, suc, ◌+◌, ◌-◌, ◌%◌, ◌<◌, ◌≤◌, ◌⊎◌, List, [], ◌∷◌, ◌++◌, length, Some, None, Option, refl, ap, inl, inr, arith}
use native.Mathlib.Decide.{dec_lt}
use Rattle.std.specs.List.{AllByRecursion as All}
use Rattle.channel.specs.Meaning.{Meaning}
use Rattle.channel.specs.Rules.{Sublist, Taken}
use Rattle.channel.specs.Rules.Sublist.{none, keep, drop}
use Rattle.recovery.proofs.Channels.{PutCase, refused, kept, lost}
use Rattle.recovery.proofs.Labels.{next_label, Lacks}

abbrev pub weigh : (ℕ → ℕ) → List ℕ → ℕ
weigh g [] = 0
weigh g (w ∷ ws) = g w + weigh g ws

module _ (g : ℕ → ℕ) where
  weigh_push : (ws : List ℕ) (w : ℕ) → weigh g (ws ++ (w ∷ [])) ≡ weigh g ws + g w
  weigh_push [] w = omega arith
  weigh_push (v ∷ ws) w = let t = weigh_push ws w in omega arith

  pub weigh-put : {m n : Meaning} {w : ℕ} → PutCase m w n → weigh g n.contents ≤ weigh g m.contents + g w
  weigh-put (refused s) = omega arith
  weigh-put {m = m} {w = w} (kept s u e i) = rw e (let t = weigh_push m.contents w in omega arith)
  weigh-put (lost s e i) = rw e (omega arith)

  pub weigh_taken : {m n : Meaning} {w : ℕ} → Taken m w n → weigh g m.contents ≡ g w + weigh g n.contents
  weigh_taken t = ap (weigh g) t.oldest

  pub weigh_sublist : {xs ys : List ℕ} → Sublist xs ys → weigh g xs ≤ weigh g ys
  weigh_sublist none = omega arith
  weigh_sublist (keep s) = omega (arith, weigh_sublist s)
  weigh_sublist (drop s) = omega (arith, weigh_sublist s)

  pub weigh-length : (ws : List ℕ) → ((w : ℕ) → g w ≤ 1) → weigh g ws ≤ length ws
  weigh-length [] h = omega arith
  weigh-length (w ∷ ws) h = let t = weigh-length ws h in omega (arith, h w)

  pub weigh-zero : (ws : List ℕ) → weigh g ws ≡ 0 → All (λ w. g w ≡ 0) ws
  weigh-zero [] h = tt
  weigh-zero (w ∷ ws) h = (omega arith, weigh-zero ws (omega arith))

pub weigh-split : (g d e : ℕ → ℕ) → ((w : ℕ) → d w + e w ≤ g w) → (ws : List ℕ) → weigh d ws + weigh e ws ≤ weigh g ws
weigh-split g d e h [] = omega arith
weigh-split g d e h (w ∷ ws) = let t = weigh-split g d e h ws in omega (arith, h w)

-- The weight of a word by the label that it carries; a spoilt one weighs nothing.
abbrev pub on : (ℕ → ℕ) → Option ℕ → ℕ
on g None = 0
on g (Some z) = g z

pub on-split : (K : ℕ) (g d e : ℕ → ℕ) → ((z : ℕ) → z < K → d z + e z ≤ g z) → (o : Option ℕ) → ((z : ℕ) → o ≡ Some z → z < K) →
    on d o + on e o ≤ on g o
on-split K g d e h None b = omega arith
on-split K g d e h (Some z) b = h z (b z refl)

pub on-small : (g : ℕ → ℕ) → ((z : ℕ) → g z ≤ 1) → (o : Option ℕ) → on g o ≤ 1
on-small g h None = omega arith
on-small g h (Some z) = h z

pub on_some : (g : ℕ → ℕ) {o : Option ℕ} {z : ℕ} → o ≡ Some z → on g o ≡ g z
on_some g e = ap (on g) e

pub on_lacks : (g : ℕ → ℕ) (x : ℕ) → 0 < g x → (o : Option ℕ) → on g o ≡ 0 → Lacks x o
on_lacks g x h o e i = let k : on g o ≡ g x = on_some g i in omega arith

-- How many labels on from s the label z comes, from 1 to K.
pub ahead : ℕ → ℕ → ℕ → ℕ
ahead K s z = elim (dec_lt s z) [ yes h ↦ z - s | no h ↦ z + K - s ]

abbrev Ahead : ℕ → ℕ → ℕ → Type 0
Ahead K s z = ((s < z) × (ahead K s z ≡ z - s)) ⊎ ((z ≤ s) × (ahead K s z ≡ z + K - s))

ahead_is : (K s z : ℕ) → Ahead K s z
unfolding ahead
ahead_is K s z = go (dec_lt s z)
  where
    go : (d : Dec (s < z)) →
        ((s < z) × (elim d as (λ _. ℕ) [ yes h ↦ z - s | no h ↦ z + K - s ] ≡ z - s)) ⊎ ((z ≤ s) × (elim d as (λ _. ℕ) [ yes h ↦ z - s | no h ↦ z + K - s ] ≡ z + K - s))
    go (yes h) = inl (h, refl)
    go (no h) = inr (omega arith, refl)

-- One for a label that comes at most n on from s, and one for a label that comes just n on; nothing for any other.
abbrev pub near : ℕ → ℕ → ℕ → ℕ → ℕ
near K s n z = 1 - (ahead K s z - n)

abbrev pub at : ℕ → ℕ → ℕ → ℕ → ℕ
at K s n z = 1 - ((ahead K s z - n) + (n - ahead K s z))

pub near-own : (K s n : ℕ) → n < K → s < K → near K s n s ≡ 0
near-own K s n h k = elim (ahead_is K s s) [ inl u ↦ omega arith | inr u ↦ omega arith ]

-- The sender moves on by one label: of those near, all but the new one stay near.
pub near_next : (K s n : ℕ) → s < K → n < K → (z : ℕ) → z < K → near K ((s + 1) % K) n z + at K s 1 z ≤ near K s (suc n) z
near_next K s n h k z b = go (next_label K s h) (ahead_is K s z) (ahead_is K ((s + 1) % K) z)
  where
    go : ((s + 1 < K) × ((s + 1) % K ≡ s + 1)) ⊎ ((s + 1 ≡ K) × ((s + 1) % K ≡ 0)) → Ahead K s z → Ahead K ((s + 1) % K) z →
        near K ((s + 1) % K) n z + at K s 1 z ≤ near K s (suc n) z
    go (inl i) (inl u) (inl v) = omega arith
    go (inl i) (inl u) (inr v) = omega arith
    go (inl i) (inr u) (inl v) = omega arith
    go (inl i) (inr u) (inr v) = omega arith
    go (inr i) (inl u) (inl v) = omega arith
    go (inr i) (inl u) (inr v) = omega arith
    go (inr i) (inr u) (inl v) = omega arith
    go (inr i) (inr u) (inr v) = omega arith

pub at_next : (K s : ℕ) → s < K → 2 ≤ K → 0 < at K s 1 ((s + 1) % K)
at_next K s h k = go (next_label K s h) (ahead_is K s ((s + 1) % K))
  where
    go : ((s + 1 < K) × ((s + 1) % K ≡ s + 1)) ⊎ ((s + 1 ≡ K) × ((s + 1) % K ≡ 0)) → Ahead K s ((s + 1) % K) → 0 < at K s 1 ((s + 1) % K)
    go (inl i) (inl u) = omega arith
    go (inl i) (inr u) = omega arith
    go (inr i) (inl u) = omega arith
    go (inr i) (inr u) = omega arith

-- The sender's own label comes last, after all the others.
pub near-rest : (K s n : ℕ) → n < K → (z : ℕ) → near K s n z + at K s K z ≤ 1
near-rest K s n h z = omega arith

pub at_own : (K s : ℕ) → s < K → 0 < at K s K s
at_own K s h = elim (ahead_is K s s) [ inl u ↦ omega arith | inr u ↦ omega arith ]
