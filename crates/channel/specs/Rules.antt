-- The channel rules: what put, take and tick may do to the meaning. Assumes nothing.
use Rattle.std.specs.Prelude.{◌≡◌, ℕ, ◌+◌, ◌<◌, true, false, ◌⊎◌, List, [], ◌∷◌, ◌++◌, length, Ok, Err, Result, ◌≢◌}
use Rattle.wire.specs.Refusals.{Answer}
use Rattle.wire.specs.declared.refusal.Refusal.{Refusal}
use Rattle.wire.specs.declared.refusal.Refusal.TheVariants.{Full, Silent}
use Rattle.channel.specs.Meaning.{Meaning, Standing, Behaviour}

-- some words of a list, in its order
pub data Sublist : List ℕ → List ℕ → Type 0 where
  none : Sublist [] []
  keep : {w : ℕ} {kept all : List ℕ} → Sublist kept all → Sublist (w ∷ kept) (w ∷ all)
  drop : {w : ℕ} {kept all : List ℕ} → Sublist kept all → Sublist kept (w ∷ all)

-- capacity and delay never change
pub record SameWire (m n : Meaning) : Type 0 where
  pub capacity : n.capacity ≡ m.capacity
  pub delay : n.delay ≡ m.delay

-- An accepted word becomes the newest, or it is lost, which uses up one loss. Where there were words, the wait stays.
pub record Accepted (m : Meaning) (w : ℕ) (n : Meaning) : Type 0 where
  pub wire : SameWire m n
  pub wait : (m.contents ≢ []) → n.wait ≡ m.wait
  pub word : ((n.contents ≡ m.contents ++ (w ∷ [])) × (n.losses ≡ m.losses)) ⊎ ((n.contents ≡ m.contents) × (n.losses + 1 ≡ m.losses))

-- The oldest word leaves, and nothing is lost.
pub record Taken (m : Meaning) (w : ℕ) (n : Meaning) : Type 0 where
  pub wire : SameWire m n
  pub ready : m.wait ≡ 0
  pub oldest : m.contents ≡ w ∷ n.contents
  pub losses : n.losses ≡ m.losses

-- A put is refused exactly if the channel is closed, and then nothing changes.
abbrev pub Put : Meaning → ℕ → Answer → Meaning → Type 0
Put m w (Ok u) n = (m.is_open ≡ true) × Accepted m w n
Put m w (Err e) n = (m.is_open ≡ false) × (e ≡ Full) × (n ≡ m)

-- A take is refused exactly if there is no word or the oldest still waits, and then nothing changes.
abbrev pub Take : Meaning → Result ℕ Refusal → Meaning → Type 0
Take m (Ok w) n = Taken m w n
Take m (Err e) n = ((m.contents ≡ []) ⊎ (0 < m.wait)) × (e ≡ Silent) × (n ≡ m)

-- Words may be lost, each using up one loss, and the others keep their order. Where none is lost, a wait above 0
-- falls and a wait of 0 stays.
pub record Tick (m n : Meaning) : Type 0 where
  pub wire : SameWire m n
  pub order : Sublist n.contents m.contents
  pub losses : n.losses + length m.contents ≡ m.losses + length n.contents
  pub wait : length n.contents ≡ length m.contents → ((m.wait ≡ 0) × (n.wait ≡ 0)) ⊎ (n.wait < m.wait)

-- What every channel shows of itself.
pub record ChannelRules {C : Type 0} (X : Behaviour C) : Type 0 where
  pub standing : (s : C) → Standing (X.means s)
  pub put : (s : C) (w : ℕ) (r : Answer) (t : C) → X.puts s w r t → Put (X.means s) w r (X.means t)
  pub take : (s : C) (r : Result ℕ Refusal) (t : C) → X.takes s r t → Take (X.means s) r (X.means t)
  pub tick : (s t : C) → X.ticks s t → Tick (X.means s) (X.means t)
