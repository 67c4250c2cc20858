-- What a channel means: the words that it holds, and how they move. Assumes nothing.
use Rattle.std.specs.Prelude.{◌≡◌, ℕ, zero, suc, ◌≤◌, min, Bool, true, false, List, [], ◌∷◌, length, Ok, Err, Result}
use Rattle.wire.specs.Refusals.{Answer}
use Rattle.wire.specs.declared.refusal.Refusal.{Refusal}
use Rattle.wire.specs.declared.refusal.Refusal.TheVariants.{Place}

-- The words held, the oldest first; how many there is room for; the delay; how many ticks the oldest word still
-- waits; how many words may still be lost; and whether a word can be put.
pub record Meaning : Type 0 where
  pub contents : List ℕ
  pub capacity : ℕ
  pub delay : ℕ
  pub wait : ℕ
  pub losses : ℕ
  pub is_open : Bool

-- what holds of a channel at any time
pub record Standing (m : Meaning) : Type 0 where
  pub room : 1 ≤ m.capacity
  pub within : length m.contents ≤ m.capacity
  pub soon : m.wait ≤ m.delay
  pub still : m.contents ≡ [] → m.wait ≡ 0
  pub free : m.contents ≡ [] → m.is_open ≡ true
  pub full : length m.contents ≡ m.capacity → m.is_open ≡ false

-- A sort of channel: what each of its states means, and by which states its calls follow one another.
pub record Behaviour (C : Type 0) : Type 1 where
  pub means : C → Meaning
  pub puts : C → ℕ → Answer → C → Type 0
  pub takes : C → Result ℕ Refusal → C → Type 0
  pub ticks : C → C → Type 0

-- the behaviour of a channel by its separate parts
abbrev pub behaviour : {C : Type 0} → (C → List ℕ) → (C → ℕ) → (C → ℕ) → (C → ℕ) → (C → ℕ) → (C → Bool) → (C → ℕ → Answer → C → Type 0) → (C → Result ℕ Refusal → C → Type 0) → (C → C → Type 0) → Behaviour C
behaviour contents capacity delay wait losses is_open puts takes ticks = record {
  means = λ s. record { contents = contents s; capacity = capacity s; delay = delay s; wait = wait s; losses = losses s; is_open = is_open s };
  puts = puts;
  takes = takes;
  ticks = ticks;
}

-- questions are answered by 16-bit numbers: a larger one is answered as the largest
abbrev pub answered : ℕ → ℕ
answered n = min 65535 n

-- the word at a position, 0 being the oldest, or a refusal from the load on
abbrev pub peeked : List ℕ → ℕ → Result ℕ Refusal
peeked [] n = Err Place
peeked (w ∷ ws) zero = Ok w
peeked (w ∷ ws) (suc n) = peeked ws n
