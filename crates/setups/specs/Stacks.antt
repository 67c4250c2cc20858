-- What a stack of channels is made of, part by part, and what the stacks of the set-ups mean. Assumes nothing.
use Rattle.std.specs.Prelude.{◌≡◌, List, ℕ}
use Rattle.channel.specs.Meaning.{Meaning}
use Rattle.queues.specs.declared.ring.Ring.{Ring}
use Rattle.queues.specs.declared.line.DelayLine.{DelayLine}
use Rattle.queues.specs.Rings.{ring_words, ring_means}
use Rattle.queues.specs.Lines.{line_words, line_dues, line_means}
use Rattle.lossy.specs.declared.loss.Loss.{Loss}
use Rattle.relays.specs.declared.relay.Relay.{Relay}
use Rattle.lossy.specs.Losses.{lossy}
use Rattle.relays.specs.Relays.{relayed}

-- a ring of these words and this capacity
abbrev pub IsRing : List ℕ → ℕ → Ring → Type 0
IsRing words capacity s = (ring_words s ≡ words) × (s.queue.capacity ≡ capacity)

-- a delay line of these words, due numbers, capacity and delay
abbrev pub IsLine : List ℕ → List ℕ → ℕ → ℕ → DelayLine → Type 0
IsLine words dues capacity delay s = (line_words s ≡ words) × (line_dues s ≡ dues) × (s.queue.capacity ≡ capacity) × (s.delay ≡ delay)

-- a loss layer of this pattern over such a channel
abbrev pub IsLoss : {C : Type 0} → ℕ → (C → Type 0) → Loss C → Type 0
IsLoss pattern Below s = (s.pattern ≡ pattern) × Below s.below

-- a relay of two such channels
abbrev pub IsRelay : {U L : Type 0} → (U → Type 0) → (L → Type 0) → Relay U L → Type 0
IsRelay Upper Lower s = Upper s.upper × Lower s.lower

-- what the second set-up's stacks mean
abbrev pub forward_means : Loss (Relay Ring DelayLine) → Meaning
forward_means s = lossy s.pattern (relayed (ring_means s.below.upper) (line_means s.below.lower))

abbrev pub back_means : Loss Ring → Meaning
back_means s = lossy s.pattern (ring_means s.below)
