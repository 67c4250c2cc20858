-- What a loss layer means, and what its calls do. Assumes nothing.
use Rattle.std.specs.Prelude.{◌≡◌, ℕ, ◌+◌, Bool, true, false, Ok, Err, Result}
use Rattle.wire.specs.Refusals.{Answer}
use Rattle.wire.specs.declared.refusal.Refusal.{Refusal}
use Rattle.wire.specs.declared.refusal.Refusal.TheVariants.{Full}
use Rattle.channel.specs.Meaning.{Meaning, Behaviour}
use Rattle.lossy.specs.declared.loss.Loss.{Loss}
use Rattle.lossy.specs.Patterns.{top_bit, shifted, bit_count}

-- a channel that may lose so many words more
abbrev pub losing : ℕ → Meaning → Meaning
losing more m = record { contents = m.contents; capacity = m.capacity; delay = m.delay; wait = m.wait; losses = more + m.losses; is_open = m.is_open }

-- a loss layer by its pattern and what the channel below means
abbrev pub lossy : ℕ → Meaning → Meaning
lossy pattern below = losing (bit_count 64 pattern) below

module _ {C : Type 0} where
  -- A put, by whether the channel below is open, and whether the bit that comes next is a 1: the word is lost at a 1,
  -- and put below at a 0; either way the bit is spent. A refused put spends none.
  abbrev pub LossPut : Bool → Bool → (C → ℕ → Answer → C → Type 0) → Loss C → ℕ → Answer → Loss C → Type 0
  LossPut true true puts s w r t = (r ≡ Ok tt) × (t.pattern ≡ shifted s.pattern) × (t.below ≡ s.below)
  LossPut true false puts s w r t = puts s.below w r t.below × (t.pattern ≡ shifted s.pattern)
  LossPut false lost puts s w r t = (r ≡ Err Full) × (t.pattern ≡ s.pattern) × (t.below ≡ s.below)

  -- a take goes to the channel below
  abbrev pub LossTake : (C → Result ℕ Refusal → C → Type 0) → Loss C → Result ℕ Refusal → Loss C → Type 0
  LossTake takes s r t = takes s.below r t.below × (t.pattern ≡ s.pattern)

  -- and so does a tick
  abbrev pub LossTick : (C → C → Type 0) → Loss C → Loss C → Type 0
  LossTick ticks s t = ticks s.below t.below × (t.pattern ≡ s.pattern)

  -- the behaviour of a loss layer by that of the channel below
  abbrev pub loss_behaviour : Behaviour C → Behaviour (Loss C)
  loss_behaviour X = record {
    means = λ s. lossy s.pattern (X.means s.below);
    puts = λ s. LossPut (X.means s.below).is_open (top_bit s.pattern) X.puts s;
    takes = LossTake X.takes;
    ticks = LossTick X.ticks;
  }
