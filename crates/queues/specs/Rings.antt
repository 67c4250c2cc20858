-- What a ring means, and what its calls do. Assumes nothing.
use Rattle.std.specs.Prelude.{◌≡◌, ℕ, Bool, true, false, cond, ◌&&◌, List, [], ◌∷◌, ◌++◌, length, Ok, Err, Result, nat_le, nat_lt}
use Rattle.wire.specs.Refusals.{Answer}
use Rattle.wire.specs.declared.refusal.Refusal.{Refusal}
use Rattle.wire.specs.declared.refusal.Refusal.TheVariants.{Full, Silent}
use Rattle.channel.specs.Meaning.{Meaning, Behaviour}
use Rattle.queues.specs.declared.ring.Ring.{Ring}
use Rattle.queues.specs.Buffers.{held, first, rest}

-- the capacities that a ring can have
abbrev pub ring_fits : ℕ → Bool
ring_fits capacity = nat_le 1 capacity && nat_le capacity 64

-- the capacity of the ring that is made where this one is asked for
abbrev pub ring_capacity : ℕ → ℕ
ring_capacity asked = cond (ring_fits asked) asked 1

-- the words that a ring holds, the oldest first
abbrev pub ring_words : Ring → List ℕ
ring_words s = held s.queue

-- a ring by its words and its capacity
abbrev pub ring_meaning : List ℕ → ℕ → Meaning
ring_meaning words capacity = record { contents = words; capacity = capacity; delay = 0; wait = 0; losses = 0; is_open = nat_lt (length words) capacity }

abbrev pub ring_means : Ring → Meaning
ring_means s = ring_meaning (ring_words s) s.queue.capacity

-- A put, by whether there is room: the words before, the word, the answer, and the words after.
abbrev pub RingPut : Bool → List ℕ → ℕ → Answer → List ℕ → Type 0
RingPut true words w r words' = (r ≡ Ok tt) × (words' ≡ words ++ (w ∷ []))
RingPut false words w r words' = (r ≡ Err Full) × (words' ≡ words)

-- A take, by whether there is a word: the words before, the answer, and the words after.
abbrev pub RingTake : Bool → List ℕ → Result ℕ Refusal → List ℕ → Type 0
RingTake true words r words' = (r ≡ Ok (first words)) × (words' ≡ rest words)
RingTake false words r words' = (r ≡ Err Silent) × (words' ≡ words)

-- what a ring means and does; a tick changes nothing
abbrev pub ring_behaviour : Behaviour Ring
ring_behaviour = record {
  means = ring_means;
  puts = λ s w r t. RingPut (ring_means s).is_open (ring_words s) w r (ring_words t) × (t.queue.capacity ≡ s.queue.capacity);
  takes = λ s r t. RingTake (nat_lt 0 (length (ring_words s))) (ring_words s) r (ring_words t) × (t.queue.capacity ≡ s.queue.capacity);
  ticks = λ s t. (ring_words t ≡ ring_words s) × (t.queue.capacity ≡ s.queue.capacity);
}
