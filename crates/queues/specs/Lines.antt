-- What a delay line means, and what its calls do. Assumes nothing.
use Rattle.std.specs.Prelude.{◌≡◌, ℕ, ◌-◌, Bool, true, false, cond, ◌&&◌, List, [], ◌∷◌, ◌++◌, map, length, Ok, Err, Result, ◌==◌, nat_le, nat_lt}
use Rattle.wire.specs.Refusals.{Answer}
use Rattle.wire.specs.declared.refusal.Refusal.{Refusal}
use Rattle.wire.specs.declared.refusal.Refusal.TheVariants.{Full, Silent}
use Rattle.channel.specs.Meaning.{Meaning, Behaviour}
use Rattle.queues.specs.declared.line.DelayLine.{DelayLine}
use Rattle.queues.specs.declared.line.Timed.{Timed}
use Rattle.queues.specs.Buffers.{held, first, rest}
use Rattle.queues.specs.Rings.{ring_fits}

-- the capacities and delays that a line can have
abbrev pub line_fits : ℕ → ℕ → Bool
line_fits capacity delay = ring_fits capacity && nat_le delay 15

-- the capacity and the delay of the line that is made where these are asked for
abbrev pub line_capacity : ℕ → ℕ → ℕ
line_capacity capacity delay = cond (line_fits capacity delay) capacity 1

abbrev pub line_delay : ℕ → ℕ → ℕ
line_delay capacity delay = cond (line_fits capacity delay) delay 0

-- the words that a line holds, the oldest first
abbrev pub line_words : DelayLine → List ℕ
line_words s = map (λ item. item.word) (held s.queue)

-- their due numbers at a count of ticks: how many ticks more each word waits
abbrev pub dues_at : ℕ → List Timed → List ℕ
dues_at now items = map (λ item. item.ready - now) items

abbrev pub line_dues : DelayLine → List ℕ
line_dues s = dues_at s.ticks (held s.queue)

-- every due number above 0 falls by one
abbrev pub lowered : List ℕ → List ℕ
lowered = map (λ due. due - 1)

-- the word so many ticks sooner
abbrev pub sooner : ℕ → Timed → Timed
sooner ticks item = record { word = item.word; ready = item.ready - ticks }

-- a line by its words, their due numbers, its capacity and its delay
abbrev pub line_meaning : List ℕ → List ℕ → ℕ → ℕ → Meaning
line_meaning words dues capacity delay = record { contents = words; capacity = capacity; delay = delay; wait = first dues; losses = 0; is_open = nat_lt (length words) capacity }

abbrev pub line_means : DelayLine → Meaning
line_means s = line_meaning (line_words s) (line_dues s) s.queue.capacity s.delay

-- A put, by whether there is room: the words and due numbers before, the delay, the word, the answer, and the words and
-- due numbers after.
abbrev pub LinePut : Bool → List ℕ → List ℕ → ℕ → ℕ → Answer → List ℕ → List ℕ → Type 0
LinePut true words dues delay w r words' dues' = (r ≡ Ok tt) × (words' ≡ words ++ (w ∷ [])) × (dues' ≡ dues ++ (delay ∷ []))
LinePut false words dues delay w r words' dues' = (r ≡ Err Full) × (words' ≡ words) × (dues' ≡ dues)

-- whether there is a word, and the oldest is due
abbrev pub line_ready : List ℕ → List ℕ → Bool
line_ready words dues = nat_lt 0 (length words) && first dues == 0

-- A take, by whether a word is ready: the words and due numbers before, the answer, and the words and due numbers after.
abbrev pub LineTake : Bool → List ℕ → List ℕ → Result ℕ Refusal → List ℕ → List ℕ → Type 0
LineTake true words dues r words' dues' = (r ≡ Ok (first words)) × (words' ≡ rest words) × (dues' ≡ rest dues)
LineTake false words dues r words' dues' = (r ≡ Err Silent) × (words' ≡ words) × (dues' ≡ dues)

-- capacity and delay stay
abbrev pub SameLine : DelayLine → DelayLine → Type 0
SameLine s t = (t.queue.capacity ≡ s.queue.capacity) × (t.delay ≡ s.delay)

-- what a line means and does
abbrev pub line_behaviour : Behaviour DelayLine
line_behaviour = record {
  means = line_means;
  puts = λ s w r t. LinePut (line_means s).is_open (line_words s) (line_dues s) s.delay w r (line_words t) (line_dues t) × SameLine s t;
  takes = λ s r t. LineTake (line_ready (line_words s) (line_dues s)) (line_words s) (line_dues s) r (line_words t) (line_dues t) × SameLine s t;
  ticks = λ s t. ((line_words t ≡ line_words s) × (line_dues t ≡ lowered (line_dues s))) × SameLine s t;
}
