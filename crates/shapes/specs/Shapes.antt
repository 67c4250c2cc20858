-- The shape of a channel: a stack of rings, delay lines, losses and relays as data, with calls that compute. Assumes nothing.
use Rattle.std.specs.Prelude.{ℕ, Bool, true, false, List, [], ◌∷◌, ◌++◌, length, Ok, Err, Result, nat_lt}
use Rattle.wire.specs.Refusals.{Answer}
use Rattle.wire.specs.declared.refusal.Refusal.{Refusal}
use Rattle.wire.specs.declared.refusal.Refusal.TheVariants.{Full, Silent}
use Rattle.channel.specs.Meaning.{Meaning}
use Rattle.queues.specs.Buffers.{first, rest}
use Rattle.queues.specs.Rings.{ring_meaning}
use Rattle.queues.specs.Lines.{line_meaning, line_ready, lowered}
use Rattle.lossy.specs.Patterns.{top_bit, shifted}
use Rattle.lossy.specs.Losses.{lossy}
use Rattle.relays.specs.Relays.{relayed}

-- A ring by its words and its capacity; a delay line by its words, their due numbers, its capacity and its delay; a loss
-- layer by its pattern and the channel below; a relay by its upper and its lower channel.
pub data Shape : Type 0 where
  ring : List ℕ → ℕ → Shape
  line : List ℕ → List ℕ → ℕ → ℕ → Shape
  loss : ℕ → Shape → Shape
  relay : Shape → Shape → Shape

abbrev pub means : Shape → Meaning
means (ring words capacity) = ring_meaning words capacity
means (line words dues capacity delay) = line_meaning words dues capacity delay
means (loss pattern below) = lossy pattern (means below)
means (relay upper lower) = relayed (means upper) (means lower)

-- what a put and a take answer, and the channel afterwards
abbrev pub PutResult : Type 0
PutResult = Answer × Shape

abbrev pub TakeResult : Type 0
TakeResult = Result ℕ Refusal × Shape

-- a put into a queue, by whether there is room: the queue before, and with the word
abbrev pub accepted : Bool → Shape → Shape → PutResult
accepted true before with = (Ok tt, with)
accepted false before with = (Err Full, before)

-- a put through a loss layer, by whether the channel below is open, and whether the bit that comes next is a 1: the
-- pattern, the channel below, and what a put into it does
abbrev pub accepted_below : Bool → Bool → ℕ → Shape → PutResult → PutResult
accepted_below true true pattern below put = (Ok tt, loss (shifted pattern) below)
accepted_below true false pattern below put = (put.0, loss (shifted pattern) put.1)
accepted_below false lost pattern below put = (Err Full, loss pattern below)

abbrev pub put : Shape → ℕ → PutResult
put (ring words capacity) w = accepted (nat_lt (length words) capacity) (ring words capacity) (ring (words ++ (w ∷ [])) capacity)
put (line words dues capacity delay) w = accepted (nat_lt (length words) capacity) (line words dues capacity delay) (line (words ++ (w ∷ [])) (dues ++ (delay ∷ [])) capacity delay)
put (loss pattern below) w = accepted_below (means below).is_open (top_bit pattern) pattern below (put below w)
put (relay upper lower) w = let p : PutResult = put upper w in (p.0, relay p.1 lower)

-- a take from a queue, by whether a word is ready: the word, the queue before, and without it
abbrev pub given : Bool → ℕ → Shape → Shape → TakeResult
given true w before without = (Ok w, without)
given false w before without = (Err Silent, before)

abbrev pub take : Shape → TakeResult
take (ring words capacity) = given (nat_lt 0 (length words)) (first words) (ring words capacity) (ring (rest words) capacity)
take (line words dues capacity delay) = given (line_ready words dues) (first words) (line words dues capacity delay) (line (rest words) (rest dues) capacity delay)
take (loss pattern below) = let t : TakeResult = take below in (t.0, loss pattern t.1)
take (relay upper lower) = let t : TakeResult = take lower in (t.0, relay upper t.1)

-- what the upper gave is put into the lower
abbrev pub fallen : Result ℕ Refusal → Shape → Shape
fallen (Ok w) lower = (put lower w).1
fallen (Err e) lower = lower

-- a relay once both have ticked, by whether the lower is open: the upper, what it gives, and the lower
abbrev pub moved : Bool → Shape → TakeResult → Shape → Shape
moved true upper taken lower = relay taken.1 (fallen taken.0 lower)
moved false upper taken lower = relay upper lower

abbrev pub tick : Shape → Shape
tick (ring words capacity) = ring words capacity
tick (line words dues capacity delay) = line words (lowered dues) capacity delay
tick (loss pattern below) = loss pattern (tick below)
tick (relay upper lower) = moved (means (tick lower)).is_open (tick upper) (take (tick upper)) (tick lower)
