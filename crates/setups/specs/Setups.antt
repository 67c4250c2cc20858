-- The two standard set-ups: what their channels mean as they are made. Assumes nothing.
use Rattle.std.specs.Prelude.{[]}
use Rattle.channel.specs.Meaning.{Meaning}
use Rattle.queues.specs.Rings.{ring_meaning}
use Rattle.queues.specs.Lines.{line_meaning}
use Rattle.lossy.specs.Losses.{lossy}
use Rattle.relays.specs.Relays.{relayed}

-- the first: a ring of 1 forward, and a ring of 1 back
abbrev pub first_forward : Meaning
first_forward = ring_meaning [] 1

abbrev pub first_back : Meaning
first_back = ring_meaning [] 1

-- the second forward: the first word and the third are lost; the others pass a ring of 3, then a line of 2 with delay 1
abbrev pub second_forward : Meaning
second_forward = lossy 0xA000000000000000 (relayed (ring_meaning [] 3) (line_meaning [] [] 2 1))

-- the second back: the second word is lost; the others pass a ring of 3
abbrev pub second_back : Meaning
second_back = lossy 0x4000000000000000 (ring_meaning [] 3)
