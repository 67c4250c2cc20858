-- The shape of each channel. Assumes nothing.
use Rattle.queues.specs.declared.ring.Ring.{Ring}
use Rattle.queues.specs.declared.line.DelayLine.{DelayLine}
use Rattle.queues.specs.Rings.{ring_words}
use Rattle.queues.specs.Lines.{line_words, line_dues}
use Rattle.lossy.specs.declared.loss.Loss.{Loss}
use Rattle.relays.specs.declared.relay.Relay.{Relay}
use Rattle.shapes.specs.Shapes.{Shape, ring, line, loss, relay}

abbrev pub ring_shape : Ring → Shape
ring_shape s = ring (ring_words s) s.queue.capacity

abbrev pub line_shape : DelayLine → Shape
line_shape s = line (line_words s) (line_dues s) s.queue.capacity s.delay

abbrev pub loss_shape : {C : Type 0} → (C → Shape) → Loss C → Shape
loss_shape below s = loss s.pattern (below s.below)

abbrev pub relay_shape : {U L : Type 0} → (U → Shape) → (L → Shape) → Relay U L → Shape
relay_shape upper lower s = relay (upper s.upper) (lower s.lower)
