-- The check of a link: which channels and which label counts it takes. Assumes nothing.
use Rattle.std.specs.Prelude.{ℕ, ◌+◌, Bool, true, false, ◌&&◌, Ok, Err, nat_le}
use Rattle.wire.specs.Refusals.{Answer}
use Rattle.wire.specs.declared.refusal.Refusal.TheVariants.{Span, Labels}
use Rattle.channel.specs.Meaning.{Meaning, Behaviour, answered}
use Rattle.recovery.specs.Codec.{Codec}
use Rattle.recovery.specs.State.{LinkState, codec_of}

-- the channel's delay and its losses left are each at most 100, as answered
abbrev pub in_span : Meaning → Bool
in_span m = nat_le (answered m.delay) 100 && nat_le (answered m.losses) 100

-- the two capacities together, as answered
abbrev pub places : Meaning → Meaning → ℕ
places forward back = answered forward.capacity + answered back.capacity

-- `span` comes before `labels`
abbrev pub verdict : Bool → Bool → Answer
verdict false labels = Err Span
verdict true false = Err Labels
verdict true true = Ok tt

-- Refused `span` if a delay or a number of losses left is above 100, then `labels` if there are fewer labels than the channels have
-- places and two, or more than the words can carry.
abbrev pub checked : ℕ → ℕ → Meaning → Meaning → Answer
checked largest labels forward back =
    verdict (in_span forward && in_span back) (nat_le (places forward back + 2) labels && nat_le labels largest)

-- the check of a made link
abbrev pub checked_link : {Config Rec F B : Type 0} → (Config → Codec Rec) → Behaviour F → Behaviour B → ℕ → LinkState Config Rec F B → Answer
checked_link codec X Y largest l = checked largest (codec_of codec l).labels (X.means l.forward) (Y.means l.back)
