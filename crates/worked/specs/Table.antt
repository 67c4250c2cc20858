-- The worked cases. Assumes nothing.
use Rattle.std.specs.Prelude.{ℕ, true, List, [], ◌∷◌, codes}
use Rattle.wire.specs.declared.refusal.Refusal.TheVariants as refusal
use Rattle.channel.specs.Meaning.{Meaning}
use Rattle.readings.specs.declared.reading.Side.TheVariants.{Left, Right}
use Rattle.setups.specs.Setups.{first_forward, first_back, second_forward, second_back}
use Rattle.worked.specs.Cases.{Case, refuses, acknowledges, carries, broken, reading, no_reading, command, no_command, channel, checks, rounds, session}

-- an empty channel of one place, with this delay and so many losses left
abbrev pub bare : ℕ → ℕ → Meaning
bare delay losses = record { contents = []; capacity = 1; delay = delay; wait = 0; losses = losses; is_open = true }

abbrev pub cases : List Case
cases =
    refuses refusal.Size 1 (codes "size")
    ∷ refuses refusal.Span 2 (codes "span")
    ∷ refuses refusal.Labels 3 (codes "labels")
    ∷ refuses refusal.Busy 4 (codes "busy")
    ∷ refuses refusal.Idle 5 (codes "idle")
    ∷ refuses refusal.Full 6 (codes "full")
    ∷ refuses refusal.Silent 7 (codes "silent")
    ∷ refuses refusal.Spoilt 8 (codes "spoilt")
    ∷ refuses refusal.Repeat 9 (codes "repeat")
    ∷ refuses refusal.Stale 10 (codes "stale")
    ∷ refuses refusal.Code 11 (codes "code")
    ∷ refuses refusal.Script 12 (codes "script")
    ∷ refuses refusal.Place 13 (codes "place")
    ∷ refuses refusal.Page 14 (codes "page")
    ∷ acknowledges 0 0x000000000000FFF1
    ∷ acknowledges 1 0x0100000000001EF1
    ∷ acknowledges 3 0x0300000000005CD3
    ∷ carries 5 2 Right 1250 640 0x052282711400C3BC
    ∷ broken 0x0100000000001EF0
    -- axle 12 is a reading, 13 is not
    ∷ reading 12 Left 0 0
    ∷ no_reading 13 Left 0 0
    -- run at 6.0 km/h is a command, at 6.1 and at 0 it is not
    ∷ command 2 60
    ∷ no_command 2 61
    ∷ no_command 2 0
    -- the channels of the second set-up: eight places, and three losses in all
    ∷ channel second_forward 5 2 2
    ∷ channel second_back 3 0 1
    -- two rings of 1 take four labels, and refuse three as too few
    ∷ checks first_forward first_back 4 0
    ∷ checks first_forward first_back 3 3
    -- no more than 256 labels
    ∷ checks first_forward first_back 256 0
    ∷ checks first_forward first_back 257 3
    -- a delay of 100 and 100 losses left are in span, one more of either is not, and span comes before labels
    ∷ checks (bare 100 100) (bare 100 100) 4 0
    ∷ checks (bare 101 0) first_back 4 2
    ∷ checks first_forward (bare 101 0) 4 2
    ∷ checks (bare 0 101) first_back 4 2
    ∷ checks first_forward (bare 0 101) 3 2
    ∷ checks second_forward second_back 10 0
    ∷ checks second_forward second_back 9 3
    -- over the second set-up an exchange takes a hundred rounds at the most
    ∷ rounds second_forward second_back 100
    -- an acknowledgement of label 3 that was on the wire completes the first exchange; the second is the first clean one
    ∷ session
    (codes "P 1 C 04"
    ∷ codes "S 02"
    ∷ codes "B 0300000000005CD3"
    ∷ codes "o 100000000"
    ∷ codes "a"
    ∷ codes "o 400000000"
    ∷ codes "r"
    ∷ codes "o 300000002"
    ∷ codes "r"
    ∷ [])
    (codes "P 0"
    ∷ codes "S 0"
    ∷ codes "B 0"
    ∷ codes "o 0"
    ∷ codes "a 0"
    ∷ codes "o 0"
    ∷ codes "r 0 9 0 0"
    ∷ codes "o 0"
    ∷ codes "r 0 0 0 0 300000002"
    ∷ codes "sound 2 of 3"
    ∷ [])
    ∷ []
