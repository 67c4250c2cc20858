-- The promise is about something: a small link that starts out of step, and a run of it. Assumes nothing.
use Rattle.std.specs.Prelude.{◌≡◌, ℕ, ◌+◌, ◌*◌, ◌/◌, ◌%◌, Bool, true, false, List, [], ◌∷◌, Some, None, Ok, Err, Option, Result}
use Rattle.wire.specs.Refusals.{Answer}
use Rattle.wire.specs.declared.refusal.Refusal.{Refusal}
use Rattle.wire.specs.declared.refusal.Refusal.TheVariants.{Full, Silent}
use Rattle.channel.specs.Meaning.{Behaviour}
use Rattle.channel.specs.Rules.{ChannelRules}
use Rattle.recovery.specs.Codec.{Codec, CodecLaws, AllowsAll}
use Rattle.recovery.specs.State.{LinkState}
use Rattle.recovery.specs.Runs.{Event, Run}
use Rattle.recovery.specs.Tallies.{accepted_in, delivered_in, completed_in, after_clean}
use Rattle.recovery.specs.Promise.{HandedOver}
use Rattle.ends.specs.declared.sender.State.TheVariants.{Idle}

-- Four labels, numbers as records, and no word spoilt.
abbrev pub numbers : Codec ℕ
numbers =
    record {
      labels = 4;
      allows = λ _. true;
      send_word = λ x r. x + 4 * r;
      read_word = λ w. Some (w % 4, w / 4);
      ack_word = λ x. x;
      read_ack = λ w. Some (w % 4);
    }

-- A channel with one place: its state is the word that stands there, if any.
abbrev pub held : Option ℕ → List ℕ
held None = []
held (Some w) = w ∷ []

abbrev pub vacant : Option ℕ → Bool
vacant None = true
vacant (Some w) = false

abbrev pub puts : Option ℕ → ℕ → Answer → Option ℕ → Type 0
puts None w a t = (a ≡ Ok tt) × (t ≡ Some w)
puts (Some v) w a t = (a ≡ Err Full) × (t ≡ Some v)

abbrev pub takes : Option ℕ → Result ℕ Refusal → Option ℕ → Type 0
takes None a t = (a ≡ Err Silent) × (t ≡ None)
takes (Some v) a t = (a ≡ Ok v) × (t ≡ None)

abbrev pub place : Behaviour (Option ℕ)
place =
    record {
      means = λ s. record { contents = held s; capacity = 1; delay = 0; wait = 0; losses = 0; is_open = vacant s };
      puts = puts;
      takes = takes;
      ticks = λ s t. t ≡ s;
    }

-- The sender's next label is 3, and an acknowledgement of 3 stands in the back channel already.
abbrev pub start : LinkState (Codec ℕ) ℕ (Option ℕ) (Option ℕ)
start =
    record {
      config = numbers;
      sender = record { label = 2; state = Idle; in_hand = 0 };
      receiver = record { label = 0; delivered = 0 };
      forward = None;
      back = Some 3;
      observer = record { completed = 0; first = 0 };
    }

-- It may be handed over, and has a run in which the first exchange leaves it unclean and the next two leave it clean, as the observer
-- reports; and the record accepted after the first clean one is delivered.
pub record Happens : Type 0 where
  pub laws : CodecLaws numbers
  pub all : AllowsAll numbers
  pub rules : ChannelRules place
  pub handed_over : HandedOver (λ C. C) place place 256 start
  pub events : List (Event ℕ)
  pub end : LinkState (Codec ℕ) ℕ (Option ℕ) (Option ℕ)
  pub run : Run (λ C. C) place place start events end
  pub marks : completed_in events ≡ false ∷ true ∷ true ∷ []
  pub observer : end.observer ≡ record { completed = 3; first = 2 }
  pub accepted : accepted_in (after_clean events) ≡ 7 ∷ []
  pub delivered : delivered_in (after_clean events) ≡ 7 ∷ []
