-- The state of a link, and when it is clean. Assumes nothing.
use Rattle.std.specs.Prelude.{ℕ, ◌%◌, Bool, true, ◌&&◌, List, [], ◌∷◌, length, take, Some, None, Option, ◌==◌}
use Rattle.channel.specs.Meaning.{Meaning, Behaviour, answered}
use Rattle.ends.specs.Senders.{is_idle}
use Rattle.recovery.specs.Codec.{Codec, word_label}
use Rattle.ends.specs.declared.sender.Sender.{Sender}
use Rattle.ends.specs.declared.receiver.Receiver.{Receiver}
use Rattle.ends.specs.declared.observer.Observer.{Observer}
use Rattle.ends.specs.declared.sender.State.{State}

-- What was fixed when the link was made, from which its codec follows; both ends with their labels as stored; both channels,
-- each in a state of its own sort; and the observer.
pub record LinkState (Config Rec F B : Type 0) : Type 0 where
  pub config : Config
  pub sender : Sender Rec
  pub receiver : Receiver Rec
  pub forward : F
  pub back : B
  pub observer : Observer

-- a word is spoilt or carries the label x, by the label that was read from it
abbrev pub fits : ℕ → Option ℕ → Bool
fits x None = true
fits x (Some y) = y == x

-- every word of a list is spoilt or carries the label x
abbrev pub all_fit : (ℕ → Option ℕ) → ℕ → List ℕ → Bool
all_fit read x [] = true
all_fit read x (w ∷ ws) = fits x (read w) && all_fit read x ws

-- the words at the positions below the answered load
abbrev pub in_sight : Meaning → List ℕ
in_sight m = take (answered (length m.contents)) m.contents

-- Of a sender with this label and state, a receiver with that label, and two channels.
abbrev pub clean_at : {Rec : Type 0} → Codec Rec → ℕ → State → ℕ → Meaning → Meaning → Bool
clean_at C own state other forward back =
    is_idle state && (other == own && (all_fit (word_label C) own (in_sight forward) && all_fit C.read_ack own (in_sight back)))

module _ {Config Rec F B : Type 0} (codec : Config → Codec Rec) where
  -- the codec of a link
  abbrev pub codec_of : LinkState Config Rec F B → Codec Rec
  codec_of l = codec l.config

  -- The two labels as they are read: the remainders by the label count.
  abbrev pub senders_label : LinkState Config Rec F B → ℕ
  senders_label l = l.sender.label % (codec_of l).labels

  abbrev pub receivers_label : LinkState Config Rec F B → ℕ
  receivers_label l = l.receiver.label % (codec_of l).labels

  -- The link is clean: the sender is idle, the receiver has the sender's label, and so has every word in sight that is not spoilt.
  abbrev pub clean : Behaviour F → Behaviour B → LinkState Config Rec F B → Bool
  clean X Y l = clean_at (codec_of l) (senders_label l) l.sender.state (receivers_label l) (X.means l.forward) (Y.means l.back)
