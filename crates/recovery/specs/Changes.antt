-- What the calls change in a link's state. Assumes nothing.
use Rattle.std.specs.Prelude.{ℕ, ◌+◌, ◌%◌}
use Rattle.ends.specs.Observers.{observed}
use Rattle.channel.specs.Meaning.{Behaviour}
use Rattle.recovery.specs.Codec.{Codec}
use Rattle.recovery.specs.State.{LinkState, codec_of, senders_label, clean}
use Rattle.ends.specs.declared.observer.Observer.{Observer}
use Rattle.ends.specs.declared.sender.State.TheVariants.{Idle, UnderWay}

module _ {Config Rec F B : Type 0} where
  -- Other channels.
  abbrev pub over : LinkState Config Rec F B → F → B → LinkState Config Rec F B
  over l f b =
      record {
        config = l.config;
        sender = l.sender;
        receiver = l.receiver;
        forward = f;
        back = b;
        observer = l.observer;
      }

  -- An accepted offer: the label moves on by one, and the record is in hand and under way.
  abbrev pub offered : (Config → Codec Rec) → LinkState Config Rec F B → Rec → LinkState Config Rec F B
  offered codec l r =
      record {
        config = l.config;
        sender = record { label = (senders_label codec l + 1) % (codec_of codec l).labels; state = UnderWay; in_hand = r };
        receiver = l.receiver;
        forward = l.forward;
        back = l.back;
        observer = l.observer;
      }

  -- A delivery: the receiver adopts the word's label and holds its record.
  abbrev pub delivered : LinkState Config Rec F B → ℕ → Rec → F → B → LinkState Config Rec F B
  delivered l x r f b =
      record {
        config = l.config;
        sender = l.sender;
        receiver = record { label = x; delivered = r };
        forward = f;
        back = b;
        observer = l.observer;
      }

  -- The sender comes to rest.
  abbrev pub rested : LinkState Config Rec F B → B → Observer → LinkState Config Rec F B
  rested l b o =
      record {
        config = l.config;
        sender = record { label = l.sender.label; state = Idle; in_hand = l.sender.in_hand };
        receiver = l.receiver;
        forward = l.forward;
        back = b;
        observer = o;
      }

  -- A completed exchange: the sender comes to rest, and the observer counts it, clean or not as the link then is.
  abbrev pub settled : (Config → Codec Rec) → Behaviour F → Behaviour B → LinkState Config Rec F B → B → LinkState Config Rec F B
  settled codec X Y l b = rested l b (observed (clean codec X Y (rested l b l.observer)) l.observer)
