-- A link as it is made, and as its observer begins anew. Assumes nothing.
use Rattle.std.specs.Prelude.{◌≡◌, ℕ}
use Rattle.recovery.specs.State.{LinkState}
use Rattle.ends.specs.Observers.{unobserved}
use Rattle.ends.specs.declared.sender.State.TheVariants.{Idle}
use Rattle.codec.specs.Words.{label_count}
use Rattle.codec.specs.declared.config.Config.{Config}

module _ {R Rec F B : Type 0} where
  abbrev pub observed_anew : LinkState (Config R) Rec F B → LinkState (Config R) Rec F B
  observed_anew l = record {
    config = l.config;
    sender = l.sender;
    receiver = l.receiver;
    forward = l.forward;
    back = l.back;
    observer = unobserved;
  }

  -- A new link: both labels 0, idle, the given record at both ends, and nothing observed.
  pub record Made (k : R) (count : ℕ) (f : F) (b : B) (r : Rec) (l : LinkState (Config R) Rec F B) : Type 0 where
    pub kind : l.config.kind ≡ k
    pub labels : l.config.labels ≡ label_count count
    pub sender : l.sender ≡ record { label = 0; state = Idle; in_hand = r }
    pub receiver : l.receiver ≡ record { label = 0; delivered = r }
    pub forward : l.forward ≡ f
    pub back : l.back ≡ b
    pub observer : l.observer ≡ unobserved
