-- A link as the state that its steps and runs are over. Assumes nothing.
use Rattle.recovery.specs.State.{LinkState}
use Rattle.codec.specs.declared.config.Config.{Config}
use Rattle.link.specs.declared.state.Link.{Link}

abbrev pub state_of : {F B R Rec : Type 0} → Link F B R Rec → LinkState (Config R) Rec F B
state_of l = record {
  config = l.config;
  sender = l.sender;
  receiver = l.receiver;
  forward = l.forward;
  back = l.back;
  observer = l.observer;
}
