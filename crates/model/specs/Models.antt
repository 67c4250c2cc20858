-- A link over shapes: the same ends and the same observer, with the shape of each channel in its place. Assumes nothing.
use Rattle.wire.specs.Refusals.{Answer}
use Rattle.recovery.specs.State.{LinkState}
use Rattle.codec.specs.declared.config.Config.{Config}
use Rattle.link.specs.declared.state.Link.{Link}
use Rattle.link.specs.States.{state_of}
use Rattle.shapes.specs.Shapes.{Shape}

abbrev pub Model : Type 0 → Type 0 → Type 0
Model Config Rec = LinkState Config Rec Shape Shape

-- a link with the shapes of its channels
abbrev pub shaped_state : {Config Rec F B : Type 0} → (F → Shape) → (B → Shape) → LinkState Config Rec F B → Model Config Rec
shaped_state shapeF shapeB l = record {
  config = l.config;
  sender = l.sender;
  receiver = l.receiver;
  forward = shapeF l.forward;
  back = shapeB l.back;
  observer = l.observer;
}

-- a real link with the shapes of its channels
abbrev pub model_of : {F B R Rec : Type 0} → (F → Shape) → (B → Shape) → Link F B R Rec → Model (Config R) Rec
model_of shapeF shapeB l = shaped_state shapeF shapeB (state_of l)

-- what a call answers, and the link afterwards
pub record Turn (Config Rec : Type 0) : Type 0 where
  pub answer : Answer
  pub after : Model Config Rec

-- what a hear answers, of the word and of the reply, and the link afterwards
pub record Hearing (Config Rec : Type 0) : Type 0 where
  pub heard : Answer
  pub reply : Answer
  pub after : Model Config Rec

-- what a round answers: its send, its hear and its settle; and the link afterwards
pub record Rounding (Config Rec : Type 0) : Type 0 where
  pub sent : Answer
  pub heard : Answer
  pub reply : Answer
  pub settled : Answer
  pub after : Model Config Rec
