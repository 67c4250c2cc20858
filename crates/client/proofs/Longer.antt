-- Runs one after another. Assumes nothing.
use Rattle.std.proofs.Common.{ℕ, List, [], ◌++◌, append_assoc}
use Rattle.channel.specs.Meaning.{Behaviour}
use Rattle.recovery.specs.Codec.{Codec}
use Rattle.recovery.specs.State.{LinkState}
use Rattle.recovery.specs.Runs.{Event, Run}
use Rattle.codec.specs.declared.config.Config.{Config}
use Rattle.client.specs.Turns.{Turns, none, more}

module _ {R Rec F B : Type 0} (codec : Config R → Codec Rec) (X : Behaviour F) (Y : Behaviour B) where
  pub further : {l m n : LinkState (Config R) Rec F B} {es fs : List (Event Rec)} → Run codec X Y l es m → Run codec X Y m fs n → Run codec X Y l (es ++ fs) n
  further Run.stop k = k
  further (Run.offer {r = r} {a = a} {es = es} s run) k = rw append_assoc (Run.offer s (further run k))
  further (Run.send s run) k = Run.send s (further run k)
  further (Run.hear s run) k = rw append_assoc (Run.hear s (further run k))
  further (Run.settle s run) k = rw append_assoc (Run.settle s (further run k))
  further (Run.tick s run) k = Run.tick s (further run k)
  further (Run.round calls run) k = rw append_assoc (Run.round calls (further run k))

  -- turns are a run
  pub ran : {r : Rec} {l m : LinkState (Config R) Rec F B} {n : ℕ} → Turns codec X Y r l n m → (es : List (Event Rec)) × Run codec X Y l es m
  ran none = ([], Run.stop)
  ran (more turns s calls) = let run = ran turns in (_, further run.1 (Run.offer s (Run.round calls Run.stop)))
