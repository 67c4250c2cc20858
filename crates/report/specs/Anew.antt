-- A link is handed over after every fault that was accepted. Assumes nothing.
use Rattle.std.specs.Prelude.{Ok, Err}
use Rattle.wire.specs.Refusals.{Answer}
use Rattle.recovery.specs.State.{LinkState}
use Rattle.codec.specs.declared.config.Config.{Config}
use Rattle.link.specs.Makings.{observed_anew}

abbrev pub anew_after : {R Rec F B : Type 0} → Answer → LinkState (Config R) Rec F B → LinkState (Config R) Rec F B
anew_after (Ok u) l = observed_anew l
anew_after (Err e) l = l
