-- How many words the channels of a link hold together. Assumes nothing.
use Rattle.std.specs.Prelude.{ℕ, ◌+◌}
use Rattle.channel.specs.Meaning.{Behaviour}
use Rattle.link.specs.States.{state_of}
use Rattle.link.specs.declared.state.Link.{Link}

abbrev pub places_of : {F B R Rec : Type 0} → Behaviour F → Behaviour B → Link F B R Rec → ℕ
places_of forward back l = (forward.means (state_of l).forward).capacity + (back.means (state_of l).back).capacity
