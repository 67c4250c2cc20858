-- The behaviour of a sort of channel, by the ghost members of its impl. Assumes nothing.
use Rattle.channel.specs.declared.Channel.{Ghosts}
use Rattle.channel.specs.Meaning.{Behaviour, behaviour}

abbrev pub behaviour_of : {C : Type 0} → Ghosts C → Behaviour C
behaviour_of X = behaviour X.contents X.capacity X.delay X.wait X.losses X.is_open X.puts X.takes X.ticks
