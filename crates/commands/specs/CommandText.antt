-- A command as a person reads it. Assumes nothing.
use Rattle.std.specs.Prelude.{ℕ, ◌/◌, ◌%◌, List, ◌++◌, codes, decimal}
use Rattle.commands.specs.declared.command.Action.{Action}
use Rattle.commands.specs.declared.command.Action.TheVariants.{Stop, Run, ChooseAxle, ZeroScale, Lamp}
use Rattle.commands.specs.declared.command.Command.{Command}
use Rattle.commands.specs.Commands.{action_of}

abbrev pub action_text : Action → ℕ → List ℕ
action_text Stop argument = codes "stop"
action_text Run argument = codes "run at " ++ (decimal (argument / 10) ++ (codes "." ++ (decimal (argument % 10) ++ codes " km/h")))
action_text ChooseAxle argument = codes "choose axle " ++ decimal argument
action_text ZeroScale argument = codes "set scale to zero"
action_text Lamp argument = codes "lamp " ++ decimal argument

abbrev pub command_text : Command → List ℕ
command_text c = action_text (action_of c.code) c.argument
