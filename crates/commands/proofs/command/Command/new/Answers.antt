use Rattle.std.proofs.Common.{sym, refl, ap}
use Rattle.records.specs.Kinds.{or_code}
use Rattle.commands.specs.CommandLaws.{command_is}
use Rattle.commands.proofs.command.Command.new.Goals as goal

pub returns : goal.returns
returns c = sym (ap or_code (command_is _ c.args.code c.args.argument refl refl))
