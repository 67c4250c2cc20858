use Rattle.std.proofs.Common.{rules, sym, ap}
use Rattle.records.specs.Kinds.{or_code}
use Rattle.commands.specs.CommandLaws.{fields_read}
use Rattle.commands.proofs.command.kind.CommandsRecordKind.unpack.Goals as goal

pub returns : goal.returns
returns c = sym (ap or_code (fields_read c.args.p _ (search rules)))
