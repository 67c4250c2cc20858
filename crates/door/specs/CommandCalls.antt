-- Commands through the door. Assumes nothing.
use Rattle.std.specs.Prelude.{ℕ, Result}
use Rattle.wire.specs.declared.refusal.Refusal.{Refusal}
use Rattle.commands.specs.Commands.{command_of, command_payload, command_reads}
use Rattle.records.specs.Kinds.{or_code}
use Rattle.commands.specs.declared.command.Command.{Command}
use Rattle.door.specs.Outputs.{found_as}
use Rattle.door.specs.declared.command.CommandParts.{CommandParts}

abbrev pub packed_command : CommandParts → Result ℕ Refusal
packed_command p = found_as command_payload (or_code (command_of p.code p.argument))

abbrev pub command_parts : Command → CommandParts
command_parts c = record { code = c.code; argument = c.argument }

abbrev pub unpacked_command : ℕ → Result CommandParts Refusal
unpacked_command p = found_as command_parts (or_code (command_reads p))
