-- Commands: the values of the table, and their payloads. Assumes nothing.
use Rattle.std.specs.Prelude.{ℕ, ◌+◌, ◌*◌, ◌/◌, ◌%◌, ◌^◌, cond, Option, ◌==◌, refl}
use Rattle.commands.specs.declared.command.Action.{Action}
use Rattle.commands.specs.declared.command.Action.TheVariants.{Stop, Run, ChooseAxle, ZeroScale, Lamp}
use Rattle.commands.specs.declared.command.Command.{Command}
use Rattle.records.specs.Guard.{guarded}
use Rattle.commands.specs.Table.{rows, allows_in}

abbrev pub action_code : Action → ℕ
action_code Stop = 1
action_code Run = 2
action_code ChooseAxle = 3
action_code ZeroScale = 4
action_code Lamp = 5

-- the action that a code of the table stands for
abbrev pub action_of : ℕ → Action
action_of code = cond (code == 1) Stop (cond (code == 2) Run (cond (code == 3) ChooseAxle (cond (code == 4) ZeroScale Lamp)))

-- the command of a code and an argument that the table takes
abbrev pub command_of : ℕ → ℕ → Option Command
command_of code argument = guarded (allows_in rows code argument) (λ e. record { code = code; argument = argument; allowed = e })

-- 4 bits of code above 32 bits of argument
abbrev pub command_payload : Command → ℕ
command_payload c = c.code * 2 ^ 32 + c.argument

abbrev pub command_reads : ℕ → Option Command
command_reads p = command_of (p / 2 ^ 32) (p % 2 ^ 32)

-- stop: what a new link of commands holds
abbrev pub stop_command : Command
stop_command = record { code = 1; argument = 0; allowed = refl }
