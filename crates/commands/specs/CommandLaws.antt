-- Commands by the laws of their table. Assumes nothing.
use Rattle.std.specs.Prelude.{◌≡◌, ℕ, ◌/◌, ◌%◌, ◌^◌, ◌<◌, true, Some, refl}
use Rattle.std.proofs.Common.{ap, ap₂, ◌∙◌, arith}
use Rattle.std.proofs.Math.Bool.{Bool-set}
use mathlib.Core.HLevel.{is_prop→PathP}
use Rattle.wire.specs.Words.{given}
use Rattle.commands.specs.declared.command.Command.{Command, allowed-type}
use Rattle.commands.specs.Table.{rows, allows_in, fields_in}
use Rattle.commands.specs.Commands.{command_of, command_payload, command_reads}
use Rattle.records.proofs.Guards.{given-some, guarded-true, guarded-some}
use Rattle.commands.specs.Tables.{argument_below, payload-small, fields_back, fields_once, fields_short}

pub command_ext : (a b : Command) → a.code ≡ b.code → a.argument ≡ b.argument → a ≡ b
command_ext a b p q = λ i. record {
  code = p i;
  argument = q i;
  allowed = is_prop→PathP (λ i. allowed-type (p i) (q i)) (λ i. Bool-set (allows_in rows (p i) (q i)) true) a.allowed b.allowed i;
}

-- no row of the table goes beyond 60
argument_small : (c : Command) → c.argument < 2 ^ 32
argument_small c = omega (arith, argument_below 61 rows c.code c.argument refl c.allowed)

pub command_is : (c : Command) (code argument : ℕ) → code ≡ c.code → argument ≡ c.argument → command_of code argument ≡ Some c
command_is c code argument p q =
    let e : allows_in rows code argument ≡ true = ap₂ (allows_in rows) p q ∙ c.allowed in
    guarded-true (allows_in rows code argument) (λ e. record { code = code; argument = argument; allowed = e }) e
    ∙ ap Some (command_ext (record { code = code; argument = argument; allowed = e }) c p q)

-- a payload reads as a command exactly as the table reads its fields
pub fields_read : (p : ℕ) (c : Command) → fields_in rows p ≡ Some (c.code, c.argument) → command_reads p ≡ Some c
fields_read p c e =
    let same = (given-some (allows_in rows (p / 2 ^ 32) (p % 2 ^ 32)) (p / 2 ^ 32, p % 2 ^ 32) (c.code, c.argument) e).1 in
    command_is c (p / 2 ^ 32) (p % 2 ^ 32) (ap (λ f. f.0) same) (ap (λ f. f.1) same)

pub read_fields : (p : ℕ) (c : Command) → command_reads p ≡ Some c → fields_in rows p ≡ Some (c.code, c.argument)
read_fields p c e =
    let m = guarded-some (allows_in rows (p / 2 ^ 32) (p % 2 ^ 32)) (λ e. record { code = p / 2 ^ 32; argument = p % 2 ^ 32; allowed = e }) c e in
    ap (λ b. given b (p / 2 ^ 32, p % 2 ^ 32)) m.0 ∙ ap (λ c. Some (c.code, c.argument)) m.1

pub small : (c : Command) → command_payload c < 2 ^ 36
small c = payload-small rows refl c.code c.argument (argument_small c) c.allowed

pub back : (c : Command) → command_reads (command_payload c) ≡ Some c
back c = fields_read (command_payload c) c (fields_back rows refl c.code c.argument (argument_small c) c.allowed)

pub once : (p : ℕ) (c : Command) → command_reads p ≡ Some c → command_payload c ≡ p
once p c e = fields_once rows refl p c.code c.argument (read_fields p c e)

pub short : (p : ℕ) (c : Command) → command_reads p ≡ Some c → p < 2 ^ 36
short p c e = fields_short rows refl p (c.code, c.argument) (read_fields p c e)
