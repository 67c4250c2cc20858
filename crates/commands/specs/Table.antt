-- Command tables: which arguments each code takes, and payloads by a table. Assumes nothing.
use Rattle.std.specs.Prelude.{ℕ, ◌+◌, ◌*◌, ◌/◌, ◌%◌, ◌^◌, Bool, false, ◌&&◌, List, [], ◌∷◌, Some, None, Option, nat_le, slice_index_or}
use Rattle.wire.specs.Words.{given}
use Rattle.commands.specs.declared.table.Row.{Row}

abbrev pub from : ℕ → ℕ → Option Row
from lowest highest = Some (record { lowest = lowest; highest = highest })

-- 1 stop, 2 run in tenths of km/h, 3 choose axle, 4 set scale to zero, 5 lamp
abbrev pub rows : List (Option Row)
rows = None ∷ from 0 0 ∷ from 1 60 ∷ from 1 12 ∷ from 0 0 ∷ from 0 7 ∷ None ∷ None ∷ None ∷ None ∷ None ∷ None ∷ None ∷ None ∷ None ∷ None ∷ []

abbrev pub admits : Row → ℕ → Bool
admits row argument = nat_le row.lowest argument && nat_le argument row.highest

-- where there is no row, no argument is taken
abbrev pub takes : Option Row → ℕ → Bool
takes (Some row) argument = admits row argument
takes None argument = false

-- a code without a row is not allowed
abbrev pub allows_in : List (Option Row) → ℕ → ℕ → Bool
allows_in table code argument = takes (slice_index_or table code None) argument

-- 4 bits of code above 32 bits of argument
abbrev pub payload_in : List (Option Row) → ℕ → ℕ → Option ℕ
payload_in table code argument = given (allows_in table code argument) (code * 2 ^ 32 + argument)

abbrev pub fields_in : List (Option Row) → ℕ → Option (ℕ × ℕ)
fields_in table p = given (allows_in table (p / 2 ^ 32) (p % 2 ^ 32)) (p / 2 ^ 32, p % 2 ^ 32)
