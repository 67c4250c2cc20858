-- The first line of a script: P, a set-up's digit, a kind's letter and two digits of label count, with single spaces. Assumes nothing.
use Rattle.std.specs.Prelude.{ℕ, zero, suc, Bool, cond, ◌&&◌, List, [], ◌∷◌, length, Some, None, Ok, Err, Option, Result, ◌==◌, slice_index}
use Rattle.wire.specs.declared.refusal.Refusal.{Refusal}
use Rattle.wire.specs.declared.refusal.Refusal.TheVariants.{Script}
use Rattle.text.specs.Hex.{hex_number}
use Rattle.script.specs.declared.start.Kind.{Kind}
use Rattle.script.specs.declared.start.Kind.TheVariants.{Commands, Readings}
use Rattle.script.specs.declared.start.Setup.{Setup}
use Rattle.script.specs.declared.start.Setup.TheVariants.{First, Second}
use Rattle.script.specs.declared.start.Start.{Start}

-- 1 or 2
abbrev pub setup_of : ℕ → Option Setup
setup_of digit = cond (digit == 49) (Some First) (cond (digit == 50) (Some Second) None)

-- C or G
abbrev pub kind_of : ℕ → Option Kind
kind_of letter = cond (letter == 67) (Some Commands) (cond (letter == 71) (Some Readings) None)

-- the digits 00 write 256
abbrev pub count_of : ℕ → ℕ
count_of zero = 256
count_of (suc n) = suc n

abbrev pub counted : Option ℕ → Option ℕ
counted (Some n) = Some (count_of n)
counted None = None

abbrev pub label_count : List ℕ → Option ℕ
label_count digits = counted (hex_number digits)

abbrev pub start_from : Option Setup → Option Kind → Option ℕ → Result Start Refusal
start_from None kind labels = Err Script
start_from (Some s) None labels = Err Script
start_from (Some s) (Some k) None = Err Script
start_from (Some s) (Some k) (Some n) = Ok (record { setup = s; kind = k; labels = n })

-- the letter P and the spaces in their places
abbrev pub start_shape : List ℕ → Bool
start_shape line = length line == 8 && (slice_index line 0 == 80 && (slice_index line 1 == 32 && (slice_index line 3 == 32 && slice_index line 5 == 32)))

abbrev pub start_of : List ℕ → Result Start Refusal
start_of line =
    cond (start_shape line) (start_from (setup_of (slice_index line 2)) (kind_of (slice_index line 4)) (label_count (slice_index line 6 ∷ slice_index line 7 ∷ []))) (Err Script)
