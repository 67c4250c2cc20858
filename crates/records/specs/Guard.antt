-- A value that is there where a test passes. Assumes nothing.
use Rattle.std.specs.Prelude.{◌≡◌, Bool, true, false, Some, None, Option, refl}

abbrev pub guarded : {T : Type 0} (b : Bool) → (b ≡ true → T) → Option T
guarded true make = Some (make refl)
guarded false make = None
