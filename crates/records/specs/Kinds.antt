-- What unpacking answers. Assumes nothing.
use Rattle.std.specs.Prelude.{Some, None, Ok, Err, Option, Result}
use Rattle.wire.specs.declared.refusal.Refusal.{Refusal}
use Rattle.wire.specs.declared.refusal.Refusal.TheVariants.{Code}

-- what reads as no record is refused
abbrev pub or_code : {T : Type 0} → Option T → Result T Refusal
or_code (Some r) = Ok r
or_code None = Err Code
