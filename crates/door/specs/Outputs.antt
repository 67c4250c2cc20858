-- What goes out through a parameter. Assumes nothing.
use Rattle.std.specs.Prelude.{Some, None, Ok, Err, Option, Result}
use Rattle.wire.specs.declared.refusal.Refusal.{Refusal}

-- what a parameter holds afterwards: what was found, or what it held before a refused call
abbrev pub after : {T : Type 0} → Result T Refusal → T → T
after (Ok new) old = new
after (Err e) old = old

-- what was found, in another form
abbrev pub found_as : {S T : Type 0} → (S → T) → Result S Refusal → Result T Refusal
found_as f (Ok x) = Ok (f x)
found_as f (Err e) = Err e

-- what is absent is refused
abbrev pub or_refused : {T : Type 0} → Refusal → Option T → Result T Refusal
or_refused e (Some x) = Ok x
or_refused e None = Err e
