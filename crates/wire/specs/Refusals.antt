-- The refusal table: the number and the name of each refusal. Assumes nothing.
use Rattle.std.specs.Prelude.{ℕ, List, Ok, Err, codes, Result}
use Rattle.wire.specs.declared.refusal.Refusal.{Refusal}
use Rattle.wire.specs.declared.refusal.Refusal.TheVariants.{Size, Span, Labels, Busy, Idle, Full, Silent, Spoilt, Repeat, Stale, Code, Script, Place, Page}

abbrev pub number_of : Refusal → ℕ
number_of Size = 1
number_of Span = 2
number_of Labels = 3
number_of Busy = 4
number_of Idle = 5
number_of Full = 6
number_of Silent = 7
number_of Spoilt = 8
number_of Repeat = 9
number_of Stale = 10
number_of Code = 11
number_of Script = 12
number_of Place = 13
number_of Page = 14

abbrev pub name_of : Refusal → List ℕ
name_of Size = codes "size"
name_of Span = codes "span"
name_of Labels = codes "labels"
name_of Busy = codes "busy"
name_of Idle = codes "idle"
name_of Full = codes "full"
name_of Silent = codes "silent"
name_of Spoilt = codes "spoilt"
name_of Repeat = codes "repeat"
name_of Stale = codes "stale"
name_of Code = codes "code"
name_of Script = codes "script"
name_of Place = codes "place"
name_of Page = codes "page"

-- what a call with nothing to give answers: done, or a refusal
abbrev pub Answer : Type 0
Answer = Result (Unit {0}) Refusal

-- an answer as a number: 0 is done
abbrev pub answer_of : {T : Type 0} → Result T Refusal → ℕ
answer_of (Ok x) = 0
answer_of (Err e) = number_of e
