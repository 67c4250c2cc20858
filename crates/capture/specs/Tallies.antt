-- How many lines of a capture carried what. Assumes nothing.
use Rattle.std.specs.Prelude.{ℕ, ◌+◌, ◌-◌, ◌^◌, min, List, ◌++◌, Ok, Err, codes, decimal, Result}
use Rattle.capture.specs.declared.message.Content.{Content}
use Rattle.capture.specs.declared.message.Content.TheVariants.{Acknowledgement, Command, Reading}
use Rattle.capture.specs.declared.message.Fault.{Fault}
use Rattle.capture.specs.declared.message.Message.{Message}
use Rattle.capture.specs.declared.tally.Tally.{Tally}

abbrev pub none_yet : Tally
none_yet = record { records = 0; acknowledgements = 0; unreadable = 0 }

-- one more, up to the largest number of 64 bits
abbrev pub more : ℕ → ℕ
more n = min (n + 1) (2 ^ 64 - 1)

abbrev pub one_record : Tally → Tally
one_record t = record { records = more t.records; acknowledgements = t.acknowledgements; unreadable = t.unreadable }

abbrev pub noted_content : Tally → Content → Tally
noted_content t Acknowledgement = record { records = t.records; acknowledgements = more t.acknowledgements; unreadable = t.unreadable }
noted_content t (Command c) = one_record t
noted_content t (Reading r) = one_record t

abbrev pub noted : Tally → Result Message Fault → Tally
noted t (Ok m) = noted_content t m.content
noted t (Err e) = record { records = t.records; acknowledgements = t.acknowledgements; unreadable = more t.unreadable }

abbrev pub tally_text : Tally → List ℕ
tally_text t = decimal t.records ++ (codes " records, " ++ (decimal t.acknowledgements ++ (codes " acknowledgements, " ++ (decimal t.unreadable ++ codes " unreadable"))))
