-- The report of a script. Assumes nothing.
use Rattle.std.specs.Prelude.{ℕ, Bool, cond, ◌&&◌, List, [], ◌∷◌, length, Ok, Err, Result, nat_le}
use Rattle.text.specs.Lines.{lines_of}
use Rattle.wire.specs.declared.refusal.Refusal.{Refusal}
use Rattle.wire.specs.declared.refusal.Refusal.TheVariants.{Page}
use Rattle.script.specs.Starts.{start_of}
use Rattle.script.specs.declared.start.Start.{Start}
use Rattle.report.specs.declared.reply.Reply.TheVariants.{One}
use Rattle.report.specs.Pages.{written}
use Rattle.report.specs.Replies.{reply_text}
use Rattle.report.specs.Starts.{setup_text}

-- by the first line: one that asks for no link is all that is answered
abbrev pub start_text : Result Start Refusal → List (List ℕ) → List ℕ
start_text (Ok s) lines = setup_text s lines
start_text (Err e) lines = reply_text (One 63 (Err e))

abbrev pub script_text : List (List ℕ) → List ℕ
script_text [] = []
script_text (first ∷ lines) = start_text (start_of first) lines

abbrev pub report_text : List ℕ → List ℕ
report_text script = script_text (lines_of script)

-- at most 4,096 bytes of script, and at least 50,000 of page
abbrev pub fits : List ℕ → List ℕ → Bool
fits script page = nat_le (length script) 4096 && nat_le 50000 (length page)

-- what the report answers, and the page afterwards
abbrev pub report_of : List ℕ → List ℕ → Result ℕ Refusal × List ℕ
report_of script page = cond (fits script page) (Ok (length (report_text script)), written page 0 (report_text script)) (Err Page, page)
