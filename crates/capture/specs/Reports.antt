-- What is said of a whole capture. Assumes nothing.
use Rattle.std.specs.Prelude.{ℕ, List, [], ◌∷◌, ◌++◌, Result}
use Rattle.text.specs.Lines.{lines_of}
use Rattle.capture.specs.declared.message.Fault.{Fault}
use Rattle.capture.specs.declared.message.Message.{Message}
use Rattle.capture.specs.declared.tally.Tally.{Tally}
use Rattle.capture.specs.Decoding.{decoded}
use Rattle.capture.specs.Tallies.{none_yet, noted, tally_text}
use Rattle.capture.specs.Texts.{result_text}

abbrev pub line_text : Result Message Fault → List ℕ
line_text found = result_text found ++ (10 ∷ [])

-- a line for each line that is left, and one for all counts
abbrev pub report_from : Tally → List (List ℕ) → List ℕ
report_from t [] = tally_text t ++ (10 ∷ [])
report_from t (l ∷ ls) = line_text (decoded l) ++ report_from (noted t (decoded l)) ls

abbrev pub report_of : List ℕ → List ℕ
report_of capture = report_from none_yet (lines_of capture)
