-- Laws of the report, above its definition. Assumes nothing.
use Rattle.std.specs.Prelude.{◌≡◌, ℕ, ◌+◌, ◌≤◌, Bool, true, false, List, [], ◌∷◌, ◌++◌, length, is_ok, Ok, Err, Option, Result}
use Rattle.text.specs.Lines.{lines_of}
use Rattle.wire.specs.declared.refusal.Refusal.{Refusal}
use Rattle.recovery.specs.Runs.{Run}
use Rattle.recovery.specs.Tallies.{completed_in, reported}
use Rattle.ends.specs.declared.observer.Observer.{Observer}
use Rattle.codec.specs.declared.config.Config.{Config}
use Rattle.ends.specs.Observers.{unobserved}
use Rattle.codec.specs.Words.{codec}
use Rattle.shapes.specs.Moves.{shape_behaviour}
use Rattle.shapes.specs.Shapes.{Shape, means}
use Rattle.model.specs.Models.{Model}
use Rattle.model.specs.Makings.{new_of}
use Rattle.script.specs.Lines.{order_of}
use Rattle.script.specs.Starts.{start_of}
use Rattle.script.specs.declared.start.Kind.{Kind}
use Rattle.script.specs.declared.start.Kind.TheVariants.{Commands, Readings}
use Rattle.script.specs.declared.start.Start.{Start}
use Rattle.report.specs.Lines.{answered}
use Rattle.report.specs.Replies.{sound_text}
use Rattle.report.specs.Reports.{report_text}
use Rattle.report.specs.Starts.{BenchKind, commands_kind, readings_kind, forward_of, back_of, check_of}
use Rattle.report.specs.Stretches.{Stretch, begun, stretch}

-- the link after these lines
abbrev pub after_lines : {R Rec : Type 0} → ℕ → (R → Rec → ℕ) → (R → ℕ → Option Rec) → Model (Config R) Rec → List (List ℕ) → Model (Config R) Rec
after_lines number payload reads l [] = l
after_lines number payload reads l (line ∷ lines) = after_lines number payload reads (answered number payload reads (order_of line) l).after lines

-- the observer after the lines
abbrev pub bench_observer : {R Rec : Type 0} → BenchKind R Rec → ℕ → Shape → Shape → List (List ℕ) → Observer
bench_observer k labels forward back lines = (after_lines k.number k.payload k.reads (new_of k.kind labels forward back k.first) lines).observer

abbrev pub kind_observer : Kind → ℕ → Shape → Shape → List (List ℕ) → Observer
kind_observer Commands labels forward back lines = bench_observer commands_kind labels forward back lines
kind_observer Readings labels forward back lines = bench_observer readings_kind labels forward back lines

abbrev pub start_observer : Result Start Refusal → List (List ℕ) → Observer
start_observer (Ok s) lines = kind_observer s.kind s.labels (forward_of s.setup) (back_of s.setup) lines
start_observer (Err e) lines = unobserved

abbrev pub observer_of : List (List ℕ) → Observer
observer_of [] = unobserved
observer_of (first ∷ lines) = start_observer (start_of first) lines

-- whether a first line makes a link
abbrev pub makes_link : Result Start Refusal → Bool
makes_link (Ok s) = is_ok (check_of s)
makes_link (Err e) = false

abbrev pub starts_well : List (List ℕ) → Bool
starts_well [] = false
starts_well (first ∷ lines) = makes_link (start_of first)

-- Where the first line makes a link, each line has a line of the report, and there is one more.
abbrev pub OneMore : List ℕ → Type 0
OneMore script = starts_well (lines_of script) ≡ true → length (lines_of (report_text script)) ≡ length (lines_of script) + 1

-- Then the last line has the numbers of the observer after the lines.
abbrev pub EndsSound : List ℕ → Type 0
EndsSound script = starts_well (lines_of script) ≡ true → (answers : List ℕ) × (report_text script ≡ answers ++ sound_text (observer_of (lines_of script)))

module _ {R Rec : Type 0} (number : ℕ) (payload : R → Rec → ℕ) (reads : R → ℕ → Option Rec) where
  -- A link over channels with so many places, as it is now: what has happened since it was handed over last is a run, and the
  -- observer reports it. Once two exchanges more than there are places are completed, it names one of these as the first clean one.
  pub record Recovering (places : ℕ) (s : Stretch R Rec) (now : Model (Config R) Rec) : Type 0 where
    pub anew : s.from.observer ≡ unobserved
    pub run : Run (codec number payload reads) shape_behaviour shape_behaviour s.from s.events now
    pub observer : now.observer ≡ reported (completed_in s.events)
    pub first : places + 2 ≤ now.observer.completed → (1 ≤ now.observer.first) × (now.observer.first ≤ places + 2)

abbrev pub BenchRecovering : {R Rec : Type 0} → BenchKind R Rec → ℕ → Shape → Shape → List (List ℕ) → Type 0
BenchRecovering {R} {Rec} k labels forward back lines =
    let new : Model (Config R) Rec = new_of k.kind labels forward back k.first in
    Recovering k.number k.payload k.reads ((means forward).capacity + (means back).capacity)
    (stretch k.number k.payload k.reads new (begun new) lines) (after_lines k.number k.payload k.reads new lines)

abbrev pub KindRecovering : Kind → ℕ → Shape → Shape → List (List ℕ) → Type 0
KindRecovering Commands labels forward back lines = BenchRecovering commands_kind labels forward back lines
KindRecovering Readings labels forward back lines = BenchRecovering readings_kind labels forward back lines

abbrev pub StartRecovering : Result Start Refusal → List (List ℕ) → Type 0
StartRecovering (Ok s) lines = KindRecovering s.kind s.labels (forward_of s.setup) (back_of s.setup) lines
StartRecovering (Err e) lines = ⊥

abbrev pub ScriptRecovering : List (List ℕ) → Type 0
ScriptRecovering [] = ⊥
ScriptRecovering (first ∷ lines) = StartRecovering (start_of first) lines

-- Where the first line makes a link, that holds of it after all lines; its observer is the one whose numbers stand in the last line.
abbrev pub Recovers : List ℕ → Type 0
Recovers script = starts_well (lines_of script) ≡ true → ScriptRecovering (lines_of script)

-- But for a last line, a text is the beginning of another.
pub record Begins (text longer : List ℕ) : Type 0 where
  pub answers : List ℕ
  pub last : List ℕ
  pub rest : List ℕ
  pub now : text ≡ answers ++ last
  pub later : longer ≡ answers ++ rest
  pub short : length (lines_of last) ≤ 1

-- Lines added at the end leave the earlier answers as they are.
abbrev pub Stays : List ℕ → Type 0
Stays script = (more : List ℕ) → Begins (report_text (script ++ (10 ∷ []))) (report_text (script ++ (10 ∷ more)))
