-- What is read off the events of a run. Assumes nothing.
use Rattle.std.specs.Prelude.{ℕ, suc, ◌+◌, min, Bool, true, false, List, [], ◌∷◌, length}
use Rattle.recovery.specs.Runs.{Event, accepts, delivers, completes, round}
use Rattle.ends.specs.declared.observer.Observer.{Observer}

module _ {Rec : Type 0} where
  -- the records accepted, in order
  abbrev pub accepted_in : List (Event Rec) → List Rec
  accepted_in [] = []
  accepted_in (accepts r ∷ es) = r ∷ accepted_in es
  accepted_in (delivers r ∷ es) = accepted_in es
  accepted_in (completes mark ∷ es) = accepted_in es
  accepted_in (round ∷ es) = accepted_in es

  -- the records delivered, in order
  abbrev pub delivered_in : List (Event Rec) → List Rec
  delivered_in [] = []
  delivered_in (accepts r ∷ es) = delivered_in es
  delivered_in (delivers r ∷ es) = r ∷ delivered_in es
  delivered_in (completes mark ∷ es) = delivered_in es
  delivered_in (round ∷ es) = delivered_in es

  -- of each exchange completed, whether it left the link clean
  abbrev pub completed_in : List (Event Rec) → List Bool
  completed_in [] = []
  completed_in (accepts r ∷ es) = completed_in es
  completed_in (delivers r ∷ es) = completed_in es
  completed_in (completes mark ∷ es) = mark ∷ completed_in es
  completed_in (round ∷ es) = completed_in es

  -- how many rounds went by
  abbrev pub rounds_in : List (Event Rec) → ℕ
  rounds_in [] = 0
  rounds_in (accepts r ∷ es) = rounds_in es
  rounds_in (delivers r ∷ es) = rounds_in es
  rounds_in (completes mark ∷ es) = rounds_in es
  rounds_in (round ∷ es) = suc (rounds_in es)

  -- what came after the first exchange that left the link clean
  abbrev pub after_clean : List (Event Rec) → List (Event Rec)
  after_clean [] = []
  after_clean (accepts r ∷ es) = after_clean es
  after_clean (delivers r ∷ es) = after_clean es
  after_clean (completes true ∷ es) = es
  after_clean (completes false ∷ es) = after_clean es
  after_clean (round ∷ es) = after_clean es

-- which exchange was the first that left the link clean, the next one being number n; 0 if there was none
abbrev pub first_clean : ℕ → List Bool → ℕ
first_clean n [] = 0
first_clean n (true ∷ marks) = n
first_clean n (false ∷ marks) = first_clean (n + 1) marks

-- what the observer holds after these exchanges: how many there were, and which was the first clean one; both stop at 65,535
abbrev pub reported : List Bool → Observer
reported marks = record { completed = min 65535 (length marks); first = min 65535 (first_clean 1 marks) }
