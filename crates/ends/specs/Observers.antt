-- What an observer of a link counts. Assumes nothing.
use Rattle.std.specs.Prelude.{ℕ, zero, suc, ◌+◌, min, Bool, true, false, Ok, Err}
use Rattle.wire.specs.Refusals.{Answer}
use Rattle.ends.specs.declared.observer.Observer.{Observer}

-- nothing observed yet
abbrev pub unobserved : Observer
unobserved = record { completed = 0; first = 0 }

-- the next count; it stops at 65,535
abbrev pub counted : ℕ → ℕ
counted n = min 65535 (n + 1)

-- which exchange was the first clean one, after number n, by whether that one left the link clean; 0 means none yet
abbrev pub noted : ℕ → Bool → ℕ → ℕ
noted first false n = first
noted zero true n = n
noted (suc k) true n = suc k

-- The observer after one more completed exchange.
abbrev pub observed : Bool → Observer → Observer
observed mark o = record { completed = counted o.completed; first = noted o.first mark (counted o.completed) }

-- an accepted fault call starts the observer anew, a refused one leaves it
abbrev pub after_fault : Answer → Observer → Observer
after_fault (Ok u) o = unobserved
after_fault (Err e) o = o
