-- What is watched at a handover. Assumes nothing.
use Rattle.std.specs.Prelude.{ℕ, Bool, true, false, Some, None, Option}
use Rattle.trying.specs.declared.watch.Exchange.{Exchange}
use Rattle.trying.specs.declared.watch.Watch.{Watch}

-- an exchange that is under way there has all its rounds before it
abbrev pub under_way : Bool → ℕ → Option Exchange
under_way true promised = Some (record { rounds = 0; promised = promised })
under_way false promised = None

abbrev pub watching : ℕ → Bool → ℕ → Watch
watching latest isUnderWay promised = record { latest = latest; exchange = under_way isUnderWay promised; accepted = 0; delivered = 0; last = 0; longest = 0 }
