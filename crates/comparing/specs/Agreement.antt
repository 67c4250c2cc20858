-- When an answer and a page are what another program says. Assumes nothing.
use Rattle.std.specs.Prelude.{◌≡◌, ℕ, ◌≤◌, List, length, take, Ok, Err, Result}
use Rattle.std.specs.Borrow.{Bor}
use Rattle.wire.specs.declared.refusal.Refusal.{Refusal}
use Rattle.wire.specs.Refusals.{number_of}

-- the bytes of a page up to a length
abbrev pub Has : List ℕ → ℕ → List ℕ → Type 0
Has page n bytes = (n ≤ length page) × (take n page ≡ bytes)

-- the report's bytes are the expected ones, or the refusal's number is
abbrev pub Agreed : Result ℕ Refusal → List ℕ → Result (Bor (List ℕ)) ℕ → Type 0
Agreed (Ok n) page (Ok bytes) = Has page n bytes.now
Agreed (Err e) page (Err k) = number_of e ≡ k
Agreed (Ok n) page (Err k) = ⊥
Agreed (Err e) page (Ok bytes) = ⊥
