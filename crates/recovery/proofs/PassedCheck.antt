-- What a passed check tells of the label count. Assumes nothing.
use Rattle.std.proofs.Common.{◌≡◌, ℕ, ◌+◌, ◌≤◌, Bool, true, false, ◌&&◌, leb, Ok, refl, arith, leb-true}
use Rattle.channel.specs.Meaning.{Meaning}
use Rattle.recovery.specs.Check.{in_span, places, verdict, checked}

labels_pass : (span labels : Bool) → verdict span labels ≡ Ok tt → labels ≡ true
labels_pass false labels e = absurd (let z : ◌≡◌ {A = ℕ} 0 1 = cc in omega arith)
labels_pass true false e = absurd (let z : ◌≡◌ {A = ℕ} 0 1 = cc in omega arith)
labels_pass true true e = refl

both_true : (a b : Bool) → (a && b) ≡ true → (a ≡ true) × (b ≡ true)
both_true true b e = (refl, e)
both_true false b e = absurd (let z : ◌≡◌ {A = ℕ} 0 1 = cc in omega arith)

pub labels_fit : (largest labels : ℕ) (forward back : Meaning) → checked largest labels forward back ≡ Ok tt →
    (places forward back + 2 ≤ labels) × (labels ≤ largest)
labels_fit largest labels forward back e =
    let h = both_true (leb (places forward back + 2) labels) (leb labels largest) (labels_pass (in_span forward && in_span back) _ e) in
    (leb-true _ _ h.0, leb-true _ _ h.1)
