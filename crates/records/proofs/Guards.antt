-- What a value behind a test is. Assumes nothing.
use Rattle.std.proofs.Common.{◌≡◌, ℕ, Bool, true, false, Some, refl, ap, arith}
use mathlib.Core.Bool.{Bool-set}
use Rattle.std.proofs.lemmas.Bool.{false≢true}
use Rattle.wire.specs.Words.{given}
use Rattle.records.specs.Guard.{guarded}

pub given-some : {T : Type 0} (b : Bool) (x y : T) → given b x ≡ Some y → (b ≡ true) × (x ≡ y)
given-some true x y e = (refl, cc)
given-some false x y e = absurd (let z : ◌≡◌ {A = ℕ} 0 1 = cc in omega arith)

pub guarded-true : {T : Type 0} (b : Bool) (make : b ≡ true → T) (e : b ≡ true) → guarded b make ≡ Some (make e)
guarded-true true make e = ap (λ q. Some (make q)) (Bool-set true true refl e)
guarded-true false make e = absurd (false≢true e)

pub guarded-some : {T : Type 0} (b : Bool) (make : b ≡ true → T) (r : T) → guarded b make ≡ Some r → (e : b ≡ true) × (make e ≡ r)
guarded-some true make r e = (refl, cc)
guarded-some false make r e = absurd (let z : ◌≡◌ {A = ℕ} 0 1 = cc in omega arith)
