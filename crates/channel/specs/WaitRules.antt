-- Lemmas on what a wait does at a tick, for channels that show the rules. Assumes nothing.
use Rattle.std.specs.Prelude.{◌≡◌, ℕ, zero, suc, ◌-◌, ◌<◌, ◌⊎◌, refl}
use Rattle.std.proofs.Common.{inl, inr, arith}

-- a wait above 0 falls, and a wait of 0 stays
pub wait-falls : (m n : ℕ) → (0 < m → n < m) → (m ≡ 0 → n ≡ 0) → ((m ≡ 0) × (n ≡ 0)) ⊎ (n < m)
wait-falls zero n f g = inl (refl, g refl)
wait-falls (suc m) n f g = inr (f (omega arith))

-- so does one that is counted down
pub wait-counted : (m n : ℕ) → n ≡ m - 1 → ((m ≡ 0) × (n ≡ 0)) ⊎ (n < m)
wait-counted m n e = wait-falls m n (λ h. omega arith) (λ h. omega arith)
