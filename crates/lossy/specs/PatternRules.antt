-- Lemmas on loss patterns: the ones in a pattern, and what a shift leaves of them. Assumes nothing.
use Rattle.std.specs.Prelude.{◌≡◌, ℕ, zero, suc, ◌+◌, ◌-◌, ◌*◌, ◌/◌, ◌%◌, ◌^◌, ◌<◌, true, false, refl}
use Rattle.std.proofs.Common.{sym, ap, ap₂, ◌∙◌, pow-suc, arith, leb-true, leb-false}
use Rattle.std.specs.Int.Count.{ones, ones_step}
use Rattle.std.proofs.lemmas.Nat.{ones_cat}
use Rattle.lossy.specs.Patterns.{top_bit, shifted, bit_count}

-- the count by bits is the library's count
pub ones-bit_count : (bits pattern : ℕ) → pattern < 2 ^ bits → ones pattern ≡ bit_count bits pattern
unfolding ones
ones-bit_count zero zero h = refl
ones-bit_count zero (suc n) h = absurd (omega arith)
ones-bit_count (suc bits) zero h = refl
ones-bit_count (suc bits) (suc n) h =
    let p : 2 ^ suc bits ≡ 2 ^ bits * 2 = pow-suc 2 bits in
    let l : suc n / 2 < 2 ^ bits = omega arith in
    ones_step (suc n) ∙ ap (λ x. suc n % 2 + x) (ones-bit_count bits (suc n / 2) l)

ones_double : (n : ℕ) → ones (n * 2) ≡ ones n
ones_double n =
    let half : (n * 2) / 2 ≡ n = omega arith in
    let even : (n * 2) % 2 ≡ 0 = omega arith in
    ones_step (n * 2) ∙ ap₂ (λ a b. a + ones b) even half ∙ (omega arith)

ones-one : ones 1 ≡ 1
unfolding ones
ones-one = refl

-- a 0 shifted out leaves all ones
ones-kept : (pattern : ℕ) → top_bit pattern ≡ false → ones (shifted pattern) ≡ ones pattern
ones-kept p e =
    let low = leb-false (2 ^ 63) p e in
    let same : shifted p ≡ p * 2 = omega arith in
    ap ones same ∙ ones_double p

-- a 1 shifted out leaves one less
ones_spent : (pattern : ℕ) → pattern < 2 ^ 64 → top_bit pattern ≡ true → ones (shifted pattern) + 1 ≡ ones pattern
ones_spent p fits e =
    let high = leb-true (2 ^ 63) p e in
    let q = p - 2 ^ 63 in
    let small : q < 2 ^ 63 = omega arith in
    let whole : 1 * 2 ^ 63 + q ≡ p = omega arith in
    let same : shifted p ≡ q * 2 = omega arith in
    let parts = ones_cat 63 1 q small in
    let low : ones (shifted p) ≡ ones q = ap ones same ∙ ones_double q in
    let all : ones (1 * 2 ^ 63 + q) ≡ ones p = ap ones whole in
    omega (arith, ones-one)

pub shifted_fits : (pattern : ℕ) → shifted pattern < 2 ^ 64
shifted_fits p = omega arith

-- the same of the count by bits
pub count_kept : (pattern : ℕ) → pattern < 2 ^ 64 → top_bit pattern ≡ false → bit_count 64 (shifted pattern) ≡ bit_count 64 pattern
count_kept p fits e = sym (ones-bit_count 64 (shifted p) (shifted_fits p)) ∙ ones-kept p e ∙ ones-bit_count 64 p fits

pub count_spent : (pattern : ℕ) → pattern < 2 ^ 64 → top_bit pattern ≡ true → bit_count 64 (shifted pattern) + 1 ≡ bit_count 64 pattern
count_spent p fits e = ap (λ n. n + 1) (sym (ones-bit_count 64 (shifted p) (shifted_fits p))) ∙ ones_spent p fits e ∙ ones-bit_count 64 p fits
