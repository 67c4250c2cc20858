-- Shifts and masks of 64 bits as arithmetic. Assumes nothing.
use Rattle.std.proofs.Common.{◌≡◌, ℕ, ◌+◌, ◌-◌, ◌*◌, ◌%◌, ◌^◌, ◌<◌, ◌≤◌, sym, ap, ◌∙◌, ap₂, le_trans, mod-lt, mod-eq_of_lt, mul_assoc, arith, pow_pos, pow_mono, pow-add}
use native.Mathlib.Nat.{mul-add-mod_self_right}
use lib.Bits.{bit_and, bit_or, and_mask, or_shifted}
use lib.Pow.{mod-pow-add, high, low}
use Rattle.std.proofs.lemmas.Nat.{one_shl}

pub all-bits : (x bits : ℕ) → x < 2 ^ 64 → 64 ≤ bits → x ≡ x % 2 ^ bits
all-bits x bits h k = sym (mod-eq_of_lt (le_trans h (pow_mono k)))

pub low_bits : (x bits : ℕ) → bits < 64 → bit_and x ((1 * 2 ^ bits) % 2 ^ 64 - 1) ≡ x % 2 ^ bits
low_bits x bits k = ap (λ n. bit_and x (n - 1)) (one_shl bits 64 k) ∙ and_mask x bits

pub joined-past : (h bits x : ℕ) → x < 2 ^ 64 → 64 ≤ bits → x ≡ (h * 2 ^ bits + x % 2 ^ bits) % 2 ^ 64
joined-past h bits x small k =
    let more : ℕ = bits - 64 in
    let p : 2 ^ bits ≡ 2 ^ more * 2 ^ 64 = ap (λ n. 2 ^ n) (omega arith) ∙ pow-add 2 more 64 in
    let q : h * 2 ^ bits ≡ h * 2 ^ more * 2 ^ 64 = ap (λ n. h * n) p ∙ sym (mul_assoc h (2 ^ more) (2 ^ 64)) in
    sym (ap₂ (λ a b. (a + b) % 2 ^ 64) q (sym (all-bits x bits small k)) ∙ mul-add-mod_self_right (h * 2 ^ more) (2 ^ 64) x ∙ mod-eq_of_lt small)

-- what is left of a number and `bits` low bits below it, within 64 bits
kept : (h bits y : ℕ) → bits < 64 → y < 2 ^ bits → (h * 2 ^ bits + y) % 2 ^ 64 ≡ h % 2 ^ (64 - bits) * 2 ^ bits + y
kept h bits y k small =
    let n : ℕ = h * 2 ^ bits + y in
    let j : ℕ = 64 - bits in
    let width : 64 ≡ j + bits = omega arith in
    ap (λ w. n % 2 ^ w) width
    ∙ mod-pow-add n j bits
    ∙ ap₂ (λ a b. a % 2 ^ j * 2 ^ bits + b) (high h bits small) (low h bits small)

pub joined : (h bits x : ℕ) → bits < 64 → bit_or (h * 2 ^ bits % 2 ^ 64) (x % 2 ^ bits) ≡ (h * 2 ^ bits + x % 2 ^ bits) % 2 ^ 64
joined h bits x k =
    let y : ℕ = x % 2 ^ bits in
    let small : y < 2 ^ bits = mod-lt x (pow_pos bits) in
    let top : h * 2 ^ bits % 2 ^ 64 ≡ h % 2 ^ (64 - bits) * 2 ^ bits =
    ap (λ n. n % 2 ^ 64) (omega arith) ∙ kept h bits 0 k (pow_pos bits) ∙ omega arith in
    ap (λ n. bit_or n y) top ∙ or_shifted (h % 2 ^ (64 - bits)) bits y small ∙ sym (kept h bits y k small)
