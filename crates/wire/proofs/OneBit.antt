-- A single changed bit is seen by any odd modulus above 1. Assumes nothing.
use Rattle.std.proofs.Common.{◌≡◌, ℕ, zero, suc, ◌+◌, ◌-◌, ◌*◌, ◌/◌, ◌%◌, ◌^◌, ◌<◌, ◌≤◌, ◌⊎◌, sym, ap, ◌∙◌, inl, inr, mod-lt, mod-eq_of_lt, mul_assoc, mul_comm, add-mul, mul-le-mul_left, one-mul, pow-suc, mul-zero, mul-one, mul-add, arith, pow_pos, pow-add, eqb-true}
use native.Mathlib.Nat.{div-add-mod, div-eq_of_lt}
use lib.Bits.{bit_and, bit_xor, and_block, and_mask, and_zero_r, xor_add_and, xor_shr, xor_mod, xor_zero_r}
use Rattle.std.proofs.lemmas.Nat.{pow_below, div-mul-add, mod-mul-add, shr_split}
use Rattle.std.proofs.lemmas.Bool.{cases_lt}
use Rattle.wire.specs.Formats.{Format, check, OneBit}

-- an odd number above 1 divides no power of two
no_multiple : (h : ℕ) → 0 < h → (j q : ℕ) → (2 * h + 1) * q ≡ 2 ^ j → ⊥
no_multiple h hp zero zero e = let z : ◌≡◌ {A = ℕ} 0 1 = sym (mul-zero (2 * h + 1)) ∙ e in omega arith
no_multiple h hp zero (suc q) e =
    let l : (2 * h + 1) * 1 ≤ (2 * h + 1) * suc q = mul-le-mul_left (2 * h + 1) (omega arith) in
    omega (arith, mul-one (2 * h + 1))
no_multiple h hp (suc j) q e =
    let x : ℕ = 2 ^ j in
    let p : ℕ = x - h * q in
    let a : 2 * (h * q) + q ≡ x * 2 = sym (add-mul (2 * h) 1 q ∙ ap (λ n. n + 1 * q) (mul_assoc 2 h q) ∙ ap (λ n. 2 * (h * q) + n) (one-mul q)) ∙ e ∙ pow-suc 2 j in
    let b : q ≡ 2 * p = omega arith in
    let c : h * q ≡ 2 * (h * p) = ap (λ n. h * n) b ∙ sym (mul_assoc h 2 p) ∙ ap (λ n. n * p) (mul_comm h 2) ∙ mul_assoc 2 h p in
    let d : (2 * h + 1) * p ≡ 2 * (h * p) + p = add-mul (2 * h) 1 p ∙ ap (λ n. n + 1 * p) (mul_assoc 2 h p) ∙ ap (λ n. 2 * (h * p) + n) (one-mul p) in
    no_multiple h hp j p (omega arith)

-- equal remainders at a distance of a power of two
apart : (h : ℕ) → 0 < h → (v u j : ℕ) → u ≡ v + 2 ^ j → u % (2 * h + 1) ≡ v % (2 * h + 1) → ⊥
apart h hp v u j e r =
    let m : ℕ = 2 * h + 1 in
    let a : m * (u / m) + u % m ≡ u = div-add-mod u m in
    let b : m * (v / m) + v % m ≡ v = div-add-mod v m in
    let s : (u / m < v / m) ⊎ (v / m ≤ u / m) = cases_lt (u / m) (v / m) in
    elim s [
      | inl l ↦ let k : m * (u / m) ≤ m * (v / m) = mul-le-mul_left m (omega arith) in let p : 0 < 2 ^ j = pow_pos j in omega arith
      | inr l ↦
          let q : ℕ = u / m - v / m in
          let f : u / m ≡ v / m + q = omega arith in
          let g : m * (u / m) ≡ m * (v / m) + m * q = ap (λ n. m * n) f ∙ mul-add m (v / m) q in
          no_multiple h hp j q (omega arith)
    ]

-- one bit of a number
bit : (w i : ℕ) → bit_and w (2 ^ i) ≡ (w / 2 ^ i % 2) * 2 ^ i
bit w i =
    let a : w / 2 ^ i * 2 ^ i + w % 2 ^ i ≡ w = shr_split w i in
    let b : 1 * 2 ^ i + 0 ≡ 2 ^ i = omega (arith, one-mul (2 ^ i)) in
    let low : w % 2 ^ i < 2 ^ i = mod-lt w (pow_pos i) in
    let e : bit_and (w / 2 ^ i * 2 ^ i + w % 2 ^ i) (1 * 2 ^ i + 0) ≡ bit_and (w / 2 ^ i) 1 * 2 ^ i + bit_and (w % 2 ^ i) 0 =
    and_block i (w / 2 ^ i) 1 (w % 2 ^ i) 0 low (pow_pos i) in
    let f : bit_and (w / 2 ^ i) 1 ≡ w / 2 ^ i % 2 = and_mask (w / 2 ^ i) 1 in
    let g : bit_and (w % 2 ^ i) 0 ≡ 0 = and_zero_r (w % 2 ^ i) in
    let k : bit_and w (2 ^ i) ≡ (w / 2 ^ i % 2) * 2 ^ i + 0 = rw (a, b, f, g) at e in
    omega arith

-- a changed bit adds or takes a power of two
flip : (w i : ℕ) → (bit_xor w (2 ^ i) ≡ w + 2 ^ i) ⊎ (w ≡ bit_xor w (2 ^ i) + 2 ^ i)
flip w i = at (w / 2 ^ i % 2) (mod-lt (w / 2 ^ i) (omega arith)) (bit w i)
  where
    at : (b : ℕ) → b < 2 → bit_and w (2 ^ i) ≡ b * 2 ^ i → (bit_xor w (2 ^ i) ≡ w + 2 ^ i) ⊎ (w ≡ bit_xor w (2 ^ i) + 2 ^ i)
    at zero h e = inl (omega (arith, xor_add_and w (2 ^ i)))
    at (suc zero) h e = inr (omega (arith, xor_add_and w (2 ^ i)))
    at (suc (suc b)) h e = absurd (omega arith)

flip_ne : (w i : ℕ) → bit_xor w (2 ^ i) ≡ w → ⊥
flip_ne w i e =
    let p : 0 < 2 ^ i = pow_pos i in
    let s = flip w i in
    elim s [ inl a ↦ omega arith | inr a ↦ omega arith ]

-- Any odd modulus above 1 sees one changed bit, at any width of the check.
pub one_bit : (f : Format) → f.modulus % 2 ≡ 1 → 1 < f.modulus → OneBit f
one_bit f odd large w i a b = go (cases_lt i k)
  where
    m : ℕ
    m = f.modulus

    k : ℕ
    k = f.check_bits

    x : ℕ
    x = bit_xor w (2 ^ i)

    own : w % 2 ^ k ≡ check f (w / 2 ^ k)
    own = eqb-true (w % 2 ^ k) (check f (w / 2 ^ k)) a

    other : x % 2 ^ k ≡ check f (x / 2 ^ k)
    other = eqb-true (x % 2 ^ k) (check f (x / 2 ^ k)) b

    go : (i < k) ⊎ (k ≤ i) → ⊥
    go (inl l) =
        let p : 2 ^ i < 2 ^ k = pow_below i k l in
        let u : x / 2 ^ k ≡ w / 2 ^ k = xor_shr w (2 ^ i) k ∙ ap (λ n. bit_xor (w / 2 ^ k) n) (div-eq_of_lt p) ∙ xor_zero_r (w / 2 ^ k) in
        let c : x % 2 ^ k ≡ bit_xor (w % 2 ^ k) (2 ^ i) = xor_mod w (2 ^ i) k ∙ ap (λ n. bit_xor (w % 2 ^ k) n) (mod-eq_of_lt p) in
        flip_ne (w % 2 ^ k) i (sym c ∙ other ∙ ap (check f) u ∙ sym own)
    go (inr l) =
        let j : ℕ = i - k in
        let v : ℕ = w / 2 ^ k in
        let pw : 2 ^ i ≡ 2 ^ j * 2 ^ k + 0 = ap (λ n. 2 ^ n) (omega arith) ∙ pow-add 2 j k ∙ omega arith in
        let u : x / 2 ^ k ≡ bit_xor v (2 ^ j) = xor_shr w (2 ^ i) k ∙ ap (λ n. bit_xor v n) (ap (λ n. n / 2 ^ k) pw ∙ div-mul-add (2 ^ j) (2 ^ k) 0 (pow_pos k)) in
        let c : x % 2 ^ k ≡ w % 2 ^ k = xor_mod w (2 ^ i) k ∙ ap (λ n. bit_xor (w % 2 ^ k) n) (ap (λ n. n % 2 ^ k) pw ∙ mod-mul-add (2 ^ j) (2 ^ k) 0 (pow_pos k)) ∙ xor_zero_r (w % 2 ^ k) in
        let h : ℕ = m / 2 in
        let me : m ≡ 2 * h + 1 = omega arith in
        let same : check f (bit_xor v (2 ^ j)) ≡ check f v = ap (check f) (sym u) ∙ sym other ∙ c ∙ own in
        let r : bit_xor v (2 ^ j) % m ≡ v % m = omega (arith, mod-lt v {m = m} (omega arith), mod-lt (bit_xor v (2 ^ j)) {m = m} (omega arith)) in
        let r' : bit_xor v (2 ^ j) % (2 * h + 1) ≡ v % (2 * h + 1) = rw me at r in
        elim (flip v j) [ inl e ↦ apart h (omega arith) v (bit_xor v (2 ^ j)) j e r' | inr e ↦ apart h (omega arith) (bit_xor v (2 ^ j)) v j e (sym r') ]
