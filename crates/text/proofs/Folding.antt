-- Reading digits of a base, one after another. Assumes nothing.
use Rattle.std.proofs.Common.{◌≡◌, ℕ, ◌+◌, ◌*◌, ◌^◌, ◌<◌, ◌≤◌, List, length, get_or, drop, Option, ap, ◌∙◌, pow-suc, add-one, mul-le-mul_right, arith}
use native.Mathlib.Nat.{pow-le-pow_right}
use Rattle.std.proofs.lemmas.List.{at_drop_more}
use Rattle.text.specs.Digits.{next, number_from}

pub digit_more : (value : ℕ → Option ℕ) (base n : ℕ) (xs : List ℕ) (i : ℕ) (o : Option ℕ) → i < length xs → value (get_or xs i 0) ≡ o → number_from value base n (drop i xs) ≡ next o (λ d. number_from value base (n * base + d) (drop (i + 1) xs))
digit_more value base n xs i o h e = at_drop_more (number_from value base n) xs i 0 h ∙ ap (λ o. next o (λ d. number_from value base (n * base + d) (drop (i + 1) xs))) e

pub grows : (base v d i : ℕ) → v < base ^ i → d < base → v * base + d < base ^ (i + 1)
grows base v d i h k =
    let e : base ^ (i + 1) ≡ base ^ i * base = ap (λ n. base ^ n) (add-one i) ∙ pow-suc base i in
    let m : (v + 1) * base ≤ base ^ i * base = mul-le-mul_right base (omega arith) in
    omega arith

pub fits : (base most v d i : ℕ) → base ^ most ≤ 2 ^ 64 → v < base ^ i → d < base → i < most → v * base + d < 2 ^ 64
fits base most v d i b h k l =
    let g = grows base v d i h k in
    let q : i + 1 ≤ most = omega arith in
    let p : base ^ (i + 1) ≤ base ^ most = pow-le-pow_right (omega arith) q in
    omega arith
