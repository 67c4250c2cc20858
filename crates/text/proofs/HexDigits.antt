-- What is written in hexadecimal digits reads back. Assumes nothing.
use Rattle.std.proofs.Common.{◌≡◌, ℕ, zero, suc, ◌+◌, ◌-◌, ◌*◌, ◌/◌, ◌%◌, ◌^◌, ◌<◌, ◌≤◌, ◌&&◌, ltb, leb, List, [], ◌∷◌, ◌++◌, length, Some, None, Option, refl, ap, ◌∙◌, inl, inr, pow-suc, arith, length-append}
use Rattle.std.proofs.lemmas.Bool.{cond-true, cond-false, cases_lt, and_from, and_right, le-leb, lt-leb, lt-ltb, le-ltb}
use Rattle.text.specs.Digits.{next}
use Rattle.text.specs.Hex.{digit_value, hex_from, hex_digit, hex_digits, DigitsRead}

figure-back : (d : ℕ) → d < 10 → digit_value (48 + d) ≡ Some d
figure-back d h =
    let c : ℕ = 48 + d in
    let e : c - 48 ≡ d = omega arith in
    cond-true (leb 48 c && leb c 57) _ _ (and_from (leb 48 c) (leb c 57) (le-leb 48 c (omega arith)) (le-leb c 57 (omega arith))) ∙ ap Some e

letter_back : (d : ℕ) → 10 ≤ d → d < 16 → digit_value (55 + d) ≡ Some d
letter_back d l h =
    let c : ℕ = 55 + d in
    let e : c - 55 ≡ d = omega arith in
    cond-false (leb 48 c && leb c 57) _ _ (and_right (leb 48 c) (leb c 57) (lt-leb c 57 (omega arith)))
    ∙ cond-true (leb 65 c && leb c 70) _ _ (and_from (leb 65 c) (leb c 70) (le-leb 65 c (omega arith)) (le-leb c 70 (omega arith)))
    ∙ ap Some e

-- a digit that is written reads back
digit_back : (d : ℕ) → d < 16 → digit_value (hex_digit d) ≡ Some d
digit_back d h = elim (cases_lt d 10) [
  | inl l ↦ ap digit_value (cond-true (ltb d 10) (48 + d) (55 + d) (lt-ltb d 10 l)) ∙ figure-back d l
  | inr l ↦ ap digit_value (cond-false (ltb d 10) (48 + d) (55 + d) (le-ltb d 10 l)) ∙ letter_back d l h
]

-- digits behind digits
hex_append : (n : ℕ) (xs ys : List ℕ) → hex_from n (xs ++ ys) ≡ next (hex_from n xs) (λ m. hex_from m ys)
hex_append n [] ys = refl
hex_append n (c ∷ cs) ys = at (digit_value c) (λ d. hex_append (n * 16 + d) cs ys)
  where
    at : (o : Option ℕ) → ((d : ℕ) → hex_from (n * 16 + d) (cs ++ ys) ≡ next (hex_from (n * 16 + d) cs) (λ m. hex_from m ys)) → next o (λ d. hex_from (n * 16 + d) (cs ++ ys)) ≡ next (next o (λ d. hex_from (n * 16 + d) cs)) (λ m. hex_from m ys)
    at (Some d) k = k d
    at None k = refl

digits_from : (n x : ℕ) → x < 16 ^ n → hex_from 0 (hex_digits n x) ≡ Some x
digits_from zero x h = let e : 0 ≡ x = omega arith in ap Some e
digits_from (suc n) x h =
    let q : ℕ = x / 16 in
    let p : 16 ^ suc n ≡ 16 ^ n * 16 = pow-suc 16 n in
    let e : q * 16 + x % 16 ≡ x = omega arith in
    hex_append 0 (hex_digits n q) (hex_digit (x % 16) ∷ [])
    ∙ ap (λ o. next o (λ m. hex_from m (hex_digit (x % 16) ∷ []))) (digits_from n q (omega arith))
    ∙ ap (λ o. next o (λ d. Some (q * 16 + d))) (digit_back (x % 16) (omega arith))
    ∙ ap Some e

pub length_digits : (n x : ℕ) → length (hex_digits n x) ≡ n
length_digits zero x = refl
length_digits (suc n) x = length-append (hex_digits n (x / 16)) (hex_digit (x % 16) ∷ []) ∙ omega (arith, length_digits n (x / 16))

pub digits_read : DigitsRead
digits_read n x h k =
    let ds = hex_digits n x in
    cond-true (leb (length ds) 16) (hex_from 0 ds) None (le-leb (length ds) 16 (omega (arith, length_digits n x))) ∙ digits_from n x k
