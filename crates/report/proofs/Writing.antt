-- One text behind another on a page. Assumes nothing.
use Rattle.std.proofs.Common.{◌≡◌, ℕ, zero, suc, ◌+◌, ◌-◌, ◌/◌, ◌%◌, ◌^◌, ◌<◌, ◌≤◌, List, [], ◌∷◌, ◌++◌, length, set, drop, decimal, sym, refl, ap, ◌∙◌, ap₂, le_refl, pow-suc, add-zero, arith, length-append}
use lib.Seq.{paste}
use Rattle.std.proofs.Math.Nat.{div-one, div-div-eq-div-mul, pow-succ'}
use Rattle.std.proofs.lemmas.List.{length_push, drop-set}
use Rattle.std.proofs.lemmas.List.Edits.{paste_none, paste-paste, length-paste}
use Rattle.std.proofs.lemmas.Fmt.{decimal_digit, decimal_step, length-decimal-le}
use Rattle.text.specs.Hex.{hex_digit, hex_digits}
use Rattle.report.specs.declared.page.Page.{Page}
use Rattle.report.specs.Pages.{written, Room, Wrote, HasRoom, Put}

pub length-written : (p : List ℕ) (at : ℕ) (s : List ℕ) → Room p at s → length (written p at s) ≡ length p
length-written p at s h = length-paste p at s (length s) h (le_refl (length s))

pub then : (p : List ℕ) (at : ℕ) (s t : List ℕ) → at ≤ length p → written (written p at s) (at + length s) t ≡ written p at (s ++ t)
then p at s t h = paste-paste p at s t (length s) (length t) refl refl h ∙ ap (paste p at (s ++ t)) (sym (length-append s t))

-- one text, and another behind it
pub chain : {p q r : List ℕ} {at m n : ℕ} {s t : List ℕ} → Wrote p at s q m → Wrote q m t r n → Wrote p at (s ++ t) r n
chain {p} {q} {r} {at} {m} {n} {s} {t} a b =
    let wide : length q ≡ length p = ap length a.page ∙ length-written p at s a.within in
    let both : length (s ++ t) ≡ length s + length t = length-append s t in
    record {
      page = b.page ∙ ap₂ (λ x i. written x i t) a.page a.place ∙ then p at s t (omega (arith, a.within));
      place = omega (arith, a.place, b.place);
      within = omega (arith, a.within, b.within, a.place);
    }

pub digit_is : (n : ℕ) → n < 10 → (48 + n) ∷ [] ≡ decimal n
digit_is n h = sym (decimal_digit n h)

pub digits_are : (n : ℕ) → 10 ≤ n → n < 2 ^ 64 → decimal (n / 10) ++ ((48 + n % 10) ∷ []) ≡ decimal n
digits_are n h k = sym (decimal_step n h k)

pub one_long : (n : ℕ) → n < 10 → length (decimal n) ≡ 1
one_long n h = ap length (decimal_digit n h)

pub one_longer : (n : ℕ) → 10 ≤ n → n < 2 ^ 16 → length (decimal n) ≡ length (decimal (n / 10)) + 1
one_longer n h k = ap length (decimal_step n h (omega arith)) ∙ length_push (decimal (n / 10)) (48 + n % 10)

-- a number of two digits
pub two_digits : (n : ℕ) → 10 ≤ n → n < 100 → ((48 + n / 10) ∷ []) ++ ((48 + n % 10) ∷ []) ≡ decimal n
two_digits n h k = ap (λ ds. ds ++ ((48 + n % 10) ∷ [])) (digit_is (n / 10) (omega arith)) ∙ digits_are n h (omega arith)

-- a number of at most two digits, one of 16 bits
pub two_long : (n : ℕ) → n ≤ 14 → length (decimal n) ≤ 2
two_long n h = length-decimal-le 2 n (omega arith) (omega arith) (omega arith)

pub five_long : (n : ℕ) → n < 2 ^ 16 → length (decimal n) ≤ 5
five_long n h = length-decimal-le 5 n (omega arith) (omega arith) (omega arith)

-- nothing put
pub nothing : (p : Page) → HasRoom p 0 → Put p [] p
nothing p h = record {
  same = refl;
  size = refl;
  wrote = record { page = paste_none p.bytes.now p.length []; place = sym (add-zero p.length); within = h };
}

-- one text put, and another behind it
pub both : {p q r : Page} {s t : List ℕ} → Put p s q → Put q t r → Put p (s ++ t) r
both a b = record { same = b.same ∙ a.same; size = b.size ∙ a.size; wrote = chain a.wrote b.wrote }

-- a text put, by another name for it
pub named : {p q : Page} (s t : List ℕ) → s ≡ t → Put p s q → Put p t q
named s t e a = rw e at a

-- one hexadecimal digit more, in front of the others
first_digit : (k x : ℕ) → hex_digits (suc k) x ≡ hex_digit (x / 16 ^ k % 16) ∷ hex_digits k x
first_digit zero x = ap (λ y. hex_digit (y % 16) ∷ []) (sym (div-one x))
first_digit (suc k) x =
    ap (λ ds. ds ++ (hex_digit (x % 16) ∷ [])) (first_digit k (x / 16))
    ∙ ap (λ y. hex_digit (y % 16) ∷ hex_digits (suc k) x) (div-div-eq-div-mul x 16 (16 ^ k) ∙ ap (λ p. x / p) (sym (pow-succ' 16 k)))

pub digit-before : (ds : List ℕ) (count place x rest d : ℕ) → length ds ≡ count → 0 < place → place ≤ count → drop place ds ≡ hex_digits (count - place) x → rest ≡ x / 16 ^ (count - place)
    → d ≡ hex_digit (rest % 16) → drop (place - 1) (set ds (place - 1) d) ≡ hex_digits (count - (place - 1)) x
digit-before ds count place x rest d long low high h r e =
    let at : place - 1 + 1 ≡ place = omega arith in
    let more : count - (place - 1) ≡ suc (count - place) = omega arith in
    drop-set ds (place - 1) d (omega (arith, long))
    ∙ ap₂ (λ y ys. y ∷ ys) (e ∙ ap (λ y. hex_digit (y % 16)) r) (ap (λ i. drop i ds) at ∙ h)
    ∙ sym (first_digit (count - place) x)
    ∙ sym (ap (λ k. hex_digits k x) more)

pub less : (count place x rest : ℕ) → 0 < place → place ≤ count → rest ≡ x / 16 ^ (count - place) → rest / 16 ≡ x / 16 ^ (count - (place - 1))
less count place x rest low high r =
    let more : count - (place - 1) ≡ suc (count - place) = omega arith in
    ap (λ y. y / 16) r ∙ div-div-eq-div-mul x (16 ^ (count - place)) 16 ∙ ap (λ p. x / p) (sym (pow-suc 16 (count - place)) ∙ sym (ap (λ k. 16 ^ k) more))
