-- Looking at a position of a list, and of two lists in a row.
use Rattle.std.proofs.Common.{◌≡◌, ℕ, zero, suc, ◌-◌, ◌<◌, ◌≤◌, List, [], ◌∷◌, ◌++◌, length, get_or, Ok, Err, Result, sym, refl, ap, ◌∙◌, arith}
use Rattle.wire.specs.declared.refusal.Refusal.{Refusal}
use Rattle.wire.specs.declared.refusal.Refusal.TheVariants.{Place}
use Rattle.channel.specs.Meaning.{peeked}

pub peeked-before : (xs ys : List ℕ) (n : ℕ) → n < length xs → peeked (xs ++ ys) n ≡ Ok (get_or xs n 0)
peeked-before [] ys n h = absurd (omega arith)
peeked-before (x ∷ xs) ys zero h = refl
peeked-before (x ∷ xs) ys (suc n) h = peeked-before xs ys n (omega arith)

pub peeked-behind : (xs ys : List ℕ) (n : ℕ) → length xs ≤ n → peeked (xs ++ ys) n ≡ peeked ys (n - length xs)
peeked-behind [] ys n h = let e : n ≡ n - 0 = omega arith in ap (peeked ys) e
peeked-behind (x ∷ xs) ys zero h = absurd (omega arith)
peeked-behind (x ∷ xs) ys (suc n) h =
    let e : n - length xs ≡ suc n - suc (length xs) = omega arith in
    peeked-behind xs ys n (omega arith) ∙ ap (peeked ys) e

pub peeked-past : (xs : List ℕ) (n : ℕ) → length xs ≤ n → peeked xs n ≡ Err Place
peeked-past [] n h = refl
peeked-past (x ∷ xs) zero h = absurd (omega arith)
peeked-past (x ∷ xs) (suc n) h = peeked-past xs n (omega arith)

-- a word seen in the first list is seen in both
pub peeked_in_first : (xs ys : List ℕ) (n w : ℕ) → Ok w ≡ peeked xs n → Ok w ≡ peeked (xs ++ ys) n
peeked_in_first [] ys n w h = absurd (let z : ◌≡◌ {A = ℕ} 0 1 = cc in omega arith)
peeked_in_first (x ∷ xs) ys zero w h = h
peeked_in_first (x ∷ xs) ys (suc n) w h = peeked_in_first xs ys n w h

-- a position that is refused is past the list
pub refused-past : (xs : List ℕ) (n : ℕ) (e : Refusal) → Err e ≡ peeked xs n → length xs ≤ n
refused-past [] n e h = omega arith
refused-past (x ∷ xs) zero e h = absurd (let z : ◌≡◌ {A = ℕ} 0 1 = cc in omega arith)
refused-past (x ∷ xs) (suc n) e h = omega (arith, refused-past xs n e h)

-- a position that is refused in the first list is one of the second
pub peeked_in_second : (xs ys : List ℕ) (n : ℕ) (e : Refusal) (r : Result ℕ Refusal) → Err e ≡ peeked xs n → r ≡ peeked ys (n - length xs) → r ≡ peeked (xs ++ ys) n
peeked_in_second xs ys n e r h k = k ∙ sym (peeked-behind xs ys n (refused-past xs n e h))
