-- Which words stand where in a list. Assumes nothing.
use Rattle.std.proofs.Common.{◌≡◌, ℕ, zero, suc, ◌<◌, ◌≤◌, ◌⊎◌, List, [], ◌∷◌, ◌++◌, length, drop, refl, inl, inr, arith}
use Rattle.std.specs.List.{AllByRecursion as All}

-- P holds of the word at place n.
abbrev pub Nth : (ℕ → Type 0) → ℕ → List ℕ → Type 0
Nth P n [] = ⊥
Nth P zero (x ∷ xs) = P x
Nth P (suc n) (x ∷ xs) = Nth P n xs

pub nth_append : (P : ℕ → Type 0) (n : ℕ) (xs ys : List ℕ) → Nth P n xs → Nth P n (xs ++ ys)
nth_append P n [] ys h = absurd h
nth_append P zero (x ∷ xs) ys h = h
nth_append P (suc n) (x ∷ xs) ys h = nth_append P n xs ys h

pub nth_last : (P : ℕ → Type 0) (xs : List ℕ) (w : ℕ) → P w → Nth P (length xs) (xs ++ (w ∷ []))
nth_last P [] w h = h
nth_last P (x ∷ xs) w h = nth_last P xs w h

pub nth_below : (P : ℕ → Type 0) (n : ℕ) (xs : List ℕ) → Nth P n xs → n < length xs
nth_below P n [] h = absurd h
nth_below P zero (x ∷ xs) h = omega arith
nth_below P (suc n) (x ∷ xs) h = let t = nth_below P n xs h in omega arith

pub shape : (xs : List ℕ) → (xs ≡ []) ⊎ ((x : ℕ) × (ys : List ℕ) × (xs ≡ x ∷ ys))
shape [] = inl refl
shape (x ∷ xs) = inr (x, xs, refl)

pub all-drop_append : (P : ℕ → Type 0) (n : ℕ) (xs : List ℕ) (w : ℕ) → All P (drop n xs) → P w → All P (drop n (xs ++ (w ∷ [])))
all-drop_append P zero [] w h p = (p, tt)
all-drop_append P zero (x ∷ xs) w h p = (h.0, all-drop_append P zero xs w h.1 p)
all-drop_append P (suc n) [] w h p = go n
  where
    go : (n : ℕ) → All P (drop n [])
    go zero = tt
    go (suc n) = tt
all-drop_append P (suc n) (x ∷ xs) w h p = all-drop_append P n xs w h p

pub all-drop-past : (P : ℕ → Type 0) (n : ℕ) (xs : List ℕ) → length xs ≤ n → All P (drop n xs)
all-drop-past P zero [] h = tt
all-drop-past P (suc n) [] h = tt
all-drop-past P zero (x ∷ xs) h = absurd (omega arith)
all-drop-past P (suc n) (x ∷ xs) h = all-drop-past P n xs (omega arith)
