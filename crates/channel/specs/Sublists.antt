-- Lemmas on sublists, for channels that show the rules. Assumes nothing.
use Rattle.std.specs.Prelude.{◌≡◌, ℕ, ◌≤◌, List, [], ◌∷◌, ◌++◌, length}
use Rattle.std.proofs.Common.{subst, arith}
use Rattle.channel.specs.Rules.{Sublist}
use Rattle.channel.specs.Rules.Sublist.{none, keep, drop}

pub sublist_all : (xs : List ℕ) → Sublist xs xs
sublist_all [] = none
sublist_all (x ∷ xs) = keep (sublist_all xs)

pub sublist_same : (xs ys : List ℕ) → xs ≡ ys → Sublist xs ys
sublist_same xs ys e = subst (Sublist xs) e (sublist_all xs)

pub sublist_trans : {xs ys zs : List ℕ} → Sublist xs ys → Sublist ys zs → Sublist xs zs
sublist_trans p none = p
sublist_trans (keep p) (keep q) = keep (sublist_trans p q)
sublist_trans (drop p) (keep q) = drop (sublist_trans p q)
sublist_trans p (drop q) = drop (sublist_trans p q)

pub sublist_append : {xs ys us vs : List ℕ} → Sublist xs ys → Sublist us vs → Sublist (xs ++ us) (ys ++ vs)
sublist_append none q = q
sublist_append (keep p) q = keep (sublist_append p q)
sublist_append (drop p) q = drop (sublist_append p q)

pub sublist_length : {xs ys : List ℕ} → Sublist xs ys → length xs ≤ length ys
sublist_length none = omega arith
sublist_length (keep p) = omega (arith, sublist_length p)
sublist_length (drop p) = omega (arith, sublist_length p)

-- a word in the middle is left out
pub sublist_without : (xs : List ℕ) (w : ℕ) (ys : List ℕ) → Sublist (xs ++ ys) (xs ++ (w ∷ ys))
sublist_without [] w ys = drop (sublist_all ys)
sublist_without (x ∷ xs) w ys = keep (sublist_without xs w ys)
