-- Texts without a line end, and the lines that they make. Assumes nothing.
use Rattle.std.proofs.Common.{◌≡◌, ℕ, zero, suc, ◌+◌, ◌/◌, ◌%◌, ◌≤◌, Bool, true, false, cond, not, ◌&&◌, eqb, ltb, List, [], ◌∷◌, ◌++◌, decimal, sym, refl, ap, ◌∙◌, arith}
use Rattle.std.specs.Fmt.{digit_glyph, digits_onto, digits}
use Rattle.std.proofs.lemmas.Bool.{and_from, and_parts, ne_eqb}
use Rattle.text.specs.Hex.{hex_digit, hex_digits}
use Rattle.text.specs.Lines.{before, lines_of}

-- no byte is a line end
abbrev pub plain : List ℕ → Bool
plain [] = true
plain (c ∷ cs) = not (eqb c 10) && plain cs

pub plain_append : (xs ys : List ℕ) → plain xs ≡ true → plain ys ≡ true → plain (xs ++ ys) ≡ true
plain_append [] ys h k = k
plain_append (c ∷ cs) ys h k =
    let p = and_parts (not (eqb c 10)) (plain cs) h in
    and_from (not (eqb c 10)) (plain (cs ++ ys)) p.0 (plain_append cs ys p.1 k)

above : (c : ℕ) → 11 ≤ c → not (eqb c 10) ≡ true
above c h = ap not (ne_eqb c 10 (λ e. omega arith))

pub plain_more : (c : ℕ) (cs : List ℕ) → 11 ≤ c → plain cs ≡ true → plain (c ∷ cs) ≡ true
plain_more c cs h k = and_from (not (eqb c 10)) (plain cs) (above c h) k

glyph_plain : (d : ℕ) → 11 ≤ digit_glyph false d
glyph_plain d = at (ltb d 10)
  where
    at : (b : Bool) → 11 ≤ cond b (48 + d) (87 + d)
    at true = omega arith
    at false = omega arith

spelled_plain : (k n : ℕ) (acc : List ℕ) → plain acc ≡ true → plain (digits_onto k 10 false n acc) ≡ true
spelled_plain zero n acc h = h
spelled_plain (suc k) n acc h =
    let one = plain_more (digit_glyph false (n % 10)) acc (glyph_plain (n % 10)) h in
    at (eqb (n / 10) 0) one (spelled_plain k (n / 10) (digit_glyph false (n % 10) ∷ acc) one)
  where
    at : (b : Bool) → plain (digit_glyph false (n % 10) ∷ acc) ≡ true → plain (digits_onto k 10 false (n / 10) (digit_glyph false (n % 10) ∷ acc)) ≡ true
        → plain (cond b (digit_glyph false (n % 10) ∷ acc) (digits_onto k 10 false (n / 10) (digit_glyph false (n % 10) ∷ acc))) ≡ true
    at true p q = p
    at false p q = q

pub decimal-plain : (n : ℕ) → plain (decimal n) ≡ true
unfolding digits
decimal-plain n = spelled_plain 64 n [] refl

hex_plain : (d : ℕ) → 11 ≤ hex_digit d
hex_plain d = at (ltb d 10)
  where
    at : (b : Bool) → 11 ≤ cond b (48 + d) (55 + d)
    at true = omega arith
    at false = omega arith

pub digits-plain : (n x : ℕ) → plain (hex_digits n x) ≡ true
digits-plain zero x = refl
digits-plain (suc n) x = plain_append (hex_digits n (x / 16)) (hex_digit (x % 16) ∷ []) (digits-plain n (x / 16)) (plain_more (hex_digit (x % 16)) [] (hex_plain (x % 16)) refl)

-- a text without a line end, an end, and more
pub one_line : (s t : List ℕ) → plain s ≡ true → lines_of (s ++ (10 ∷ t)) ≡ s ∷ lines_of t
one_line [] t h = refl
one_line (c ∷ cs) t h =
    let p = and_parts (not (eqb c 10)) (plain cs) h in
    at (eqb c 10) p.0 ∙ ap (before c) (one_line cs t p.1)
  where
    at : (b : Bool) → not b ≡ true → cond b ([] ∷ lines_of (cs ++ (10 ∷ t))) (before c (lines_of (cs ++ (10 ∷ t)))) ≡ before c (lines_of (cs ++ (10 ∷ t)))
    at true k = absurd (let z : ◌≡◌ {A = ℕ} 0 1 = cc in omega arith)
    at false k = refl

-- before an end there is a line
some-line : (a : List ℕ) → (l : List ℕ) × (ls : List (List ℕ)) × (lines_of (a ++ (10 ∷ [])) ≡ l ∷ ls)
some-line [] = ([], [], refl)
some-line (c ∷ cs) = at (eqb c 10) (lines_of (cs ++ (10 ∷ []))) (some-line cs)
  where
    at : (b : Bool) (ms : List (List ℕ)) → (l : List ℕ) × (ls : List (List ℕ)) × (ms ≡ l ∷ ls) → (l : List ℕ) × (ls : List (List ℕ)) × (cond b ([] ∷ ms) (before c ms) ≡ l ∷ ls)
    at true ms h = ([], ms, refl)
    at false ms (l, ls, e) = (c ∷ l, ls, ap (before c) e)

before_append : (c : ℕ) (xs ys : List (List ℕ)) (l : List ℕ) (ls : List (List ℕ)) → xs ≡ l ∷ ls → before c (xs ++ ys) ≡ before c xs ++ ys
before_append c xs ys l ls e = ap (λ zs. before c (zs ++ ys)) e ∙ sym (ap (λ zs. before c zs ++ ys) e)

-- the lines of a text, an end and more are the lines up to the end, and the lines of what is more
lines_join : (a b : List ℕ) → lines_of (a ++ (10 ∷ b)) ≡ lines_of (a ++ (10 ∷ [])) ++ lines_of b
lines_join [] b = refl
lines_join (c ∷ cs) b = at (eqb c 10) (lines_join cs b) (some-line cs)
  where
    at : (t : Bool) → lines_of (cs ++ (10 ∷ b)) ≡ lines_of (cs ++ (10 ∷ [])) ++ lines_of b → (l : List ℕ) × (ls : List (List ℕ)) × (lines_of (cs ++ (10 ∷ [])) ≡ l ∷ ls)
        → cond t ([] ∷ lines_of (cs ++ (10 ∷ b))) (before c (lines_of (cs ++ (10 ∷ b)))) ≡ cond t ([] ∷ lines_of (cs ++ (10 ∷ []))) (before c (lines_of (cs ++ (10 ∷ [])))) ++ lines_of b
    at true e h = ap (λ ls. [] ∷ ls) e
    at false e (l, ls, h) = ap (before c) e ∙ before_append c (lines_of (cs ++ (10 ∷ []))) (lines_of b) l ls h

-- the same, by the first line
pub first_and_more : (a b : List ℕ) → (l : List ℕ) × (ls : List (List ℕ)) × (lines_of (a ++ (10 ∷ [])) ≡ l ∷ ls) × (lines_of (a ++ (10 ∷ b)) ≡ l ∷ (ls ++ lines_of b))
first_and_more a b = at (some-line a)
  where
    at : (l : List ℕ) × (ls : List (List ℕ)) × (lines_of (a ++ (10 ∷ [])) ≡ l ∷ ls) → (l : List ℕ) × (ls : List (List ℕ)) × (lines_of (a ++ (10 ∷ [])) ≡ l ∷ ls) × (lines_of (a ++ (10 ∷ b)) ≡ l ∷ (ls ++ lines_of b))
    at (l, ls, e) = (l, ls, e, lines_join a b ∙ ap (λ xs. xs ++ lines_of b) e)
