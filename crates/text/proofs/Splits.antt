-- A text is its first line and the lines of the rest. Assumes nothing.
use Rattle.std.proofs.Common.{◌≡◌, ℕ, suc, ◌+◌, ◌<◌, Bool, true, false, cond, not, eqb, List, [], ◌∷◌, length, take, drop, sym, refl, ap, ◌∙◌, ap₂, arith}
use Rattle.std.proofs.lemmas.List.{length-drop}
use Rattle.text.specs.Lines.{line_length, line_of, rest_of, before, lines_of}

pub lines_split : (text : List ℕ) → 0 < length text → lines_of text ≡ line_of text ∷ lines_of (rest_of text)
lines_split [] h = absurd (omega arith)
lines_split (c ∷ cs) h = at (eqb c 10) (more cs (lines_split cs))
  where
    k : ℕ
    k = line_length cs

    more : (ds : List ℕ) → (0 < length ds → lines_of ds ≡ line_of ds ∷ lines_of (rest_of ds)) → before c (lines_of ds) ≡ (c ∷ line_of ds) ∷ lines_of (rest_of ds)
    more [] k = refl
    more (d ∷ ds) k = ap (before c) (k (omega arith))

    at : (b : Bool) → before c (lines_of cs) ≡ (c ∷ line_of cs) ∷ lines_of (rest_of cs) → cond b ([] ∷ lines_of cs) (before c (lines_of cs)) ≡ take (cond (not b) (1 + k) 0) (c ∷ cs) ∷ lines_of (drop (cond (not b) (1 + k) 0 + 1) (c ∷ cs))
    at true e = refl
    at false e =
        let one : suc k ≡ 1 + k = omega arith in
        let two : suc (k + 1) ≡ 1 + k + 1 = omega arith in
        e ∙ ap₂ (λ m n. take m (c ∷ cs) ∷ lines_of (drop n (c ∷ cs))) one two

-- what the first line and the rest are, in terms of all lines
pub splits : (text line rest : List ℕ) → 0 < length text → line ≡ line_of text → rest ≡ rest_of text → (lines_of text ≡ line ∷ lines_of rest) × (length rest < length text)
splits text line rest h l r = (lines_split text h ∙ ap₂ (λ x y. x ∷ lines_of y) (sym l) (sym r), omega (arith, ap length r, length-drop (line_length text + 1) text))
