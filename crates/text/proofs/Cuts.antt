-- A text, cut at the first byte that is this one. Assumes nothing.
use Rattle.std.proofs.Common.{◌≡◌, ℕ, ◌+◌, ◌-◌, Bool, true, false, cond, ltb, List, length, take, drop, Some, None, Option, sym, refl, ap, ◌∙◌, arith, rules, [], Bor}
use Rattle.std.specs.Prelude.{position, ◌==◌}
use Rattle.std.specs.List.{after_first}
use Rattle.std.specs.Option.{option_map, unwrap_or}
use Rattle.std.proofs.lemmas.List.{take_all, drop_all, length-drop}
use Rattle.std.proofs.lemmas.Bool.{ltb-false}
use Rattle.text.specs.Parts.{part_before, part_after, length_before}

-- what stands behind a place
behind : (text : List ℕ) (n : ℕ) → take (length text - n) (drop n text) ≡ drop n text
behind text n = take_all (length text - n) (drop n text) (omega (arith, length-drop n text))

found : (t : Bool) (m n : ℕ) → cond t (Some m) None ≡ Some n → (t ≡ true) × (m ≡ n)
found true m n e = (refl, search rules)
found false m n e = search rules

missing : (t : Bool) (m : ℕ) → cond t (Some m) None ≡ None → t ≡ false
missing true m e = search rules
missing false m e = refl

pub before_cut : (b : ℕ) (text : List ℕ) (n : ℕ) → position (λ c. c == b) text ≡ Some n → take n text ≡ part_before b text
before_cut b text n e = ap (λ k. take k text) (sym (found (ltb (length_before b text) (length text)) (length_before b text) n e).1)

pub after_cut : (b : ℕ) (text : List ℕ) (n : ℕ) → position (λ c. c == b) text ≡ Some n → Some (take (length text - (n + 1)) (drop (n + 1) text)) ≡ part_after b text
after_cut b text n e =
    let m = length_before b text in
    let f = found (ltb m (length text)) m n e in
    ap Some (behind text (n + 1) ∙ ap (λ k. drop (k + 1) text) (sym f.1)) ∙ sym (ap (λ t. cond t (Some (after_first (λ c. c == b) text)) None) f.0)

pub all_before : (b : ℕ) (text : List ℕ) → position (λ c. c == b) text ≡ None → text ≡ part_before b text
all_before b text e = sym (take_all (length_before b text) text (ltb-false (length_before b text) (length text) (missing (ltb (length_before b text) (length text)) (length_before b text) e)))

pub none_after : (b : ℕ) (text : List ℕ) → position (λ c. c == b) text ≡ None → None ≡ part_after b text
none_after b text e = sym (ap (λ t. cond t (Some (after_first (λ c. c == b) text)) None) (missing (ltb (length_before b text) (length text)) (length_before b text) e))

-- what comes after the cut, and nothing where there is none
pub behind_cut : (b : ℕ) (text : List ℕ) (o : Option (Bor (List ℕ))) (d : Bor (List ℕ)) → option_map (λ x. x.now) o ≡ part_after b text → d.now ≡ [] → (unwrap_or o d).now ≡ after_first (λ c. c == b) text
behind_cut b text o d e h = at o (ltb m (length text)) (after_first (λ c. c == b) text) (λ f. drop_all (m + 1) text (omega (arith, ltb-false m (length text) f))) e
  where
    m : ℕ
    m = length_before b text

    at : (o : Option (Bor (List ℕ))) (t : Bool) (a : List ℕ) → (t ≡ false → a ≡ []) → option_map (λ x. x.now) o ≡ cond t (Some a) None → (unwrap_or o d).now ≡ a
    at (Some r) true a n e = search rules
    at (Some r) false a n e = search rules
    at None true a n e = search rules
    at None false a n e = h ∙ sym (n refl)
