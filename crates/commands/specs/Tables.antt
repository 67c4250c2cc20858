-- Codes, arguments and payloads by a table. Assumes nothing.
use Rattle.std.specs.Prelude.{◌≡◌, ℕ, zero, suc, ◌+◌, ◌*◌, ◌/◌, ◌%◌, ◌^◌, ◌<◌, ◌≤◌, Bool, true, false, ◌&&◌, List, [], ◌∷◌, length, Some, None, Option, nat_le, nat_lt}
use Rattle.std.proofs.Common.{ap, ap₂, ◌∙◌, inl, inr, arith}
use Rattle.std.proofs.lemmas.List.{get_or_past}
use Rattle.std.proofs.lemmas.Bool.{and_parts, both_ways, cases_lt, false≢true, leb-true, ltb-true}
use Rattle.wire.specs.Words.{given}
use Rattle.commands.specs.declared.table.Row.{Row}
use Rattle.commands.specs.Table.{takes, allows_in, fields_in}
use Rattle.records.proofs.Guards.{given-some}

pub past : (table : List (Option Row)) (code argument : ℕ) → length table ≤ code → allows_in table code argument ≡ false
past table code argument h = ap (λ row. takes row argument) (get_or_past table code None h)

pub past_fields : (table : List (Option Row)) (p : ℕ) → length table ≤ p / 2 ^ 32 → fields_in table p ≡ None
past_fields table p h = ap (λ b. given b (p / 2 ^ 32, p % 2 ^ 32)) (past table (p / 2 ^ 32) (p % 2 ^ 32) h)

-- a code that is allowed has a row
pub code_within : (table : List (Option Row)) (code argument : ℕ) → allows_in table code argument ≡ true → code < length table
code_within table code argument e = elim (cases_lt code (length table)) [ inl h ↦ h | inr h ↦ absurd (both_ways (allows_in table code argument) (past table code argument h) e) ]

-- every row of a table ends below a limit
abbrev pub limited : ℕ → List (Option Row) → Bool
limited most [] = true
limited most (None ∷ table) = limited most table
limited most (Some row ∷ table) = nat_lt row.highest most && limited most table

-- so does an argument that is allowed
pub argument_below : (most : ℕ) (table : List (Option Row)) (code argument : ℕ) → limited most table ≡ true → allows_in table code argument ≡ true → argument < most
argument_below most [] code argument l e = absurd (false≢true e)
argument_below most (None ∷ table) zero argument l e = absurd (false≢true e)
argument_below most (Some row ∷ table) zero argument l e =
    let within = (and_parts (nat_le row.lowest argument) (nat_le argument row.highest) e).1 in
    let top = ltb-true row.highest most (and_parts (nat_lt row.highest most) (limited most table) l).0 in
    omega (arith, leb-true argument row.highest within)
argument_below most (None ∷ table) (suc code) argument l e = argument_below most table code argument l e
argument_below most (Some row ∷ table) (suc code) argument l e = argument_below most table code argument (and_parts (nat_lt row.highest most) (limited most table) l).1 e

-- The laws of payloads, over any table of sixteen rows.
module _ (table : List (Option Row)) (sixteen : length table ≡ 16) where
  pub payload-small : (code argument : ℕ) → argument < 2 ^ 32 → allows_in table code argument ≡ true → code * 2 ^ 32 + argument < 2 ^ 36
  payload-small code argument h e = omega (arith, code_within table code argument e)

  pub fields_back : (code argument : ℕ) → argument < 2 ^ 32 → allows_in table code argument ≡ true → fields_in table (code * 2 ^ 32 + argument) ≡ Some (code, argument)
  fields_back code argument h e =
      let p : ℕ = code * 2 ^ 32 + argument in
      let high : p / 2 ^ 32 ≡ code = omega arith in
      let low : p % 2 ^ 32 ≡ argument = omega arith in
      ap₂ (λ x y. given (allows_in table x y) (x, y)) high low ∙ ap (λ b. given b (code, argument)) e

  pub fields_once : (p code argument : ℕ) → fields_in table p ≡ Some (code, argument) → code * 2 ^ 32 + argument ≡ p
  fields_once p code argument e =
      let same = (given-some (allows_in table (p / 2 ^ 32) (p % 2 ^ 32)) (p / 2 ^ 32, p % 2 ^ 32) (code, argument) e).1 in
      let high : p / 2 ^ 32 ≡ code = ap (λ f. f.0) same in
      let low : p % 2 ^ 32 ≡ argument = ap (λ f. f.1) same in
      omega arith

  pub fields_short : (p : ℕ) (f : ℕ × ℕ) → fields_in table p ≡ Some f → p < 2 ^ 36
  fields_short p f e =
      let allowed = (given-some (allows_in table (p / 2 ^ 32) (p % 2 ^ 32)) (p / 2 ^ 32, p % 2 ^ 32) f e).0 in
      omega (arith, code_within table (p / 2 ^ 32) (p % 2 ^ 32) allowed)
