-- A scan of the words in sight, position by position. Assumes nothing.
use Rattle.std.proofs.Common.{◌≡◌, ℕ, zero, suc, ◌+◌, ◌<◌, true, false, List, [], ◌∷◌, take, Ok, Option, sym, refl, add-one, arith}
use Rattle.std.proofs.lemmas.Bool.{and_from, and_parts, and_left, and_right}
use Rattle.channel.specs.Meaning.{peeked}
use Rattle.recovery.specs.State.{fits, all_fit}

module _ (read : ℕ → Option ℕ) (x : ℕ) where
  fit_next : (ws : List ℕ) (at w : ℕ) → Ok w ≡ peeked ws at → fits x (read w) ≡ true → all_fit read x (take at ws) ≡ true → all_fit read x (take (suc at) ws) ≡ true
  fit_next [] at w p f h = refl
  fit_next (v ∷ ws) zero w p f h = let e : w ≡ v = cc in and_from (fits x (read v)) true (rw e at f) refl
  fit_next (v ∷ ws) (suc at) w p f h =
      let k = and_parts (fits x (read v)) (all_fit read x (take at ws)) h in
      and_from (fits x (read v)) (all_fit read x (take (suc at) ws)) k.0 (fit_next ws at w p f k.1)

  pub fit_more : (ws : List ℕ) (at w : ℕ) → Ok w ≡ peeked ws at → true ≡ fits x (read w) → all_fit read x (take at ws) ≡ true → all_fit read x (take (at + 1) ws) ≡ true
  fit_more ws at w p f h = rw add-one (fit_next ws at w p (sym f) h)

  pub fit_not : (ws : List ℕ) (at n w : ℕ) → Ok w ≡ peeked ws at → false ≡ fits x (read w) → at < n → false ≡ all_fit read x (take n ws)
  fit_not ws at zero w p f h = absurd (omega arith)
  fit_not [] at (suc n) w p f h = absurd (let z : ◌≡◌ {A = ℕ} 0 1 = cc in omega arith)
  fit_not (v ∷ ws) zero (suc n) w p f h = let e : w ≡ v = cc in sym (and_left (fits x (read v)) (all_fit read x (take n ws)) (sym (rw e at f)))
  fit_not (v ∷ ws) (suc at) (suc n) w p f h = sym (and_right (fits x (read v)) (all_fit read x (take n ws)) (sym (fit_not ws at n w p f (omega arith))))
