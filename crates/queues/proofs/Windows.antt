-- Lists in circular buffers: one more item at the end, and one less at the start.
use Rattle.std.proofs.Common.{◌≡◌, ℕ, ◌+◌, ◌-◌, ◌%◌, ◌<◌, ◌≤◌, List, [], ◌∷◌, ◌++◌, length, drop, set, sym, refl, ◌∙◌, arith, length-drop, length-set, get_or-drop}
use native.Mathlib.Nat.{mod-add-mod}
use Rattle.std.proofs.lemmas.List.{same_lists}
use Rattle.std.proofs.lemmas.Grind.{common_steps}
use Rattle.queues.specs.Buffers.{once_round, rest}
use Rattle.queues.specs.BufferRules.{length-once_round, get_or-once_round}

rest-drop : {T : Type 0} (xs : List T) → rest xs ≡ drop 1 xs
rest-drop [] = refl
rest-drop (x ∷ xs) = refl

module _ {T : Type 0} (buffer : List T) (at n : ℕ) (sized : length buffer ≡ 64) (inside : at < 64) (most : n ≤ 64) where
  -- an item written behind the others
  pub window_push : (x : T) → n < 64 → once_round (set buffer ((at + n) % 64) x) at (n + 1) ≡ once_round buffer at n ++ (x ∷ [])
  window_push x room =
      let written = set buffer ((at + n) % 64) x in
      let sized_after = length-set buffer ((at + n) % 64) x ∙ sized in
      let before : length (once_round buffer at n) ≡ n = omega (arith, length-once_round buffer at n) in
      let after : length (once_round written at (n + 1)) ≡ n + 1 = omega (arith, length-once_round written at (n + 1)) in
      same_lists _ _ (grind (arith, common_steps)) (λ i d below. grind (
        arith,
        common_steps,
        get_or-once_round buffer at n sized inside most i d,
        get_or-once_round written at (n + 1) sized_after inside (omega arith) i d,
      ))

  -- the window without its first item
  pub window_pop : once_round buffer ((at + 1) % 64) (n - 1) ≡ rest (once_round buffer at n)
  window_pop =
      let before : length (once_round buffer at n) ≡ n = omega (arith, length-once_round buffer at n) in
      let after : length (once_round buffer ((at + 1) % 64) (n - 1)) ≡ n - 1 = omega (arith, length-once_round buffer ((at + 1) % 64) (n - 1)) in
      let step : once_round buffer ((at + 1) % 64) (n - 1) ≡ drop 1 (once_round buffer at n) = same_lists _ _ (simp length-drop (omega arith)) (λ i d below. grind (
        arith,
        length-drop 1 (once_round buffer at n),
        get_or-drop 1 (once_round buffer at n) i d,
        mod-add-mod (at + 1) 64 i,
        get_or-once_round buffer at n sized inside most (1 + i) d,
        get_or-once_round buffer ((at + 1) % 64) (n - 1) sized (omega arith) (omega arith) i d,
      )) in
      step ∙ sym (rest-drop (once_round buffer at n))
