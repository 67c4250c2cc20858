-- One thing after another, and one more. Assumes nothing.
use Rattle.std.proofs.Common.{◌≡◌, ℕ, ◌+◌, ◌<◌, ◌≤◌, List, [], ◌∷◌, length, get_or, take, sym, ap, ◌∙◌}
use mathlib.Core.List.{foldl, foldl-append}
use Rattle.std.proofs.lemmas.List.{take_more, take_all}

module _ {S C : Type 0} (step : S → C → S) (start : S) (cs : List C) (i : ℕ) (here : S) (so_far : here ≡ foldl step start (take i cs)) where
  -- the one at a position, behind those before it
  pub fold_more : (c : C) (next : S) → i < length cs → c ≡ get_or cs i c → next ≡ step here c → next ≡ foldl step start (take (i + 1) cs)
  fold_more c next more at e =
      e ∙ ap (λ (s : S). step s c) so_far ∙ ap (step (foldl step start (take i cs))) at
      ∙ sym (foldl-append step start (take i cs) (get_or cs i c ∷ [])) ∙ ap (foldl step start) (sym (take_more cs i c more))

  -- behind the last there are no more
  pub fold_all : length cs ≤ i → here ≡ foldl step start cs
  fold_all past = so_far ∙ ap (foldl step start) (take_all i cs past)
