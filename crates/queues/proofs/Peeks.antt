-- Looking at a position of a list of words. Assumes nothing.
use Rattle.std.proofs.Common.{◌≡◌, ℕ, zero, suc, List, [], ◌∷◌, Ok, Err, Some, None, slice_get, refl, ap}
use Rattle.std.proofs.lemmas.Option.{same_Some, slice_get-map}
use Rattle.wire.specs.declared.refusal.Refusal.TheVariants.{Place}
use Rattle.channel.specs.Meaning.{peeked}

pub peeked_some : (xs : List ℕ) (n x : ℕ) → slice_get xs n ≡ Some x → peeked xs n ≡ Ok x
peeked_some [] n x e = absurd cc
peeked_some (y ∷ xs) zero x e = ap Ok (same_Some y x e)
peeked_some (y ∷ xs) (suc n) x e = peeked_some xs n x e

pub peeked_none : (xs : List ℕ) (n : ℕ) → slice_get xs n ≡ None → peeked xs n ≡ Err Place
peeked_none [] n e = refl
peeked_none (y ∷ xs) zero e = absurd cc
peeked_none (y ∷ xs) (suc n) e = peeked_none xs n e

-- what a look at a position answers, also where the words stand beside due numbers
pub ruleset looks = (peeked_some, peeked_none, slice_get-map)
