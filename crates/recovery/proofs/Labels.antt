-- Labels as they are read from words, the label after one, and what a clean link is in these terms. Assumes nothing.
use Rattle.std.proofs.Common.{◌≡◌, ℕ, ◌+◌, ◌%◌, ◌<◌, ◌≤◌, true, ◌≢◌, ◌⊎◌, List, length, Some, None, Decides, Option, sym, refl, ◌∙◌, inl, inr, mod-eq_of_lt, arith, eq-eqb, eqb-true}
use native.Mathlib.Nat.{mod_self}
use native.Mathlib.Decide.{dec_lt}
use Rattle.std.specs.List.{AllByRecursion as All}
use Rattle.std.proofs.lemmas.List.{take_all}
use Rattle.std.proofs.ByRecursion.{All-take as all-front, Decides-by_and}
use Rattle.std.proofs.lemmas.Bool.Decides.{Decides-and, Decides-eqb}
use Rattle.channel.specs.Meaning.{answered}
use Rattle.recovery.specs.Codec.{Codec, word_label}
use Rattle.ends.specs.Senders.{is_idle}
use Rattle.recovery.specs.State.{fits, all_fit, in_sight}
use Rattle.ends.specs.declared.sender.State.{State}
use Rattle.ends.specs.declared.sender.State.TheVariants.{Idle, UnderWay}
use Rattle.recovery.proofs.Model.{View, is_clean}

pub not_both : {s : State} → s ≡ UnderWay → s ≡ Idle → ⊥
not_both h k = let z : ◌≡◌ {A = ℕ} 0 1 = cc in omega arith

-- The next label: one more, or 0 after the last.
pub next_label : (K x : ℕ) → x < K → ((x + 1 < K) × ((x + 1) % K ≡ x + 1)) ⊎ ((x + 1 ≡ K) × ((x + 1) % K ≡ 0))
next_label K x h = go (dec_lt (x + 1) K)
  where
    go : Dec (x + 1 < K) → ((x + 1 < K) × ((x + 1) % K ≡ x + 1)) ⊎ ((x + 1 ≡ K) × ((x + 1) % K ≡ 0))
    go (yes i) = inl (i, mod-eq_of_lt i)
    go (no i) = let e : x + 1 ≡ K = omega arith in inr (e, rw e (mod_self K))

pub next-other : (K x : ℕ) → x < K → 2 ≤ K → x ≢ (x + 1) % K
next-other K x h k e = elim (next_label K x h) [ inl u ↦ omega arith | inr u ↦ omega arith ]

-- A word is spoilt or carries the label x; and it does not carry the label x.
abbrev pub Agrees : ℕ → Option ℕ → Type 0
Agrees x o = (y : ℕ) → o ≡ Some y → y ≡ x

abbrev pub Lacks : ℕ → Option ℕ → Type 0
Lacks x o = o ≢ Some x

pub some_same : {A : Type 0} {o : Option A} {a b : A} → o ≡ Some a → o ≡ Some b → a ≡ b
some_same h k = cc

pub some-none : {A : Type 0} {o : Option A} {a : A} → o ≡ Some a → o ≡ None → ⊥
some-none h k = let z : ◌≡◌ {A = ℕ} 0 1 = cc in omega arith

pub agrees_some : {x y : ℕ} {o : Option ℕ} → o ≡ Some y → y ≡ x → Agrees x o
agrees_some h e z k = some_same k h ∙ e

pub lacks_some : {x y : ℕ} {o : Option ℕ} → o ≡ Some y → y ≢ x → Lacks x o
lacks_some h n k = n (some_same h k)

pub agrees_lacks : {x y : ℕ} {o : Option ℕ} → y ≢ x → Agrees y o → Lacks x o
agrees_lacks n h k = n (sym (h _ k))

-- Clean, over all the words.
module _ {Rec : Type 0} (C : Codec Rec) where
  pub record Quiet (v : View Rec) : Type 0 where
    pub idle : v.state ≡ Idle
    pub agreed : v.other ≡ v.own
    pub forward : All (λ w. Agrees v.own (word_label C w)) v.forward.contents
    pub back : All (λ w. Agrees v.own (C.read_ack w)) v.back.contents

  decides_idle : (s : State) → Decides (is_idle s) (s ≡ Idle)
  decides_idle Idle = (λ _. refl, λ _. refl)
  decides_idle UnderWay = (λ h. absurd (let z : ◌≡◌ {A = ℕ} 0 1 = cc in omega arith), λ h. absurd (not_both refl h))

  decides_fits : (x : ℕ) (o : Option ℕ) → Decides (fits x o) (Agrees x o)
  decides_fits x None = (λ _ y e. absurd (some-none e refl), λ _. refl)
  decides_fits x (Some z) = (λ h. agrees_some refl (eqb-true z x h), λ h. eq-eqb z x (h z refl))

  decides_all : (read : ℕ → Option ℕ) (x : ℕ) (ws : List ℕ) → Decides (all_fit read x ws) (All (λ w. Agrees x (read w)) ws)
  decides_all read x =
      Decides-by_and (λ w. fits x (read w)) (λ w. Agrees x (read w)) (all_fit read x) (λ w. decides_fits x (read w)) refl (λ _ _. refl)

  decides_clean : (v : View Rec) →
      Decides (is_clean C v) ((v.state ≡ Idle) × ((v.other ≡ v.own) × (All (λ w. Agrees v.own (word_label C w)) (in_sight v.forward) × All (λ w. Agrees v.own (C.read_ack w)) (in_sight v.back))))
  decides_clean v =
      Decides-and _ _ (decides_idle v.state)
      (Decides-and _ _ (Decides-eqb v.other v.own) (Decides-and _ _ (decides_all (word_label C) v.own (in_sight v.forward)) (decides_all C.read_ack v.own (in_sight v.back))))

  pub quiet-clean : (v : View Rec) → Quiet v → is_clean C v ≡ true
  quiet-clean v q = (decides_clean v).1 (q.idle, (q.agreed, (all-front _ _ _ q.forward, all-front _ _ _ q.back)))

  pub clean-quiet : (v : View Rec) → length v.forward.contents ≤ 65535 → length v.back.contents ≤ 65535 → is_clean C v ≡ true → Quiet v
  clean-quiet v h k e =
      let d = (decides_clean v).0 e in
      let f : length v.forward.contents ≤ answered (length v.forward.contents) = omega arith in
      let b : length v.back.contents ≤ answered (length v.back.contents) = omega arith in
      record {
        idle = d.0;
        agreed = d.1.0;
        forward = rw (take_all _ v.forward.contents f) at d.1.1.0;
        back = rw (take_all _ v.back.contents b) at d.1.1.1;
      }
