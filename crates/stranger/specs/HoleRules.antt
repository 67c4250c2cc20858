-- A pigeonhole keeps the channel rules. Assumes nothing.
use Rattle.std.specs.Prelude.{◌≡◌, ℕ, ◌+◌, ◌-◌, ◌≤◌, Bool, true, false, [], ◌∷◌, length, Some, None, Ok, Err, MatchBool, Option, Result, ◌==◌, nat_lt, refl}
use Rattle.std.proofs.Common.{sym, ap, subst, subst₂, inl, inr, arith, eqb-true}
use Rattle.std.proofs.lemmas.Bool.{eqb-false}
use Rattle.wire.specs.Refusals.{Answer}
use Rattle.wire.specs.declared.refusal.Refusal.{Refusal}
use Rattle.wire.specs.declared.refusal.Refusal.TheVariants.{Silent}
use Rattle.channel.specs.Meaning.{Standing}
use Rattle.channel.specs.Rules.{Put, Take, Tick, ChannelRules}
use Rattle.channel.specs.Rules.Sublist.{none, drop}
use Rattle.channel.specs.Sublists.{sublist_all}
use Rattle.channel.specs.WaitRules.{wait-counted}
use Rattle.stranger.specs.Holes.{hole_meaning, hole_means, HolePut, HoleTake, HoleTick, hole_behaviour}

hole_standing : (word : Option ℕ) (wait delay leaks : ℕ) → wait ≤ delay → Standing (hole_meaning word wait delay leaks)
hole_standing None wait delay leaks h = record { room = omega arith; within = omega arith; soon = omega arith; still = λ _. refl; free = λ _. refl; full = λ e. absurd (omega arith) }
hole_standing (Some w) wait delay leaks h = record { room = omega arith; within = omega arith; soon = h; still = λ e. absurd (omega (arith, ap length e)); free = λ e. absurd (omega (arith, ap length e)); full = λ _. refl }

-- what leads from a state on goes on from equal ones
module _ (P : Option ℕ → ℕ → Type 0) where
  at : {word word' : Option ℕ} {wait wait' : ℕ} → word' ≡ word → wait' ≡ wait → P word wait → P word' wait'
  at e f p = subst₂ P (sym e) (sym f) p

hole_put : (word : Option ℕ) (wait delay leaks w : ℕ) (r : Answer) (word' : Option ℕ) (wait' : ℕ) → HolePut word wait delay w r word' wait' → Put (hole_meaning word wait delay leaks) w r (hole_meaning word' wait' delay leaks)
hole_put None wait delay leaks w r word' wait' h =
    at (λ x n. Put (hole_meaning None wait delay leaks) w r (hole_meaning x n delay leaks)) h.1 h.2
    (subst (λ a. Put (hole_meaning None wait delay leaks) w a (hole_meaning (Some w) delay delay leaks)) (sym h.0) (refl, record { wire = record { capacity = refl; delay = refl }; wait = λ some. absurd (some refl); word = inl (refl, refl) }))
hole_put (Some x) wait delay leaks w r word' wait' h =
    at (λ y n. Put (hole_meaning (Some x) wait delay leaks) w r (hole_meaning y n delay leaks)) h.1 h.2
    (subst (λ a. Put (hole_meaning (Some x) wait delay leaks) w a (hole_meaning (Some x) wait delay leaks)) (sym h.0) (refl, refl, refl))

hole_take : (word : Option ℕ) (wait delay leaks : ℕ) (r : Result ℕ Refusal) (word' : Option ℕ) (wait' : ℕ) → HoleTake word wait r word' wait' → Take (hole_meaning word wait delay leaks) r (hole_meaning word' wait' delay leaks)
hole_take None wait delay leaks r word' wait' h =
    at (λ x n. Take (hole_meaning None wait delay leaks) r (hole_meaning x n delay leaks)) h.1 h.2
    (subst (λ a. Take (hole_meaning None wait delay leaks) a (hole_meaning None wait delay leaks)) (sym h.0) (inl refl, refl, refl))
hole_take (Some w) wait delay leaks r word' wait' h = go (wait == 0) refl h
  where
    go : (b : Bool) → (wait == 0) ≡ b → MatchBool b ((r ≡ Ok w) × (word' ≡ None) × (wait' ≡ wait)) ((r ≡ Err Silent) × (word' ≡ Some w) × (wait' ≡ wait)) → Take (hole_meaning (Some w) wait delay leaks) r (hole_meaning word' wait' delay leaks)
    go true e k =
        at (λ x n. Take (hole_meaning (Some w) wait delay leaks) r (hole_meaning x n delay leaks)) k.1 k.2
        (subst (λ a. Take (hole_meaning (Some w) wait delay leaks) a (hole_meaning None wait delay leaks)) (sym k.0) (record { wire = record { capacity = refl; delay = refl }; ready = eqb-true _ _ e; oldest = refl; losses = refl }))
    go false e k =
        at (λ x n. Take (hole_meaning (Some w) wait delay leaks) r (hole_meaning x n delay leaks)) k.1 k.2
        (subst (λ a. Take (hole_meaning (Some w) wait delay leaks) a (hole_meaning (Some w) wait delay leaks)) (sym k.0) (inr (let late = eqb-false _ _ e in omega arith), refl, refl))

hole_tick : (word : Option ℕ) (wait delay leaks : ℕ) (word' : Option ℕ) (wait' leaks' : ℕ) → HoleTick word wait leaks word' wait' leaks' → Tick (hole_meaning word wait delay leaks) (hole_meaning word' wait' delay leaks')
hole_tick None wait delay leaks word' wait' leaks' h =
    at (λ x n. Tick (hole_meaning None wait delay leaks) (hole_meaning x n delay leaks')) h.0 h.1
    (record { wire = record { capacity = refl; delay = refl }; order = none; losses = omega (arith, h.2); wait = λ _. inl (refl, refl) })
hole_tick (Some w) wait delay leaks word' wait' leaks' h = go (nat_lt 0 leaks) h
  where
    go : (b : Bool) → MatchBool b ((word' ≡ None) × (wait' ≡ wait) × (leaks' + 1 ≡ leaks)) ((word' ≡ Some w) × (wait' ≡ wait - 1) × (leaks' ≡ leaks)) → Tick (hole_meaning (Some w) wait delay leaks) (hole_meaning word' wait' delay leaks')
    go true k =
        at (λ x n. Tick (hole_meaning (Some w) wait delay leaks) (hole_meaning x n delay leaks')) k.0 k.1
        (record { wire = record { capacity = refl; delay = refl }; order = drop none; losses = omega (arith, k.2); wait = λ e. absurd (omega arith) })
    go false k =
        at (λ x n. Tick (hole_meaning (Some w) wait delay leaks) (hole_meaning x n delay leaks')) k.0 k.1
        (record { wire = record { capacity = refl; delay = refl }; order = sublist_all (w ∷ []); losses = omega (arith, k.2); wait = λ _. wait-counted wait (wait - 1) refl })

pub hole_rules : ChannelRules hole_behaviour
hole_rules = record {
  standing = λ s. hole_standing s.word s.wait s.delay s.leaks s.soon;
  put = λ s w r t h. subst₂ (λ d n. Put (hole_means s) w r (hole_meaning t.word t.wait d n)) (sym h.1) (sym h.2) (hole_put s.word s.wait s.delay s.leaks w r t.word t.wait h.0);
  take = λ s r t h. subst₂ (λ d n. Take (hole_means s) r (hole_meaning t.word t.wait d n)) (sym h.1) (sym h.2) (hole_take s.word s.wait s.delay s.leaks r t.word t.wait h.0);
  tick = λ s t h. subst (λ d. Tick (hole_means s) (hole_meaning t.word t.wait d t.leaks)) (sym h.1) (hole_tick s.word s.wait s.delay s.leaks t.word t.wait t.leaks h.0);
}
