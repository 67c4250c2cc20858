-- A loss layer over any channel keeps the channel rules. Assumes nothing.
use Rattle.std.specs.Prelude.{◌≡◌, ℕ, ◌+◌, Bool, true, false, Ok, Err, Result, refl}
use Rattle.std.proofs.Common.{sym, ap, subst, ◌∙◌, inl, inr, arith}
use Rattle.std.proofs.Math.Path.{subst₃}
use Rattle.wire.specs.Refusals.{Answer}
use Rattle.wire.specs.declared.refusal.Refusal.{Refusal}
use Rattle.channel.specs.Meaning.{Meaning, Standing, Behaviour}
use Rattle.channel.specs.Rules.{SameWire, Put, Take, Tick, ChannelRules}
use Rattle.lossy.specs.declared.loss.Loss.{Loss}
use Rattle.lossy.specs.Patterns.{top_bit, shifted, bit_count}
use Rattle.lossy.specs.PatternRules.{count_kept, count_spent}
use Rattle.lossy.specs.Losses.{losing, lossy, LossPut, loss_behaviour}

pub losing-standing : (more : ℕ) (m : Meaning) → Standing m → Standing (losing more m)
losing-standing more m h = record { room = h.room; within = h.within; soon = h.soon; still = h.still; free = h.free; full = h.full }

losing-wire : (more less : ℕ) (m n : Meaning) → SameWire m n → SameWire (losing more m) (losing less n)
losing-wire more less m n h = record { capacity = h.capacity; delay = h.delay }

-- a word put below, with as many losses left above as before
pub losing-put : (more : ℕ) (m : Meaning) (w : ℕ) (r : Answer) (n : Meaning) → Put m w r n → Put (losing more m) w r (losing more n)
losing-put more m w (Ok u) n h = (
  h.0,
  record {
    wire = losing-wire more more m n h.1.wire;
    wait = h.1.wait;
    word = elim h.1.word [ inl k ↦ inl (k.0, omega arith) | inr k ↦ inr (k.0, omega arith) ];
  },
)
losing-put more m w (Err e) n h = (h.0, h.1, ap (losing more) h.2)

-- a word lost above, with one loss less left
pub losing-lost : (more less : ℕ) (m : Meaning) (w : ℕ) → less + 1 ≡ more → m.is_open ≡ true → Put (losing more m) w (Ok tt) (losing less m)
losing-lost more less m w e o = (o, record { wire = record { capacity = refl; delay = refl }; wait = λ _. refl; word = inr (refl, omega arith) })

pub losing-take : (more : ℕ) (m : Meaning) (r : Result ℕ Refusal) (n : Meaning) → Take m r n → Take (losing more m) r (losing more n)
losing-take more m (Ok w) n h = record { wire = losing-wire more more m n h.wire; ready = h.ready; oldest = h.oldest; losses = ap (λ k. more + k) h.losses }
losing-take more m (Err e) n h = (h.0, h.1, ap (losing more) h.2)

pub losing-tick : (more : ℕ) (m n : Meaning) → Tick m n → Tick (losing more m) (losing more n)
losing-tick more m n h = record { wire = losing-wire more more m n h.wire; order = h.order; losses = omega (arith, h.losses); wait = h.wait }

module _ {C : Type 0} {X : Behaviour C} (rules : ChannelRules X) where
  loss-put : (is_open lost : Bool) (s : Loss C) (w : ℕ) (r : Answer) (t : Loss C) → (X.means s.below).is_open ≡ is_open → top_bit s.pattern ≡ lost → LossPut is_open lost X.puts s w r t → Put (lossy s.pattern (X.means s.below)) w r (lossy t.pattern (X.means t.below))
  loss-put true true s w r t o e h =
      subst₃ (λ a p c. Put (lossy s.pattern (X.means s.below)) w a (lossy p (X.means c))) (sym h.0) (sym h.1) (sym h.2)
      (losing-lost (bit_count 64 s.pattern) (bit_count 64 (shifted s.pattern)) (X.means s.below) w (count_spent s.pattern s.bits e) o)
  loss-put true false s w r t o e h =
      subst (λ left. Put (lossy s.pattern (X.means s.below)) w r (losing left (X.means t.below))) (sym (ap (bit_count 64) h.1 ∙ count_kept s.pattern s.bits e))
      (losing-put (bit_count 64 s.pattern) (X.means s.below) w r (X.means t.below) (rules.put s.below w r t.below h.0))
  loss-put false lost s w r t o e h =
      subst₃ (λ a p c. Put (lossy s.pattern (X.means s.below)) w a (lossy p (X.means c))) (sym h.0) (sym h.1) (sym h.2) (o, refl, refl)

  pub loss_rules : ChannelRules (loss_behaviour X)
  loss_rules = record {
    standing = λ s. losing-standing (bit_count 64 s.pattern) _ (rules.standing s.below);
    put = λ s w r t. loss-put _ _ s w r t refl refl;
    take = λ s r t h.
        subst (λ p. Take (lossy s.pattern (X.means s.below)) r (lossy p (X.means t.below))) (sym h.1)
        (losing-take (bit_count 64 s.pattern) _ r _ (rules.take s.below r t.below h.0));
    tick = λ s t h.
        subst (λ p. Tick (lossy s.pattern (X.means s.below)) (lossy p (X.means t.below))) (sym h.1)
        (losing-tick (bit_count 64 s.pattern) _ _ (rules.tick s.below t.below h.0));
  }
