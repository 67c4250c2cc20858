-- A ring keeps the channel rules. Assumes nothing.
use Rattle.std.specs.Prelude.{◌≡◌, ℕ, ◌+◌, ◌≤◌, Bool, true, false, List, ◌∷◌, length, Result, nat_lt, refl}
use Rattle.std.proofs.Common.{sym, ap, subst, ◌∙◌, inl, arith, ltb-true, ltb-false, lt-ltb, le-ltb}
use Rattle.std.proofs.lemmas.List.{nil_from_length}
use Rattle.wire.specs.Refusals.{Answer}
use Rattle.wire.specs.declared.refusal.Refusal.{Refusal}
use Rattle.channel.specs.Meaning.{Standing}
use Rattle.channel.specs.Rules.{Put, Take, Tick, ChannelRules}
use Rattle.channel.specs.Sublists.{sublist_same}
use Rattle.queues.specs.declared.ring.Ring.{Ring}
use Rattle.queues.specs.Buffers.{first}
use Rattle.queues.specs.BufferRules.{length-window, window-held, first_rest}
use Rattle.queues.specs.Rings.{ring_words, ring_meaning, ring_means, RingPut, RingTake, ring_behaviour}

pub ring-stands : (words : List ℕ) (capacity : ℕ) → 1 ≤ capacity → length words ≤ capacity → Standing (ring_meaning words capacity)
ring-stands words capacity least within = record {
  room = least;
  within = within;
  soon = omega arith;
  still = λ _. refl;
  free = λ e. lt-ltb _ _ (omega (arith, ap length e));
  full = λ e. le-ltb _ _ (omega arith);
}

ring-standing : (s : Ring) → Standing (ring_means s)
ring-standing s = ring-stands (ring_words s) s.queue.capacity s.queue.least (omega (arith, length-window s.queue.items s.queue.head s.queue.load, ap length (window-held s.queue), s.queue.within))

pub ring-put : (words : List ℕ) (capacity : ℕ) (b : Bool) (w : ℕ) (r : Answer) (words' : List ℕ) → nat_lt (length words) capacity ≡ b → RingPut b words w r words' → Put (ring_meaning words capacity) w r (ring_meaning words' capacity)
ring-put words capacity true w r words' e h =
    subst (λ a. Put (ring_meaning words capacity) w a (ring_meaning words' capacity)) (sym h.0)
    (e, record { wire = record { capacity = refl; delay = refl }; wait = λ _. refl; word = inl (h.1, refl) })
ring-put words capacity false w r words' e h =
    subst (λ a. Put (ring_meaning words capacity) w a (ring_meaning words' capacity)) (sym h.0)
    (e, refl, ap (λ ws. ring_meaning ws capacity) h.1)

pub ring-take : (words : List ℕ) (capacity : ℕ) (b : Bool) (r : Result ℕ Refusal) (words' : List ℕ) → nat_lt 0 (length words) ≡ b → RingTake b words r words' → Take (ring_meaning words capacity) r (ring_meaning words' capacity)
ring-take words capacity true r words' e h =
    subst (λ a. Take (ring_meaning words capacity) a (ring_meaning words' capacity)) (sym h.0)
    (record {
      wire = record { capacity = refl; delay = refl };
      ready = refl;
      oldest = first_rest words (ltb-true _ _ e) ∙ ap (λ ws. first words ∷ ws) (sym h.1);
      losses = refl;
    })
ring-take words capacity false r words' e h =
    subst (λ a. Take (ring_meaning words capacity) a (ring_meaning words' capacity)) (sym h.0)
    (inl (nil_from_length words (omega (arith, ltb-false _ _ e))), refl, ap (λ ws. ring_meaning ws capacity) h.1)

pub ring-tick : (words : List ℕ) (capacity : ℕ) (words' : List ℕ) → words' ≡ words → Tick (ring_meaning words capacity) (ring_meaning words' capacity)
ring-tick words capacity words' e = record {
  wire = record { capacity = refl; delay = refl };
  order = sublist_same words' words e;
  losses = ap (λ ws. 0 + length ws) (sym e);
  wait = λ _. inl (refl, refl);
}

pub ring_rules : ChannelRules ring_behaviour
ring_rules = record {
  standing = ring-standing;
  put = λ s w r t h. subst (λ c. Put (ring_means s) w r (ring_meaning (ring_words t) c)) (sym h.1) (ring-put (ring_words s) s.queue.capacity _ w r (ring_words t) refl h.0);
  take = λ s r t h. subst (λ c. Take (ring_means s) r (ring_meaning (ring_words t) c)) (sym h.1) (ring-take (ring_words s) s.queue.capacity _ r (ring_words t) refl h.0);
  tick = λ s t h. subst (λ c. Tick (ring_means s) (ring_meaning (ring_words t) c)) (sym h.1) (ring-tick (ring_words s) s.queue.capacity (ring_words t) h.0);
}
