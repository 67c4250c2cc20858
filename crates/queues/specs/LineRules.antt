-- A delay line keeps the channel rules. Assumes nothing.
use Rattle.std.specs.Prelude.{◌≡◌, ℕ, ◌+◌, ◌-◌, ◌<◌, ◌≤◌, Bool, true, false, ◌⊎◌, List, [], ◌∷◌, ◌++◌, length, map, All, Result, ◌==◌, ◌≢◌, nat_lt, refl}
use Rattle.std.proofs.Common.{sym, ap, ap₂, subst, subst₂, ◌∙◌, inl, inr, arith, ltb-true, ltb-false, lt-ltb, le-ltb, eqb-true}
use Rattle.std.proofs.lemmas.List.{nil_from_length}
use Rattle.std.proofs.lemmas.List.Elements.{All-head}
use Rattle.std.proofs.lemmas.Bool.{and_parts, and_cases, eqb-false}
use Rattle.wire.specs.Refusals.{Answer}
use Rattle.wire.specs.declared.refusal.Refusal.{Refusal}
use Rattle.channel.specs.Meaning.{Meaning, Standing}
use Rattle.channel.specs.Rules.{Put, Take, Tick, ChannelRules}
use Rattle.channel.specs.Sublists.{sublist_same}
use Rattle.channel.specs.WaitRules.{wait-counted}
use Rattle.queues.specs.declared.line.DelayLine.{DelayLine}
use Rattle.queues.specs.declared.line.Timed.{Timed}
use Rattle.queues.specs.Buffers.{window, held, first}
use Rattle.queues.specs.BufferRules.{length-window, window-map, first_rest}
use Rattle.queues.specs.Lines.{line_words, dues_at, line_dues, line_meaning, line_means, lowered, LinePut, line_ready, LineTake, SameLine, line_behaviour}

first_below : (now delay : ℕ) (items : List Timed) → All (λ item. item.ready ≤ now + delay) items → first (dues_at now items) ≤ delay
first_below now delay [] h = omega arith
first_below now delay (item ∷ items) h = omega (arith, All-head (λ (i : Timed). i.ready ≤ now + delay) item items h)

first-none : (dues : List ℕ) → length dues ≡ 0 → first dues ≡ 0
first-none [] e = refl
first-none (d ∷ ds) e = absurd (omega arith)

first-kept : (dues : List ℕ) (due : ℕ) → (length dues ≢ 0) → first (dues ++ (due ∷ [])) ≡ first dues
first-kept [] due some = absurd (some refl)
first-kept (d ∷ ds) due some = refl

first-lowered : (dues : List ℕ) → first (lowered dues) ≡ first dues - 1
first-lowered [] = refl
first-lowered (d ∷ ds) = refl

pub line-stands : (words dues : List ℕ) (capacity delay : ℕ) → 1 ≤ capacity → length words ≤ capacity → length dues ≡ length words → first dues ≤ delay → Standing (line_meaning words dues capacity delay)
line-stands words dues capacity delay least within same soon = record {
  room = least;
  within = within;
  soon = soon;
  still = λ e. first-none dues (omega (arith, same, ap length e));
  free = λ e. lt-ltb _ _ (omega (arith, ap length e));
  full = λ e. le-ltb _ _ (omega arith);
}

-- the words and their due numbers are the windows of what stands at the places
pub words-window : (s : DelayLine) → window (map (λ item. item.word) s.queue.items) s.queue.head s.queue.load ≡ line_words s
words-window s = window-map (λ item. item.word) s.queue

pub dues-window : (s : DelayLine) → window (map (λ item. item.ready - s.ticks) s.queue.items) s.queue.head s.queue.load ≡ line_dues s
dues-window s = window-map (λ item. item.ready - s.ticks) s.queue

length-words : (s : DelayLine) → length (line_words s) ≡ s.queue.load
length-words s = ap length (sym (words-window s)) ∙ length-window (map (λ item. item.word) s.queue.items) s.queue.head s.queue.load

numbered : (s : DelayLine) → length (line_dues s) ≡ length (line_words s)
numbered s = ap length (sym (dues-window s)) ∙ length-window (map (λ item. item.ready - s.ticks) s.queue.items) s.queue.head s.queue.load ∙ sym (length-words s)

line-standing : (s : DelayLine) → Standing (line_means s)
line-standing s =
    line-stands (line_words s) (line_dues s) s.queue.capacity s.delay s.queue.least (omega (arith, length-words s, s.queue.within)) (numbered s)
    (first_below s.ticks s.delay (held s.queue) s.soon)

-- words and due numbers after a call, at the same capacity and delay
module _ (words dues : List ℕ) (capacity delay : ℕ) (words' dues' : List ℕ) where
  pub line-put : (b : Bool) (w : ℕ) (r : Answer) → length dues ≡ length words → nat_lt (length words) capacity ≡ b → LinePut b words dues delay w r words' dues' → Put (line_meaning words dues capacity delay) w r (line_meaning words' dues' capacity delay)
  line-put true w r same e h =
      let kept : (words ≢ []) → first dues' ≡ first dues = λ some. ap first h.2 ∙ first-kept dues delay (λ z. some (nil_from_length words (sym same ∙ z))) in
      subst (λ a. Put (line_meaning words dues capacity delay) w a (line_meaning words' dues' capacity delay)) (sym h.0)
      (e, record { wire = record { capacity = refl; delay = refl }; wait = kept; word = inl (h.1, refl) })
  line-put false w r same e h =
      subst (λ a. Put (line_meaning words dues capacity delay) w a (line_meaning words' dues' capacity delay)) (sym h.0)
      (e, refl, ap₂ (λ ws ds. line_meaning ws ds capacity delay) h.1 h.2)

  pub line-take : (b : Bool) (r : Result ℕ Refusal) → line_ready words dues ≡ b → LineTake b words dues r words' dues' → Take (line_meaning words dues capacity delay) r (line_meaning words' dues' capacity delay)
  line-take true r e h =
      let both = and_parts (nat_lt 0 (length words)) (first dues == 0) e in
      subst (λ a. Take (line_meaning words dues capacity delay) a (line_meaning words' dues' capacity delay)) (sym h.0)
      (record {
        wire = record { capacity = refl; delay = refl };
        ready = eqb-true _ _ both.1;
        oldest = first_rest words (ltb-true _ _ both.0) ∙ ap (λ ws. first words ∷ ws) (sym h.1);
        losses = refl;
      })
  line-take false r e h =
      subst (λ a. Take (line_meaning words dues capacity delay) a (line_meaning words' dues' capacity delay)) (sym h.0)
      (why (and_cases (nat_lt 0 (length words)) (first dues == 0) e), refl, ap₂ (λ ws ds. line_meaning ws ds capacity delay) h.1 h.2)
    where
      why : ((nat_lt 0 (length words) ≡ false) ⊎ ((first dues == 0) ≡ false)) → ((words ≡ []) ⊎ (0 < first dues))
      why (inl z) = inl (nil_from_length words (omega (arith, ltb-false 0 (length words) z)))
      why (inr z) = inr (let late = eqb-false (first dues) 0 z in omega arith)

  pub line-tick : words' ≡ words → dues' ≡ lowered dues → Tick (line_meaning words dues capacity delay) (line_meaning words' dues' capacity delay)
  line-tick e f = record {
    wire = record { capacity = refl; delay = refl };
    order = sublist_same words' words e;
    losses = ap (λ ws. 0 + length ws) (sym e);
    wait = λ _. wait-counted (first dues) (first dues') (ap first f ∙ first-lowered dues);
  }

-- what holds at the capacity and delay of the first line holds at those of the second
at_same : (s t : DelayLine) (P : Meaning → Type 0) → SameLine s t → P (line_meaning (line_words t) (line_dues t) s.queue.capacity s.delay) → P (line_means t)
at_same s t P h = subst₂ (λ c d. P (line_meaning (line_words t) (line_dues t) c d)) (sym h.0) (sym h.1)

pub line_rules : ChannelRules line_behaviour
line_rules = record {
  standing = line-standing;
  put = λ s w r t h. at_same s t (Put (line_means s) w r) h.1 (line-put (line_words s) (line_dues s) s.queue.capacity s.delay (line_words t) (line_dues t) _ w r (numbered s) refl h.0);
  take = λ s r t h. at_same s t (Take (line_means s) r) h.1 (line-take (line_words s) (line_dues s) s.queue.capacity s.delay (line_words t) (line_dues t) _ r refl h.0);
  tick = λ s t h. at_same s t (Tick (line_means s)) h.1 (line-tick (line_words s) (line_dues s) s.queue.capacity s.delay (line_words t) (line_dues t) h.0.0 h.0.1);
}
