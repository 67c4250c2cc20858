-- Shapes keep the channel rules as long as they stand: no more words than there is room for, a due number for each word of a line, and
-- patterns of 64 bits. Assumes nothing.
use Rattle.std.proofs.Common.{◌≡◌, ℕ, suc, ◌-◌, ◌^◌, ◌<◌, ◌≤◌, Bool, true, false, ltb, ◌⊎◌, List, [], ◌∷◌, ◌++◌, length, Ok, Err, sym, refl, ap, subst, subst₂, inl, inr, arith, length-append, ltb-true}
use borrow.Author.Tests.{both_ways}
use Rattle.std.specs.List.{AllByRecursion as All}
use Rattle.std.proofs.ByRecursion.{All-push}
use Rattle.wire.specs.Refusals.{Answer}
use Rattle.wire.specs.declared.refusal.Refusal.{Refusal}
use Rattle.channel.specs.Meaning.{Standing}
use Rattle.channel.specs.Rules.{Put, Take, Tick}
use Rattle.channel.proofs.Kept.{RulesOn}
use Rattle.queues.specs.Buffers.{first, rest}
use Rattle.queues.specs.Lines.{line_ready, lowered}
use Rattle.queues.specs.RingRules.{ring-stands, ring-put, ring-take, ring-tick}
use Rattle.queues.specs.LineRules.{line-stands, line-put, line-take, line-tick}
use Rattle.lossy.specs.Patterns.{top_bit, shifted, bit_count}
use Rattle.lossy.specs.PatternRules.{shifted_fits, count_kept, count_spent}
use Rattle.lossy.specs.Losses.{losing, lossy}
use Rattle.lossy.specs.LossRules.{losing-standing, losing-put, losing-lost, losing-take, losing-tick}
use Rattle.relays.specs.Relays.{relayed}
use Rattle.relays.specs.RelayedRules.{some-length, relayed-standing, relayed-put, relayed-take, relayed-rest, relayed-moved}
use Rattle.shapes.specs.Shapes.{Shape, ring, line, loss, relay, means, PutResult, TakeResult, accepted, accepted_below, put, given, take, fallen, moved, tick}
use Rattle.shapes.specs.Moves.{shape_behaviour}

-- every due number is at most the delay
abbrev Soon : ℕ → List ℕ → Type 0
Soon delay dues = All (λ due. due ≤ delay) dues

abbrev pub Stands : Shape → Type 0
Stands (ring words capacity) = (1 ≤ capacity) × (length words ≤ capacity)
Stands (line words dues capacity delay) = (1 ≤ capacity) × (length words ≤ capacity) × (length dues ≡ length words) × Soon delay dues
Stands (loss pattern below) = (pattern < 2 ^ 64) × Stands below
Stands (relay upper lower) = Stands upper × Stands lower

soon-first : (delay : ℕ) (dues : List ℕ) → Soon delay dues → first dues ≤ delay
soon-first delay [] h = omega arith
soon-first delay (d ∷ ds) h = h.0

soon-rest : (delay : ℕ) (dues : List ℕ) → Soon delay dues → Soon delay (rest dues)
soon-rest delay [] h = tt
soon-rest delay (d ∷ ds) h = h.1

soon-lowered : (delay : ℕ) (dues : List ℕ) → Soon delay dues → Soon delay (lowered dues)
soon-lowered delay [] h = tt
soon-lowered delay (d ∷ ds) h = (omega (arith, h.0), soon-lowered delay ds h.1)

length-lowered : (dues : List ℕ) → length (lowered dues) ≡ length dues
length-lowered [] = refl
length-lowered (d ∷ ds) = ap suc (length-lowered ds)

length_rest : (xs : List ℕ) → length (rest xs) ≡ length xs - 1
length_rest [] = refl
length_rest (x ∷ xs) = omega arith

standing : (s : Shape) → Stands s → Standing (means s)
standing (ring words capacity) h = ring-stands words capacity h.0 h.1
standing (line words dues capacity delay) h = line-stands words dues capacity delay h.0 h.1 h.2 (soon-first delay dues h.3)
standing (loss pattern below) h = losing-standing (bit_count 64 pattern) (means below) (standing below h.1)
standing (relay upper lower) h = relayed-standing (means upper) (means lower) (standing upper h.0) (standing lower h.1)

-- a put from one shape to another, and a take
abbrev Puts : Shape → ℕ → PutResult → Type 0
Puts s w p = Put (means s) w p.0 (means p.1) × Stands p.1

abbrev Takes : Shape → TakeResult → Type 0
Takes s t = Take (means s) t.0 (means t.1) × Stands t.1

puts : (s : Shape) (w : ℕ) → Stands s → Puts s w (put s w)
puts (ring words capacity) w h = by (ltb (length words) capacity) refl
  where
    by : (b : Bool) → ltb (length words) capacity ≡ b → Puts (ring words capacity) w (accepted b (ring words capacity) (ring (words ++ (w ∷ [])) capacity))
    by true e = (ring-put words capacity true w (Ok tt) (words ++ (w ∷ [])) e (refl, refl), (h.0, omega (arith, ltb-true _ _ e, length-append words (w ∷ []))))
    by false e = (ring-put words capacity false w _ words e (refl, refl), h)
puts (line words dues capacity delay) w h = by (ltb (length words) capacity) refl
  where
    by : (b : Bool) → ltb (length words) capacity ≡ b → Puts (line words dues capacity delay) w (accepted b (line words dues capacity delay) (line (words ++ (w ∷ [])) (dues ++ (delay ∷ [])) capacity delay))
    by true e = (
      line-put words dues capacity delay (words ++ (w ∷ [])) (dues ++ (delay ∷ [])) true w (Ok tt) h.2 e (refl, refl, refl),
      (h.0, omega (arith, ltb-true _ _ e, length-append words (w ∷ [])), omega (arith, h.2, length-append words (w ∷ []), length-append dues (delay ∷ [])), All-push (λ due. due ≤ delay) dues delay h.3 (omega arith)),
    )
    by false e = (line-put words dues capacity delay words dues false w _ h.2 e (refl, refl, refl), h)
puts (loss pattern below) w h = by (means below).is_open (top_bit pattern) refl refl (puts below w h.1)
  where
    by : (opened lost : Bool) → (means below).is_open ≡ opened → top_bit pattern ≡ lost → Puts below w (put below w) → Puts (loss pattern below) w (accepted_below opened lost pattern below (put below w))
    by true true o e k = (losing-lost (bit_count 64 pattern) (bit_count 64 (shifted pattern)) (means below) w (count_spent pattern h.0 e) o, (shifted_fits pattern, h.1))
    by true false o e k = (
      subst (λ left. Put (lossy pattern (means below)) w (put below w).0 (losing left (means (put below w).1))) (sym (count_kept pattern h.0 e)) (losing-put (bit_count 64 pattern) (means below) w (put below w).0 (means (put below w).1) k.0),
      (shifted_fits pattern, k.1),
    )
    by false lost o e k = ((o, refl, refl), h)
puts (relay upper lower) w h =
    let k = puts upper w h.0 in
    (relayed-put (means upper) (means lower) w (put upper w).0 (means (put upper w).1) k.0, (k.1, h.1))

takes : (s : Shape) → Stands s → Takes s (take s)
takes (ring words capacity) h = by (ltb 0 (length words)) refl
  where
    by : (b : Bool) → ltb 0 (length words) ≡ b → Takes (ring words capacity) (given b (first words) (ring words capacity) (ring (rest words) capacity))
    by true e = (ring-take words capacity true _ (rest words) e (refl, refl), (h.0, omega (arith, h.1, length_rest words)))
    by false e = (ring-take words capacity false _ words e (refl, refl), h)
takes (line words dues capacity delay) h = by (line_ready words dues) refl
  where
    by : (b : Bool) → line_ready words dues ≡ b → Takes (line words dues capacity delay) (given b (first words) (line words dues capacity delay) (line (rest words) (rest dues) capacity delay))
    by true e = (
      line-take words dues capacity delay (rest words) (rest dues) true _ e (refl, refl, refl),
      (h.0, omega (arith, h.1, length_rest words), omega (arith, h.2, length_rest words, length_rest dues), soon-rest delay dues h.3),
    )
    by false e = (line-take words dues capacity delay words dues false _ e (refl, refl, refl), h)
takes (loss pattern below) h =
    let k = takes below h.1 in
    (losing-take (bit_count 64 pattern) (means below) (take below).0 (means (take below).1) k.0, (h.0, k.1))
takes (relay upper lower) h =
    let k = takes lower h.1 in
    (relayed-take (means upper) (means lower) (take lower).0 (means (take lower).1) k.0, (h.0, k.1))

-- a refused put leaves the very same shape
pub put_refused : (s : Shape) (w : ℕ) → Stands s → (e : Refusal) → (put s w).0 ≡ Err e → (put s w).1 ≡ s
put_refused (ring words capacity) w h e = by (ltb (length words) capacity)
  where
    by : (b : Bool) → (accepted b (ring words capacity) (ring (words ++ (w ∷ [])) capacity)).0 ≡ Err e → (accepted b (ring words capacity) (ring (words ++ (w ∷ [])) capacity)).1 ≡ ring words capacity
    by true = λ k. absurd (let z : ◌≡◌ {A = ℕ} 0 1 = cc in omega arith)
    by false = λ k. refl
put_refused (line words dues capacity delay) w h e = by (ltb (length words) capacity)
  where
    by : (b : Bool) → (accepted b (line words dues capacity delay) (line (words ++ (w ∷ [])) (dues ++ (delay ∷ [])) capacity delay)).0 ≡ Err e
        → (accepted b (line words dues capacity delay) (line (words ++ (w ∷ [])) (dues ++ (delay ∷ [])) capacity delay)).1 ≡ line words dues capacity delay
    by true = λ k. absurd (let z : ◌≡◌ {A = ℕ} 0 1 = cc in omega arith)
    by false = λ k. refl
put_refused (loss pattern below) w h e = by (means below).is_open (top_bit pattern) refl
  where
    by : (opened lost : Bool) → (means below).is_open ≡ opened → (accepted_below opened lost pattern below (put below w)).0 ≡ Err e → (accepted_below opened lost pattern below (put below w)).1 ≡ loss pattern below
    by true true o = λ k. absurd (let z : ◌≡◌ {A = ℕ} 0 1 = cc in omega arith)
    by true false o = λ k.
        let closed = subst (λ (a : Answer). Put (means below) w a (means (put below w).1)) k (puts below w h.1).0 in
        absurd (both_ways (means below).is_open closed.0 o)
    by false lost o = λ k. refl
put_refused (relay upper lower) w h e = λ k. ap (λ u. relay u lower) (put_refused upper w h.0 e k)

abbrev Ticks : Shape → Shape → Type 0
Ticks s t = Tick (means s) (means t) × Stands t

-- a relay once both have ticked, to u and l
module _ (upper lower u l : Shape) (hu : Ticks upper u) (hl : Ticks lower l) where
  rests : ((0 < length (means l).contents) ⊎ (((means u).contents ≡ []) ⊎ (0 < (means u).wait))) → Tick (means (relay upper lower)) (relayed (means u) (means l))
  rests k = relayed-rest (means upper) (means lower) (means u) (means l) hu.0 hl.0 k

  falls : (means l).is_open ≡ true → (t : TakeResult) → Takes u t → Ticks (relay upper lower) (relay t.1 (fallen t.0 l))
  falls o (Ok w, v) k = by (put l w).0 (puts l w hl.1)
    where
      by : (a : Answer) → Put (means l) w a (means (put l w).1) × Stands (put l w).1 → Ticks (relay upper lower) (relay v (put l w).1)
      by (Ok x) p = (
        relayed-moved (means upper) (means lower) (means u) (means l) (means v) (means (put l w).1) w hu.0 hl.0 k.0 p.0.1 (standing (put l w).1 p.1),
        (k.1, p.1),
      )
      by (Err e) p = absurd (both_ways (means l).is_open p.0.0 o)
  falls o (Err e, v) k = (subst (λ m. Tick (means (relay upper lower)) (relayed m (means l))) (sym k.0.2) (rests (inr k.0.0)), (k.1, hl.1))

  moves : (opened : Bool) → (means l).is_open ≡ opened → Ticks (relay upper lower) (moved opened u (take u) l)
  moves true o = falls o (take u) (takes u hu.1)
  moves false o = (rests (inl (some-length (means l).contents (λ e. both_ways (means l).is_open o ((standing l hl.1).free e)))), (hu.1, hl.1))

ticks : (s : Shape) → Stands s → Ticks s (tick s)
ticks (ring words capacity) h = (ring-tick words capacity words refl, h)
ticks (line words dues capacity delay) h = (
  line-tick words dues capacity delay words (lowered dues) refl refl,
  (h.0, h.1, omega (arith, h.2, length-lowered dues), soon-lowered delay dues h.3),
)
ticks (loss pattern below) h = let k = ticks below h.1 in (losing-tick (bit_count 64 pattern) (means below) (means (tick below)) k.0, (h.0, k.1))
ticks (relay upper lower) h = moves upper lower (tick upper) (tick lower) (ticks upper h.0) (ticks lower h.1) (means (tick lower)).is_open refl

pub shape_rules : RulesOn Stands shape_behaviour
shape_rules = record {
  standing = standing;
  put = λ s w r t h p. subst₂ (λ a v. Put (means s) w a (means v) × Stands v) (sym p.0) (sym p.1) (puts s w h);
  take = λ s r t h p. subst₂ (λ a v. Take (means s) a (means v) × Stands v) (sym p.0) (sym p.1) (takes s h);
  tick = λ s t h p. subst (λ v. Tick (means s) (means v) × Stands v) (sym p) (ticks s h);
}
