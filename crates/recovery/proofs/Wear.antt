-- A channel keeps its capacity and its delay, and its losses left only fall. So a link that has passed its check passes it ever after.
-- Assumes nothing.
use Rattle.std.proofs.Common.{◌≡◌, ℕ, ◌+◌, ◌≤◌, Bool, true, false, ◌&&◌, leb, List, Ok, Err, Result, refl, ap, ◌∙◌, arith, le-leb, leb-true}
use Rattle.std.proofs.lemmas.Bool.{and_from, and_parts}
use Rattle.wire.specs.declared.refusal.Refusal.{Refusal}
use Rattle.channel.specs.Meaning.{Meaning, Behaviour, answered}
use Rattle.channel.specs.Rules.{SameWire, Take}
use Rattle.channel.proofs.Kept.{RulesOn}
use Rattle.recovery.specs.Codec.{Codec}
use Rattle.recovery.specs.State.{LinkState, codec_of}
use Rattle.recovery.specs.Check.{in_span, places, verdict, checked, checked_link}
use Rattle.recovery.specs.Runs.{Event, Run}
use Rattle.recovery.proofs.Channels.{PutCase, put_case, tick-losses, refused, kept, lost}
use Rattle.recovery.proofs.Simulation.{run-keeps, run-known}

-- The same channel later.
pub record Worn (m n : Meaning) : Type 0 where
  pub capacity : n.capacity ≡ m.capacity
  pub delay : n.delay ≡ m.delay
  pub losses : n.losses ≤ m.losses

pub worn_same : (m : Meaning) → Worn m m
worn_same m = record { capacity = refl; delay = refl; losses = omega arith }

later : {m n o : Meaning} → Worn m n → Worn n o → Worn m o
later p q = record { capacity = q.capacity ∙ p.capacity; delay = q.delay ∙ p.delay; losses = omega (arith, p.losses, q.losses) }

equal_worn : {m n : Meaning} → n ≡ m → Worn m n
equal_worn e = record { capacity = ap (λ (k : Meaning). k.capacity) e; delay = ap (λ (k : Meaning). k.delay) e; losses = let h = ap (λ (k : Meaning). k.losses) e in omega arith }

wire_worn : {m n : Meaning} → SameWire m n → n.losses ≤ m.losses → Worn m n
wire_worn s h = record { capacity = s.capacity; delay = s.delay; losses = h }

case_worn : {m n : Meaning} {w : ℕ} → PutCase m w n → Worn m n
case_worn (refused o) = worn_same _
case_worn (kept s u e i) = wire_worn s (omega arith)
case_worn (lost s e i) = wire_worn s (omega arith)

take_worn : (m : Meaning) (r : Result ℕ Refusal) (n : Meaning) → Take m r n → Worn m n
take_worn m (Ok w) n h = wire_worn h.wire (omega (arith, h.losses))
take_worn m (Err e) n h = equal_worn h.2

-- What a channel has kept since it meant m, it keeps.
pub rules_worn : {C : Type 0} {P : C → Type 0} {X : Behaviour C} → RulesOn P X → (m : Meaning) → RulesOn (λ s. P s × Worn m (X.means s)) X
rules_worn x m = record {
  standing = λ s k. x.standing s k.0;
  put = λ s w r t k h. let p = x.put s w r t k.0 h in (p.0, (p.1, later k.1 (case_worn (put_case _ _ _ _ p.0))));
  take = λ s r t k h. let p = x.take s r t k.0 h in (p.0, (p.1, later k.1 (take_worn _ _ _ p.0)));
  tick = λ s t k h. let p = x.tick s t k.0 h in (p.0, (p.1, later k.1 (wire_worn p.0.wire (tick-losses p.0))));
}

span_worn : {m n : Meaning} → Worn m n → in_span m ≡ true → in_span n ≡ true
span_worn {m} {n} w h =
    let p = and_parts (leb (answered m.delay) 100) (leb (answered m.losses) 100) h in
    and_from (leb (answered n.delay) 100) (leb (answered n.losses) 100)
    (le-leb _ _ (omega (arith, leb-true _ _ p.0, w.delay)))
    (le-leb _ _ (omega (arith, leb-true _ _ p.1, w.losses)))

verdict_parts : (span labels : Bool) → verdict span labels ≡ Ok tt → (span ≡ true) × (labels ≡ true)
verdict_parts false labels e = absurd (let z : ◌≡◌ {A = ℕ} 0 1 = cc in omega arith)
verdict_parts true false e = absurd (let z : ◌≡◌ {A = ℕ} 0 1 = cc in omega arith)
verdict_parts true true e = (refl, refl)

verdict-from : (span labels : Bool) → span ≡ true → labels ≡ true → verdict span labels ≡ Ok tt
verdict-from true true p q = refl
verdict-from true false p q = absurd (let z : ◌≡◌ {A = ℕ} 0 1 = cc in omega arith)
verdict-from false labels p q = absurd (let z : ◌≡◌ {A = ℕ} 0 1 = cc in omega arith)

pub checked_worn : (largest labels : ℕ) {f b f' b' : Meaning} → Worn f f' → Worn b b' → checked largest labels f b ≡ Ok tt → checked largest labels f' b' ≡ Ok tt
checked_worn largest labels {f} {b} {f'} {b'} p q h =
    let parts = verdict_parts _ _ h in
    let spans = and_parts (in_span f) (in_span b) parts.0 in
    let counts = and_parts (leb (places f b + 2) labels) (leb labels largest) parts.1 in
    verdict-from (in_span f' && in_span b') (leb (places f' b' + 2) labels && leb labels largest)
    (and_from (in_span f') (in_span b') (span_worn p spans.0) (span_worn q spans.1))
    (and_from (leb (places f' b' + 2) labels) (leb labels largest) (le-leb _ _ (omega (arith, leb-true _ _ counts.0, p.capacity, q.capacity))) counts.1)

module _ {Config Rec F B : Type 0} (codec : Config → Codec Rec) (X : Behaviour F) (Y : Behaviour B) {P : F → Type 0} {Q : B → Type 0} (x : RulesOn P X) (y : RulesOn Q Y) where
  -- A link that has passed its check passes it after every run.
  pub check-stays : (largest : ℕ) {l m : LinkState Config Rec F B} {es : List (Event Rec)} → P l.forward × Q l.back → Run codec X Y l es m →
      checked_link codec X Y largest l ≡ Ok tt → checked_link codec X Y largest m ≡ Ok tt
  check-stays largest {l} {m} k r h =
      let f = X.means l.forward in
      let b = Y.means l.back in
      let known = run-known codec X Y (rules_worn x f) (rules_worn y b) ((k.0, worn_same f), (k.1, worn_same b)) r in
      ap (λ c. checked largest (codec c).labels (X.means m.forward) (Y.means m.back)) (run-keeps codec X Y x y r)
      ∙ checked_worn largest (codec_of codec l).labels known.0.1 known.1.1 h
