-- The steps of a link, from what its calls compute. Assumes nothing.
use Rattle.std.proofs.Common.{◌≡◌, ℕ, Bool, true, false, not, eqb, ◌≢◌, ◌⊎◌, Some, Ok, Err, sym, refl, ap, ◌∙◌, subst, ap₂, inl, inr, ⊎_elim, arith, eqb-true}
use borrow.Author.Tests.{eqb-false}
use Rattle.wire.specs.Refusals.{Answer}
use Rattle.wire.specs.declared.refusal.Refusal.{Refusal}
use Rattle.wire.specs.declared.refusal.Refusal.TheVariants as refusal
use Rattle.channel.specs.Meaning.{Behaviour}
use Rattle.recovery.specs.Codec.{Codec}
use Rattle.ends.specs.Senders.{is_idle, decided}
use Rattle.recovery.specs.State.{LinkState, codec_of, senders_label, receivers_label, clean}
use Rattle.ends.specs.Observers.{observed}
use Rattle.recovery.specs.Changes.{over, offered, delivered, rested}
use Rattle.recovery.specs.Steps as steps
use Rattle.recovery.specs.Steps.{Offer, Send, Hear, Settle, Ticks, Round}
use Rattle.ends.specs.declared.observer.Observer.{Observer}
use Rattle.ends.specs.declared.sender.State.{State}
use Rattle.ends.specs.declared.sender.State.TheVariants.{Idle, UnderWay}

-- what a decision tells
completed_by : (s : State) (x n : ℕ) → Ok tt ≡ decided s (eqb x n) → (s ≡ UnderWay) × (x ≡ n)
completed_by Idle x n e = absurd (let z : ◌≡◌ {A = ℕ} 0 1 = cc in omega arith)
completed_by UnderWay x n e = (refl, at (eqb x n) refl e)
  where
    at : (b : Bool) → eqb x n ≡ b → Ok tt ≡ decided UnderWay b → x ≡ n
    at true same k = eqb-true x n same
    at false same k = absurd (let z : ◌≡◌ {A = ℕ} 0 1 = cc in omega arith)

stale_by : (s : State) (x n : ℕ) (e : Refusal) → Err e ≡ decided s (eqb x n) → (e ≡ refusal.Stale) × ((s ≡ Idle) ⊎ (x ≢ n))
stale_by Idle x n e k = (cc, inl refl)
stale_by UnderWay x n e k = at (eqb x n) refl k
  where
    at : (b : Bool) → eqb x n ≡ b → Err e ≡ decided UnderWay b → (e ≡ refusal.Stale) × ((UnderWay ≡ Idle) ⊎ (x ≢ n))
    at true same k = absurd (let z : ◌≡◌ {A = ℕ} 0 1 = cc in omega arith)
    at false same k = (cc, inr (eqb-false x n same))

pub busy_state : (s : State) → true ≡ not (is_idle s) → s ≡ UnderWay
busy_state Idle e = absurd (let z : ◌≡◌ {A = ℕ} 0 1 = cc in omega arith)
busy_state UnderWay e = refl

pub idle_state : (s : State) → false ≡ not (is_idle s) → s ≡ Idle
idle_state Idle e = refl
idle_state UnderWay e = absurd (let z : ◌≡◌ {A = ℕ} 0 1 = cc in omega arith)

module _ {Config Rec F B : Type 0} (codec : Config → Codec Rec) (X : Behaviour F) (Y : Behaviour B) (l : LinkState Config Rec F B) where
  pub offer_done : (r : Rec) (m : LinkState Config Rec F B) → false ≡ not (is_idle l.sender.state) → m ≡ offered codec l r → Offer codec X Y l r (Ok tt) m
  offer_done r m idle e = subst (Offer codec X Y l r (Ok tt)) (sym e) (steps.accepted (idle_state l.sender.state idle))

  pub send_done : (w : ℕ) (a : Answer) (f : F) (m : LinkState Config Rec F B) → true ≡ not (is_idle l.sender.state) → w ≡ (codec_of codec l).send_word (senders_label codec l) l.sender.in_hand
      → X.puts l.forward w a f → m ≡ over l f l.back → Send codec X Y l a m
  send_done w a f m busy word put e =
      subst (Send codec X Y l a) (sym e) (steps.sent (busy_state l.sender.state busy) (subst (λ v. X.puts l.forward v a f) word put))

  -- the reply was put, and m is the link after it
  module _ (w x : ℕ) (r : Rec) (a : Answer) (f : F) (b : B) (m : LinkState Config Rec F B) (take : X.takes l.forward (Ok w) f) (reads : Some (x, r) ≡ (codec_of codec l).read_word w)
      (put : Y.puts l.back ((codec_of codec l).ack_word x) a b) (replied : m ≡ over l f b) where
    pub hear_repeat : true ≡ eqb x (receivers_label codec m) → Hear codec X Y l (Err refusal.Repeat) a m
    hear_repeat test =
        let same : x ≡ receivers_label codec l = eqb-true x (receivers_label codec m) (sym test) ∙ ap (receivers_label codec) replied in
        subst (Hear codec X Y l (Err refusal.Repeat) a) (sym replied)
        (steps.repeated take (sym (subst (λ y. Some (y, r) ≡ (codec_of codec l).read_word w) same reads)) (subst (λ y. Y.puts l.back ((codec_of codec l).ack_word y) a b) same put))

    pub hear_new : (n : LinkState Config Rec F B) → false ≡ eqb x (receivers_label codec m) → n ≡ delivered m x r m.forward m.back → Hear codec X Y l (Ok tt) a n
    hear_new n test adopted =
        let new : x ≢ receivers_label codec l = λ e. eqb-false x (receivers_label codec m) (sym test) (e ∙ sym (ap (receivers_label codec) replied)) in
        subst (Hear codec X Y l (Ok tt) a) (sym (adopted ∙ ap (λ k. delivered k x r k.forward k.back) replied)) (steps.adopted take (sym reads) new put)

  pub settle_stale : (w x n : ℕ) (b : B) (e : Refusal) → Y.takes l.back (Ok w) b → Some x ≡ (codec_of codec l).read_ack w → n ≡ senders_label codec l → Err e ≡ decided l.sender.state (eqb x n)
      → Settle codec X Y l (Err e) (over l l.forward b)
  settle_stale w x n b e take reads own d =
      let why = stale_by l.sender.state x n e d in
      subst (λ r. Settle codec X Y l (Err r) (over l l.forward b)) (sym why.0) (steps.Settle.stale take (sym reads) (⊎_elim inl (λ ne. inr (λ k. ne (k ∙ sym own))) why.1))

  -- another observer
  abbrev watched : LinkState Config Rec F B → Observer → LinkState Config Rec F B
  watched m o = record { config = m.config; sender = m.sender; receiver = m.receiver; forward = m.forward; back = m.back; observer = o }

  pub settle_done : (w x n : ℕ) (b : B) (mark : Bool) (o : Observer) (m : LinkState Config Rec F B) → Y.takes l.back (Ok w) b → Some x ≡ (codec_of codec l).read_ack w → n ≡ senders_label codec l
      → Ok tt ≡ decided l.sender.state (eqb x n) → m ≡ rested l b l.observer → mark ≡ clean codec X Y m → o ≡ observed mark m.observer → Settle codec X Y l (Ok tt) (watched m o)
  settle_done w x n b mark o m take reads own d rest cleaned noted =
      let by = completed_by l.sender.state x n d in
      let marked : mark ≡ clean codec X Y (rested l b l.observer) = cleaned ∙ ap (clean codec X Y) rest in
      let count : o ≡ observed (clean codec X Y (rested l b l.observer)) l.observer = noted ∙ ap₂ observed marked (ap (λ k. k.observer) rest) in
      let label : (codec_of codec l).read_ack w ≡ Some (senders_label codec l) = sym reads ∙ ap Some (by.1 ∙ own) in
      subst (Settle codec X Y l (Ok tt)) (sym (ap₂ watched rest count)) (steps.completed take label by.0)

  pub tick_done : (f : F) (b : B) (m : LinkState Config Rec F B) → X.ticks l.forward f → Y.ticks l.back b → m ≡ over l f b → Ticks codec X Y l (Ok tt) m
  tick_done f b m s t e = subst (Ticks codec X Y l (Ok tt)) (sym e) (steps.ticked s t)
