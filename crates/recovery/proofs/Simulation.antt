-- A run of a link over channels that keep the rules is a run over what its channels mean. Assumes nothing.
use Rattle.std.proofs.Common.{◌≡◌, ℕ, ◌+◌, ◌%◌, ◌<◌, List, [], ◌∷◌, sym, refl, ◌∙◌, subst, inl, inr, mod-lt, mod-eq_of_lt, arith}
use Rattle.wire.specs.Refusals.{Answer}
use Rattle.channel.specs.Meaning.{Meaning, Behaviour}
use Rattle.channel.proofs.Kept.{RulesOn}
use Rattle.recovery.specs.Codec.{Codec, CodecLaws, AllowsAll}
use Rattle.recovery.specs.State.{LinkState}
use Rattle.recovery.specs.Steps as spec
use Rattle.recovery.specs.Runs as runs
use Rattle.recovery.specs.Runs.{Event, in_offer, in_hear, in_settle}
use Rattle.recovery.proofs.Channels.{put_case}
use Rattle.recovery.proofs.Model as model
use Rattle.recovery.proofs.Model.{View, Sound, over, offered, delivered}

module _ {Config Rec F B : Type 0} (codec : Config → Codec Rec) (X : Behaviour F) (Y : Behaviour B) {P : F → Type 0} {Q : B → Type 0} (x : RulesOn P X) (y : RulesOn Q Y) where
  -- Both channels are in states of which the rules are known.
  abbrev pub Known : LinkState Config Rec F B → Type 0
  Known l = P l.forward × Q l.back

  -- A link as the codec C reads its labels.
  abbrev pub view : Codec Rec → LinkState Config Rec F B → View Rec
  view C l =
      record {
        own = l.sender.label % C.labels;
        state = l.sender.state;
        hand = l.sender.in_hand;
        other = l.receiver.label % C.labels;
        forward = X.means l.forward;
        back = Y.means l.back;
      }

  sound : (C : Codec Rec) (l : LinkState Config Rec F B) → Known l → Sound (view C l)
  sound C l k = record { forward = x.standing l.forward k.0; back = y.standing l.back k.1 }

  -- What is known of the codec that a link's configuration gives.
  pub record Given (c : Config) : Type 0 where
    pub laws : CodecLaws (codec c)
    pub some : 0 < (codec c).labels
    pub all : AllowsAll (codec c)

  module _ (l : LinkState Config Rec F B) (g : Given l.config) (k : Known l) where
    abbrev C : Codec Rec
    C = codec l.config

    offer_is : {r : Rec} {a : Answer} {m : LinkState Config Rec F B} → spec.Offer codec X Y l r a m →
        model.Offer C (view C l) (in_offer codec X Y r a) (view C m)
    offer_is (spec.busy i) = model.refused
    offer_is {r = r} (spec.accepted i) =
        let n = l.sender.label % C.labels + 1 in
        subst (λ (z : ℕ). model.Offer C (view C l) (runs.accepts r ∷ []) (offered (view C l) z r)) (sym (mod-eq_of_lt (mod-lt n g.some))) (model.accepted (g.all r) i)

    send_is : {a : Answer} {m : LinkState Config Rec F B} → spec.Send codec X Y l a m → model.Send C (view C l) (view C m)
    send_is (spec.idle i) = model.idle i
    send_is (spec.sent i p) = model.sent i (put_case _ _ _ _ (x.put _ _ _ _ k.0 p).0)

    hear_is : {a c : Answer} {m : LinkState Config Rec F B} → spec.Hear codec X Y l a c m → model.Hear C (view C l) (in_hear codec X Y a m) (view C m)
    hear_is (spec.Hear.silent t) =
        let h = (x.take _ _ _ k.0 t).0 in subst (λ (z : Meaning). model.Hear C (view C l) [] (over (view C l) z (Y.means l.back))) (sym h.2) (model.Hear.silent h.0)
    hear_is (spec.Hear.spoilt t i) = model.spoilt (x.take _ _ _ k.0 t).0 i
    hear_is (spec.repeated t i p) = model.repeated (x.take _ _ _ k.0 t).0 i (put_case _ _ _ _ (y.put _ _ _ _ k.1 p).0)
    hear_is (spec.adopted {w = w} {x = z} {r = r} {f = f} {b = b} t i n p) =
        subst (λ (z' : ℕ). model.Hear C (view C l) (runs.delivers r ∷ []) (delivered (view C l) z' (X.means f) (Y.means b))) (sym (mod-eq_of_lt (g.laws.word_labels w z r i)))
        (model.adopted (x.take _ _ _ k.0 t).0 i n (put_case _ _ _ _ (y.put _ _ _ _ k.1 p).0))

    settle_is : {a : Answer} {m : LinkState Config Rec F B} → spec.Settle codec X Y l a m →
        model.Settle C (view C l) (in_settle codec X Y a m) (view C m)
    settle_is (spec.Settle.silent t) =
        let h = (y.take _ _ _ k.1 t).0 in subst (λ (z : Meaning). model.Settle C (view C l) [] (over (view C l) (X.means l.forward) z)) (sym h.2) (model.Settle.silent h.0)
    settle_is (spec.Settle.spoilt {w = w} t i) = model.discarded (y.take _ _ _ k.1 t).0 (inr (λ e. let z : ◌≡◌ {A = ℕ} 0 1 = cc in omega arith))
    settle_is (spec.stale {w = w} t i (inl s)) = model.discarded (y.take _ _ _ k.1 t).0 (inl s)
    settle_is (spec.stale {w = w} {x = z} t i (inr n)) = model.discarded (y.take _ _ _ k.1 t).0 (inr (λ e. n (cc)))
    settle_is (spec.completed t i s) = model.completed (y.take _ _ _ k.1 t).0 i s

    tick_is : {a : Answer} {m : LinkState Config Rec F B} → spec.Ticks codec X Y l a m → model.Ticks C (view C l) (view C m)
    tick_is (spec.ticked s t) = model.ticked (x.tick _ _ k.0 s).0 (y.tick _ _ k.1 t).0

  -- No call changes the configuration.
  offer-keeps : {l m : LinkState Config Rec F B} {r : Rec} {a : Answer} → spec.Offer codec X Y l r a m → m.config ≡ l.config
  offer-keeps (spec.busy i) = refl
  offer-keeps (spec.accepted i) = refl

  send-keeps : {l m : LinkState Config Rec F B} {a : Answer} → spec.Send codec X Y l a m → m.config ≡ l.config
  send-keeps (spec.idle i) = refl
  send-keeps (spec.sent i p) = refl

  hear-keeps : {l m : LinkState Config Rec F B} {a c : Answer} → spec.Hear codec X Y l a c m → m.config ≡ l.config
  hear-keeps (spec.Hear.silent t) = refl
  hear-keeps (spec.Hear.spoilt t i) = refl
  hear-keeps (spec.repeated t i p) = refl
  hear-keeps (spec.adopted t i n p) = refl

  settle-keeps : {l m : LinkState Config Rec F B} {a : Answer} → spec.Settle codec X Y l a m → m.config ≡ l.config
  settle-keeps (spec.Settle.silent t) = refl
  settle-keeps (spec.Settle.spoilt t i) = refl
  settle-keeps (spec.stale t i o) = refl
  settle-keeps (spec.completed t i s) = refl

  tick-keeps : {l m : LinkState Config Rec F B} {a : Answer} → spec.Ticks codec X Y l a m → m.config ≡ l.config
  tick-keeps (spec.ticked s t) = refl

  pub run-keeps : {l m : LinkState Config Rec F B} {es : List (Event Rec)} → runs.Run codec X Y l es m → m.config ≡ l.config
  run-keeps runs.stop = refl
  run-keeps (runs.Run.offer s r) = run-keeps r ∙ offer-keeps s
  run-keeps (runs.Run.send s r) = run-keeps r ∙ send-keeps s
  run-keeps (runs.Run.hear s r) = run-keeps r ∙ hear-keeps s
  run-keeps (runs.Run.settle s r) = run-keeps r ∙ settle-keeps s
  run-keeps (runs.Run.tick s r) = run-keeps r ∙ tick-keeps s
  run-keeps (runs.Run.round (spec.in_turn s₁ s₂ s₃ s₄) r) = run-keeps r ∙ (tick-keeps s₄ ∙ (settle-keeps s₃ ∙ (hear-keeps s₂ ∙ send-keeps s₁)))

  -- Each call leads to states of which the rules are known.
  offer-known : {l m : LinkState Config Rec F B} {r : Rec} {a : Answer} → Known l → spec.Offer codec X Y l r a m → Known m
  offer-known k (spec.busy i) = k
  offer-known k (spec.accepted i) = k

  send-known : {l m : LinkState Config Rec F B} {a : Answer} → Known l → spec.Send codec X Y l a m → Known m
  send-known k (spec.idle i) = k
  send-known k (spec.sent i p) = ((x.put _ _ _ _ k.0 p).1, k.1)

  hear-known : {l m : LinkState Config Rec F B} {a c : Answer} → Known l → spec.Hear codec X Y l a c m → Known m
  hear-known k (spec.Hear.silent t) = ((x.take _ _ _ k.0 t).1, k.1)
  hear-known k (spec.Hear.spoilt t i) = ((x.take _ _ _ k.0 t).1, k.1)
  hear-known k (spec.repeated t i p) = ((x.take _ _ _ k.0 t).1, (y.put _ _ _ _ k.1 p).1)
  hear-known k (spec.adopted t i n p) = ((x.take _ _ _ k.0 t).1, (y.put _ _ _ _ k.1 p).1)

  settle-known : {l m : LinkState Config Rec F B} {a : Answer} → Known l → spec.Settle codec X Y l a m → Known m
  settle-known k (spec.Settle.silent t) = (k.0, (y.take _ _ _ k.1 t).1)
  settle-known k (spec.Settle.spoilt t i) = (k.0, (y.take _ _ _ k.1 t).1)
  settle-known k (spec.stale t i o) = (k.0, (y.take _ _ _ k.1 t).1)
  settle-known k (spec.completed t i s) = (k.0, (y.take _ _ _ k.1 t).1)

  tick-known : {l m : LinkState Config Rec F B} {a : Answer} → Known l → spec.Ticks codec X Y l a m → Known m
  tick-known k (spec.ticked s t) = ((x.tick _ _ k.0 s).1, (y.tick _ _ k.1 t).1)

  pub run-known : {l m : LinkState Config Rec F B} {es : List (Event Rec)} → Known l → runs.Run codec X Y l es m → Known m
  run-known k runs.stop = k
  run-known k (runs.Run.offer s r) = run-known (offer-known k s) r
  run-known k (runs.Run.send s r) = run-known (send-known k s) r
  run-known k (runs.Run.hear s r) = run-known (hear-known k s) r
  run-known k (runs.Run.settle s r) = run-known (settle-known k s) r
  run-known k (runs.Run.tick s r) = run-known (tick-known k s) r
  run-known k (runs.Run.round (spec.in_turn s₁ s₂ s₃ s₄) r) = run-known (tick-known (settle-known (hear-known (send-known k s₁) s₂) s₃) s₄) r

  -- What a call is at a link's own configuration, it is at an equal one.
  at : {c : Config} (l : LinkState Config Rec F B) (P : Config → Type 0) → l.config ≡ c → Given c → (Given l.config → P l.config) → P c
  at l P e g h = subst P e (h (subst Given (sym e) g))

  module _ {c : Config} (g : Given c) {l m : LinkState Config Rec F B} (e : l.config ≡ c) (k : Known l) where
    offer-at : {r : Rec} {a : Answer} → spec.Offer codec X Y l r a m →
        model.Offer (codec c) (view (codec c) l) (in_offer codec X Y r a) (view (codec c) m)
    offer-at {r = r} {a = a} s =
        at l (λ c. model.Offer (codec c) (view (codec c) l) (in_offer codec X Y r a) (view (codec c) m)) e g (λ h. offer_is l h k s)

    send_at : {a : Answer} → spec.Send codec X Y l a m → model.Send (codec c) (view (codec c) l) (view (codec c) m)
    send_at s = at l (λ c. model.Send (codec c) (view (codec c) l) (view (codec c) m)) e g (λ h. send_is l h k s)

    hear-at : {a b : Answer} → spec.Hear codec X Y l a b m → model.Hear (codec c) (view (codec c) l) (in_hear codec X Y a m) (view (codec c) m)
    hear-at {a = a} s = at l (λ c. model.Hear (codec c) (view (codec c) l) (in_hear codec X Y a m) (view (codec c) m)) e g (λ h. hear_is l h k s)

    settle-at : {a : Answer} → spec.Settle codec X Y l a m → model.Settle (codec c) (view (codec c) l) (in_settle codec X Y a m) (view (codec c) m)
    settle-at {a = a} s = at l (λ c. model.Settle (codec c) (view (codec c) l) (in_settle codec X Y a m) (view (codec c) m)) e g (λ h. settle_is l h k s)

    tick-at : {a : Answer} → spec.Ticks codec X Y l a m → model.Ticks (codec c) (view (codec c) l) (view (codec c) m)
    tick-at s = at l (λ c. model.Ticks (codec c) (view (codec c) l) (view (codec c) m)) e g (λ h. tick_is l h k s)

  pub run_is : {c : Config} {l m : LinkState Config Rec F B} {es : List (Event Rec)} → Given c → l.config ≡ c → Known l → runs.Run codec X Y l es m →
      model.Run (codec c) (view (codec c) l) es (view (codec c) m)
  run_is g e k runs.stop = model.stop
  run_is {c = c} g e k (runs.Run.offer {m = n} s r) =
      let k₁ = offer-known k s in model.Run.offer (offer-at g e k s) (sound (codec c) n k₁) (run_is g (offer-keeps s ∙ e) k₁ r)
  run_is {c = c} g e k (runs.Run.send {m = n} s r) =
      let k₁ = send-known k s in model.Run.send (send_at g e k s) (sound (codec c) n k₁) (run_is g (send-keeps s ∙ e) k₁ r)
  run_is {c = c} g e k (runs.Run.hear {m = n} s r) =
      let k₁ = hear-known k s in model.Run.hear (hear-at g e k s) (sound (codec c) n k₁) (run_is g (hear-keeps s ∙ e) k₁ r)
  run_is {c = c} g e k (runs.Run.settle {m = n} s r) =
      let k₁ = settle-known k s in model.Run.settle (settle-at g e k s) (sound (codec c) n k₁) (run_is g (settle-keeps s ∙ e) k₁ r)
  run_is {c = c} g e k (runs.Run.tick {m = n} s r) =
      let k₁ = tick-known k s in model.Run.tick (tick-at g e k s) (sound (codec c) n k₁) (run_is g (tick-keeps s ∙ e) k₁ r)
  run_is {c = c} g e k (runs.Run.round {m = n₄} (spec.in_turn {m₁ = n₁} {m₂ = n₂} {m₃ = n₃} s₁ s₂ s₃ s₄) r) =
      let e₁ = send-keeps s₁ ∙ e in
      let e₂ = hear-keeps s₂ ∙ e₁ in
      let e₃ = settle-keeps s₃ ∙ e₂ in
      let k₁ = send-known k s₁ in
      let k₂ = hear-known k₁ s₂ in
      let k₃ = settle-known k₂ s₃ in
      let k₄ = tick-known k₃ s₄ in
      model.turn (send_at g e k s₁) (sound (codec c) n₁ k₁) (hear-at g e₁ k₁ s₂) (sound (codec c) n₂ k₂)
      (settle-at g e₂ k₂ s₃) (sound (codec c) n₃ k₃) (tick-at g e₃ k₃ s₄) (sound (codec c) n₄ k₄) (run_is g (tick-keeps s₄ ∙ e₃) k₄ r)
