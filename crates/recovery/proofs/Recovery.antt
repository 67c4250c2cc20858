-- The recovery theorem. Assumes nothing.
use Rattle.std.proofs.Common.{◌≡◌, ℕ, ◌+◌, ◌≤◌, true, List, refl, mod-lt, arith}
use Rattle.channel.specs.Meaning.{Behaviour}
use Rattle.channel.specs.Rules.{ChannelRules}
use Rattle.channel.proofs.Kept.{RulesOn, on-all}
use Rattle.recovery.specs.Codec.{Codec, CodecLaws, AllowsAll}
use Rattle.recovery.specs.State.{LinkState, codec_of}
use Rattle.recovery.specs.Runs.{Event, Run}
use Rattle.recovery.specs.Tallies.{completed_in, after_clean}
use Rattle.recovery.specs.Findings.{TurnsClean, InOrder, Completes, Recovers}
use Rattle.recovery.specs.Promise.{HandedOver}
use Rattle.recovery.proofs.Model.{flat}
use Rattle.recovery.proofs.Simulation.{view, Given, Known, run_is, run-keeps, run-known}
use Rattle.recovery.proofs.Wiring.{Wired, wired-all}
use Rattle.recovery.proofs.FirstClean.{from_any_start}
use Rattle.recovery.proofs.Completion.{in_most-rounds}
use Rattle.recovery.proofs.Observed.{reports}
use Rattle.recovery.proofs.PassedCheck.{labels_fit}

module _ {Config Rec F B : Type 0} (codec : Config → Codec Rec) (X : Behaviour F) (Y : Behaviour B) {P : F → Type 0} {Q : B → Type 0} (x : RulesOn P X) (y : RulesOn Q Y) where
  -- The places of the two channels together.
  abbrev pub capacity : LinkState Config Rec F B → ℕ
  capacity l = (X.means l.forward).capacity + (Y.means l.back).capacity

  -- What the theorem needs of a link: one label more than its channels have places, and no more places than an answer can tell.
  pub record Start (l : LinkState Config Rec F B) : Type 0 where
    pub laws : CodecLaws (codec_of codec l)
    pub all : AllowsAll (codec_of codec l)
    pub enough : capacity l + 1 ≤ (codec_of codec l).labels
    pub few : capacity l ≤ 65535
    pub in_hand : (codec_of codec l).allows l.sender.in_hand ≡ true
    pub known : Known codec X Y x y l

  -- What is found of a run, sharper than promised: at most as many exchanges as there are places leave the link unclean.
  pub record Sharp (l : LinkState Config Rec F B) (es : List (Event Rec)) (m : LinkState Config Rec F B) : Type 0 where
    pub turns_clean : TurnsClean (capacity l) (completed_in es)
    pub in_order : InOrder (after_clean es) m.sender
    pub completes : Completes codec X Y m

  pub sharp : (l m : LinkState Config Rec F B) (es : List (Event Rec)) → Start l → Run codec X Y l es m → Sharp l es m
  sharp l m es h r =
      let C = codec_of codec l in
      let forward = X.means l.forward in
      let back = Y.means l.back in
      let two : 2 ≤ C.labels = omega (arith, h.enough, (x.standing l.forward h.known.0).room) in
      let given : Given codec X Y x y l.config = record { laws = h.laws; some = omega arith; all = h.all } in
      let start : Wired C forward.capacity forward.delay back.capacity back.delay (view codec X Y x y C l) =
      record {
        forward = record { is_capacity = refl; is_delay = refl; standing = x.standing l.forward h.known.0 };
        back = record { is_capacity = refl; is_delay = refl; standing = y.standing l.back h.known.1 };
        below = mod-lt l.sender.label (omega arith);
        allowed = h.in_hand;
      } in
      let steps = flat C (run_is codec X Y x y given refl h.known r) in
      let t = from_any_start C h.laws two _ _ _ _ h.enough (omega (arith, h.few)) (omega (arith, h.few)) start steps in
      record {
        turns_clean = record { unclean = t.unclean; clean = t.clean; in_turn = t.completed_clean; soon = omega (arith, t.soon) };
        in_order = record { missing = t.ordered.missing; order = t.ordered.order; last = t.ordered.last };
        completes =
            λ way fs n s enough. in_most-rounds C h.laws _ _ _ _ (wired-all C _ _ _ _ start steps) way (run_is codec X Y x y given (run-keeps codec X Y x y r) (run-known codec X Y x y h.known r) s) enough;
      }

  -- A link past its check recovers.
  pub recovers-on : (largest : ℕ) → largest ≤ 65535 → (l : LinkState Config Rec F B) → CodecLaws (codec_of codec l) → AllowsAll (codec_of codec l) →
      Known codec X Y x y l → HandedOver codec X Y largest l → Recovers codec X Y l
  recovers-on largest small l laws all k h es m r =
      let fit = labels_fit largest (codec_of codec l).labels (X.means l.forward) (Y.means l.back) h.checked in
      let t = sharp l m es (record { laws = laws; all = all; enough = omega arith; few = omega arith; in_hand = h.in_hand; known = k }) r in
      record {
        turns_clean =
            record {
              unclean = t.turns_clean.unclean;
              clean = t.turns_clean.clean;
              in_turn = t.turns_clean.in_turn;
              soon = omega (arith, t.turns_clean.soon);
            };
        observer = reports codec X Y h.observer r;
        in_order = t.in_order;
        completes = t.completes;
      }

-- The promise.
pub recovers : {Config Rec F B : Type 0} (codec : Config → Codec Rec) (X : Behaviour F) (Y : Behaviour B) → ChannelRules X → ChannelRules Y →
    (largest : ℕ) → largest ≤ 65535 → (l : LinkState Config Rec F B) → CodecLaws (codec_of codec l) → AllowsAll (codec_of codec l) →
    HandedOver codec X Y largest l → Recovers codec X Y l
recovers codec X Y x y largest small l laws all h = recovers-on codec X Y (on-all x) (on-all y) largest small l laws all (tt, tt) h
