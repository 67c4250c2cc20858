-- The six calls on a link: what each answers, and which state it leaves. Assumes nothing.
use Rattle.std.specs.Prelude.{◌≡◌, ℕ, ◌≢◌, ◌⊎◌, Some, None, Ok, Err}
use Rattle.wire.specs.Refusals.{Answer}
use Rattle.wire.specs.declared.refusal.Refusal.{Refusal}
use Rattle.wire.specs.declared.refusal.Refusal.TheVariants as refusal
use Rattle.channel.specs.Meaning.{Behaviour}
use Rattle.recovery.specs.Codec.{Codec}
use Rattle.recovery.specs.State.{LinkState, codec_of, senders_label, receivers_label}
use Rattle.recovery.specs.Changes.{over, offered, delivered, settled}
use Rattle.ends.specs.declared.sender.State.TheVariants.{Idle, UnderWay}

module _ {Config Rec F B : Type 0} (codec : Config → Codec Rec) (X : Behaviour F) (Y : Behaviour B) where
  abbrev Link : Type 0
  Link = LinkState Config Rec F B

  -- Offer a record: refused while one is under way.
  pub data Offer (l : Link) (r : Rec) : Answer → Link → Type 0 where
    busy : l.sender.state ≡ UnderWay → Offer l r (Err refusal.Busy) l
    accepted : l.sender.state ≡ Idle → Offer l r (Ok tt) (offered codec l r)

  -- Send the record in hand: refused when idle; otherwise its word is put forward, and the answer is put's.
  pub data Send (l : Link) : Answer → Link → Type 0 where
    idle : l.sender.state ≡ Idle → Send l (Err refusal.Idle) l
    sent : {a : Answer} {f : F} → l.sender.state ≡ UnderWay →
        X.puts l.forward ((codec_of codec l).send_word (senders_label codec l) l.sender.in_hand) a f →
        Send l a (over l f l.back)

  -- Hear a word: nothing to hear; a spoilt word; a repeat, with the receiver's own label; or a delivery, whose label the receiver
  -- adopts. Repeat and delivery are acknowledged, and stand if that is refused. The two answers are what was heard, and what the
  -- reply's put answered.
  pub data Hear (l : Link) : Answer → Answer → Link → Type 0 where
    silent : {e : Refusal} {f : F} → X.takes l.forward (Err e) f →
        Hear l (Err refusal.Silent) (Err refusal.Silent) (over l f l.back)
    spoilt : {w : ℕ} {f : F} → X.takes l.forward (Ok w) f →
        (codec_of codec l).read_word w ≡ None →
        Hear l (Err refusal.Spoilt) (Err refusal.Silent) (over l f l.back)
    repeated : {w : ℕ} {r : Rec} {a : Answer} {f : F} {b : B} → X.takes l.forward (Ok w) f →
        (codec_of codec l).read_word w ≡ Some (receivers_label codec l, r) →
        Y.puts l.back ((codec_of codec l).ack_word (receivers_label codec l)) a b →
        Hear l (Err refusal.Repeat) a (over l f b)
    adopted : {w x : ℕ} {r : Rec} {a : Answer} {f : F} {b : B} → X.takes l.forward (Ok w) f →
        (codec_of codec l).read_word w ≡ Some (x, r) → x ≢ receivers_label codec l →
        Y.puts l.back ((codec_of codec l).ack_word x) a b →
        Hear l (Ok tt) a (delivered l x r f b)

  -- Settle an acknowledgement: nothing there; a spoilt word; under way and with the sender's label, it completes the exchange; any
  -- other is stale.
  pub data Settle (l : Link) : Answer → Link → Type 0 where
    silent : {e : Refusal} {b : B} → Y.takes l.back (Err e) b →
        Settle l (Err refusal.Silent) (over l l.forward b)
    spoilt : {w : ℕ} {b : B} → Y.takes l.back (Ok w) b →
        (codec_of codec l).read_ack w ≡ None →
        Settle l (Err refusal.Spoilt) (over l l.forward b)
    stale : {w x : ℕ} {b : B} → Y.takes l.back (Ok w) b →
        (codec_of codec l).read_ack w ≡ Some x → (l.sender.state ≡ Idle) ⊎ (x ≢ senders_label codec l) →
        Settle l (Err refusal.Stale) (over l l.forward b)
    completed : {w : ℕ} {b : B} → Y.takes l.back (Ok w) b →
        (codec_of codec l).read_ack w ≡ Some (senders_label codec l) → l.sender.state ≡ UnderWay →
        Settle l (Ok tt) (settled codec X Y l b)

  -- Tick both channels.
  pub data Ticks (l : Link) : Answer → Link → Type 0 where
    ticked : {f : F} {b : B} → X.ticks l.forward f → Y.ticks l.back b → Ticks l (Ok tt) (over l f b)

  -- A round: send, hear, settle and tick, in turn. It answers what the first three answer.
  pub data Round (l : Link) : Answer → Answer → Answer → Answer → Link → Type 0 where
    in_turn : {a h c d e : Answer} {m₁ m₂ m₃ m₄ : Link} → Send l a m₁ → Hear m₁ h c m₂ → Settle m₂ d m₃ → Ticks m₃ e m₄ →
        Round l a h c d m₄
