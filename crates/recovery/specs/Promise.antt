-- The promise: a link past its check recovers, whatever state its ends and channels are in. Assumes nothing.
use Rattle.std.specs.Prelude.{◌≡◌, ℕ, ◌≤◌, true, [], Ok}
use Rattle.channel.specs.Meaning.{Behaviour}
use Rattle.recovery.specs.Codec.{Codec, CodecLaws, AllowsAll}
use Rattle.recovery.specs.State.{LinkState, codec_of}
use Rattle.recovery.specs.Check.{checked_link}
use Rattle.recovery.specs.Tallies.{reported}
use Rattle.recovery.specs.Findings.{Recovers}

module _ {Config Rec F B : Type 0} (codec : Config → Codec Rec) (X : Behaviour F) (Y : Behaviour B) where
  -- A link at its handover: its check answers no refusal, nothing was observed yet, and its record in hand may be sent.
  pub record HandedOver (largest : ℕ) (l : LinkState Config Rec F B) : Type 0 where
    pub checked : checked_link codec X Y largest l ≡ Ok tt
    pub observer : l.observer ≡ reported []
    pub in_hand : (codec_of codec l).allows l.sender.in_hand ≡ true

-- Over channels of these two sorts, with records of this type: every link recovers that is handed over, whatever codec it holds, if
-- that keeps the laws and allows every record. The largest label count that the check takes may be any number of 16 bits.
abbrev pub Promise : {F B : Type 0} → Type 0 → Behaviour F → Behaviour B → Type 0
Promise {F} {B} Rec X Y =
    (largest : ℕ) → largest ≤ 65535 → (l : LinkState (Codec Rec) Rec F B) → CodecLaws l.config → AllowsAll l.config →
    HandedOver (λ C. C) X Y largest l → Recovers (λ C. C) X Y l
