-- What is found of every run of a link from its handover on. Assumes nothing.
use Rattle.std.specs.Prelude.{◌≡◌, ℕ, ◌+◌, ◌*◌, ◌<◌, ◌≤◌, Bool, true, false, ◌≢◌, ◌⊎◌, List, [], ◌∷◌, ◌++◌, length, replicate}
use Rattle.channel.specs.Meaning.{Meaning, Behaviour}
use Rattle.recovery.specs.Codec.{Codec}
use Rattle.recovery.specs.State.{LinkState}
use Rattle.recovery.specs.Runs.{Event, Run}
use Rattle.recovery.specs.Tallies.{accepted_in, delivered_in, completed_in, rounds_in, after_clean, reported}
use Rattle.ends.specs.declared.sender.Sender.{Sender}
use Rattle.ends.specs.declared.sender.State.TheVariants.{UnderWay}

-- Of the exchanges completed, at first some leave the link unclean, at most so many; each later one leaves it clean.
pub record TurnsClean (most : ℕ) (marks : List Bool) : Type 0 where
  pub unclean : ℕ
  pub clean : ℕ
  pub in_turn : marks ≡ replicate unclean false ++ replicate clean true
  pub soon : unclean ≤ most

-- Where more exchanges are completed than may leave the link unclean, the observer names the first clean one.
abbrev pub NamesFirst : Type 0
NamesFirst =
    (most : ℕ) (marks : List Bool) → TurnsClean most marks → most < length marks →
    (0 < (reported marks).first) × ((reported marks).first ≤ most + 1)

-- The records delivered are the records accepted, each once, in order. Only the last may be missing: the one in hand, while it is
-- under way.
pub record InOrder {Rec : Type 0} (es : List (Event Rec)) (sender : Sender Rec) : Type 0 where
  pub missing : List Rec
  pub order : accepted_in es ≡ delivered_in es ++ missing
  pub last : (missing ≡ []) ⊎ ((sender.state ≡ UnderWay) × (missing ≡ sender.in_hand ∷ []))

-- An exchange under way is completed within so many rounds, where nothing is lost; each loss may cost as many again.
abbrev pub lossless : Meaning → Meaning → ℕ
lossless forward back = (forward.capacity + 2) * (forward.delay + 1) + (back.capacity + 1) * (back.delay + 1)

abbrev pub most_rounds : Meaning → Meaning → ℕ
most_rounds forward back = (forward.losses + back.losses + 1) * lossless forward back

module _ {Config Rec F B : Type 0} (codec : Config → Codec Rec) (X : Behaviour F) (Y : Behaviour B) where
  -- In every run from here, if an exchange is under way, one is completed within that many rounds.
  abbrev pub Completes : LinkState Config Rec F B → Type 0
  Completes l =
      l.sender.state ≡ UnderWay → (es : List (Event Rec)) (m : LinkState Config Rec F B) → Run codec X Y l es m →
      most_rounds (X.means l.forward) (Y.means l.back) ≤ rounds_in es → completed_in es ≢ []

  -- What is found of a run, l being the handover and m any state after it.
  pub record Findings (l : LinkState Config Rec F B) (es : List (Event Rec)) (m : LinkState Config Rec F B) : Type 0 where
    pub turns_clean : TurnsClean ((X.means l.forward).capacity + (Y.means l.back).capacity + 1) (completed_in es)
    pub observer : m.observer ≡ reported (completed_in es)
    pub in_order : InOrder (after_clean es) m.sender
    pub completes : Completes m

  -- The link recovers: the findings hold of every run.
  abbrev pub Recovers : LinkState Config Rec F B → Type 0
  Recovers l = (es : List (Event Rec)) (m : LinkState Config Rec F B) → Run codec X Y l es m → Findings l es m
