-- What a client does with a link, turn by turn. Assumes nothing.
use Rattle.std.specs.Prelude.{◌≡◌, ℕ, zero, suc, List, Ok, Err, Result}
use Rattle.wire.specs.Refusals.{Answer}
use Rattle.wire.specs.declared.refusal.Refusal.{Refusal}
use Rattle.channel.specs.Meaning.{Behaviour}
use Rattle.recovery.specs.Codec.{Codec}
use Rattle.recovery.specs.State.{LinkState}
use Rattle.recovery.specs.Steps.{Offer, Round}
use Rattle.recovery.specs.Runs.{Event, Run}
use Rattle.recovery.specs.Tallies.{accepted_in, delivered_in, after_clean}
use Rattle.ends.specs.declared.observer.Observer.{Observer}
use Rattle.ends.specs.declared.sender.State.TheVariants.{Idle}
use Rattle.codec.specs.declared.config.Config.{Config}
use Rattle.link.specs.Makings.{observed_anew}

-- the answer without what was observed
abbrev pub verdict_of : Result Observer Refusal → Answer
verdict_of (Ok o) = Ok tt
verdict_of (Err e) = Err e

module _ {R Rec F B : Type 0} (codec : Config R → Codec Rec) (X : Behaviour F) (Y : Behaviour B) where
  abbrev Link : Type 0
  Link = LinkState (Config R) Rec F B

  -- So many turns from one link to another. Each is an offer of the record, refused or not, and then a round.
  pub data Turns (r : Rec) (l : Link) : ℕ → Link → Type 0 where
    none : Turns r l zero l
    more : {n : ℕ} {m offered o : Link} {a b h c d : Answer} → Turns r l n m → Offer codec X Y m r a offered → Round codec X Y offered b h c d o → Turns r l (suc n) o

  -- What an exchange leaves: a link that was handed over and had its turns, with the observer that is answered; or the same link,
  -- where it is refused.
  abbrev pub Exchanged : Rec → ℕ → Link → Result Observer Refusal → Link → Type 0
  Exchanged r n l (Ok o) m = Turns r (observed_anew l) n m × (o ≡ m.observer)
  Exchanged r n l (Err e) m = m ≡ l

  -- In every run from one link to another that ends idle, the records delivered after the first clean exchange are the records
  -- accepted after it, each once, in order.
  abbrev pub AllDelivered : Link → Link → Type 0
  AllDelivered l m = (es : List (Event Rec)) → Run codec X Y l es m → m.sender.state ≡ Idle → delivered_in (after_clean es) ≡ accepted_in (after_clean es)
