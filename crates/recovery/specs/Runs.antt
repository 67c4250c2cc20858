-- Runs of a link: any calls in any order, refused ones too, and what happens in them. Assumes nothing.
use Rattle.std.specs.Prelude.{Bool, List, [], ◌∷◌, ◌++◌, Ok, Err}
use Rattle.wire.specs.Refusals.{Answer}
use Rattle.channel.specs.Meaning.{Behaviour}
use Rattle.recovery.specs.Codec.{Codec}
use Rattle.recovery.specs.State.{LinkState, clean}
use Rattle.recovery.specs.Steps.{Offer, Send, Hear, Settle, Ticks, Round, in_turn}

-- A record is accepted, or delivered; an exchange is completed, and leaves the link clean or not; a round goes by.
pub data Event (Rec : Type 0) : Type 0 where
  accepts : Rec → Event Rec
  delivers : Rec → Event Rec
  completes : Bool → Event Rec
  round : Event Rec

module _ {Config Rec F B : Type 0} (codec : Config → Codec Rec) (X : Behaviour F) (Y : Behaviour B) where
  abbrev Link : Type 0
  Link = LinkState Config Rec F B

  -- What happened in a call follows from its answer and the state that it left: an offer that is not refused accepts its record, ..
  abbrev pub in_offer : Rec → Answer → List (Event Rec)
  in_offer r (Ok u) = accepts r ∷ []
  in_offer r (Err e) = []

  -- .. a hear whose first answer is no refusal delivers the record that the receiver then holds, ..
  abbrev pub in_hear : Answer → Link → List (Event Rec)
  in_hear (Ok u) m = delivers m.receiver.delivered ∷ []
  in_hear (Err e) m = []

  -- .. and a settle that is not refused completes an exchange, and leaves the link clean or not right then.
  abbrev pub in_settle : Answer → Link → List (Event Rec)
  in_settle (Ok u) m = completes (clean codec X Y m) ∷ []
  in_settle (Err e) m = []

  -- In a round it is the same, after its hear and after its settle.
  abbrev pub in_round : {l m : Link} {a h c d : Answer} → Round codec X Y l a h c d m → List (Event Rec)
  in_round (in_turn {h = h} {d = d} {m₂ = m₂} {m₃ = m₃} _ _ _ _) = in_hear h m₂ ++ (in_settle d m₃ ++ (round ∷ []))

  -- One call after another, from one state to another, with the events in them.
  pub data Run : Link → List (Event Rec) → Link → Type 0 where
    stop : {l : Link} → Run l [] l
    offer : {l m n : Link} {r : Rec} {a : Answer} {es : List (Event Rec)} →
        Offer codec X Y l r a m → Run m es n → Run l (in_offer r a ++ es) n
    send : {l m n : Link} {a : Answer} {es : List (Event Rec)} →
        Send codec X Y l a m → Run m es n → Run l es n
    hear : {l m n : Link} {a c : Answer} {es : List (Event Rec)} →
        Hear codec X Y l a c m → Run m es n → Run l (in_hear a m ++ es) n
    settle : {l m n : Link} {a : Answer} {es : List (Event Rec)} →
        Settle codec X Y l a m → Run m es n → Run l (in_settle a m ++ es) n
    tick : {l m n : Link} {a : Answer} {es : List (Event Rec)} →
        Ticks codec X Y l a m → Run m es n → Run l es n
    round : {l m n : Link} {a h c d : Answer} {es : List (Event Rec)} (calls : Round codec X Y l a h c d m) →
        Run m es n → Run l (in_round calls ++ es) n
