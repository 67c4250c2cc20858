-- A call on a link over channels that have shapes, as the answer to a line. Assumes nothing.
use Rattle.std.proofs.Common.{◌≡◌, ℕ, Ok, Err, Option, sym, refl, ap, ◌∙◌, ap₂}
use Rattle.wire.specs.Refusals.{Answer}
use Rattle.channel.specs.Meaning.{Behaviour}
use Rattle.recovery.specs.State.{LinkState}
use Rattle.recovery.specs.Steps.{Send, Hear, Settle, Ticks, Round}
use Rattle.codec.specs.declared.config.Config.{Config}
use Rattle.link.specs.Faults.{RawForward, RawBack, with_forward, with_back}
use Rattle.link.specs.Makings.{observed_anew}
use Rattle.codec.specs.Words.{codec}
use Rattle.shapes.specs.Shapes.{Shape}
use Rattle.shapes.specs.Moves.{Moves}
use Rattle.model.specs.Models.{Model, shaped_state}
use Rattle.model.specs.Calls.{send_of, hear_of, settle_of, tick_of, round_of}
use Rattle.model.specs.Faults.{raw_forward_of, raw_back_of}
use Rattle.model.proofs.Exact.{send_is, hear_is, settle_is, tick_is, round_is}
use Rattle.model.proofs.ExactFaults.{raw_forward_is, raw_back_is}
use Rattle.report.specs.declared.reply.Reply.{Reply}
use Rattle.report.specs.declared.reply.Reply.TheVariants as reply
use Rattle.report.specs.Anew.{anew_after}
use Rattle.report.specs.Lines.{Answered, outcome, one, heard, rounded}

-- a raw word that was accepted has started the observer anew already
anew-forward : {R Rec F B : Type 0} (a : Answer) (l m : LinkState (Config R) Rec F B) (f : F) → m ≡ with_forward l f a → anew_after a m ≡ m
anew-forward (Ok u) l m f e = ap observed_anew e ∙ sym e
anew-forward (Err x) l m f e = refl

anew-back : {R Rec F B : Type 0} (a : Answer) (l m : LinkState (Config R) Rec F B) (b : B) → m ≡ with_back l b a → anew_after a m ≡ m
anew-back (Ok u) l m b e = ap observed_anew e ∙ sym e
anew-back (Err x) l m b e = refl

module _ {R Rec F B : Type 0} (number : ℕ) (payload : R → Rec → ℕ) (reads : R → ℕ → Option Rec)
    {X : Behaviour F} {Y : Behaviour B} {shapeF : F → Shape} {shapeB : B → Shape} (forward : Moves shapeF X) (back : Moves shapeB Y)
    (l m : LinkState (Config R) Rec F B) where
  abbrev shaped : LinkState (Config R) Rec F B → Model (Config R) Rec
  shaped = shaped_state shapeF shapeB

  abbrev answers : ℕ → Answer → Model (Config R) Rec → Answered R Rec
  answers letter a n = outcome (reply.One letter a) n

  pub send-line : (a : Answer) → Send (codec number payload reads) X Y l a m → answers 115 a (shaped m) ≡ one number payload reads 115 (send_of (codec number payload reads) (shaped l))
  send-line a h = let p = send_is (codec number payload reads) forward back h in ap₂ (answers 115) p.0 p.1

  pub settle-line : (a : Answer) → Settle (codec number payload reads) X Y l a m → answers 97 a (shaped m) ≡ one number payload reads 97 (settle_of (codec number payload reads) (shaped l))
  settle-line a h = let p = settle_is (codec number payload reads) forward back h in ap₂ (answers 97) p.0 p.1

  pub tick-line : (a : Answer) → Ticks (codec number payload reads) X Y l a m → answers 116 a (shaped m) ≡ one number payload reads 116 (tick_of (codec number payload reads) (shaped l))
  tick-line a h = let p = tick_is (codec number payload reads) forward back h in ap₂ (answers 116) p.0 p.1

  -- the record that the receiver holds
  abbrev shown : Model (Config R) Rec → ℕ
  shown n = payload n.config.kind n.receiver.delivered

  pub hear-line : (a c : Answer) (p : ℕ) → p ≡ shown (shaped m) → Hear (codec number payload reads) X Y l a c m → outcome (reply.Hear a c p) (shaped m) ≡ heard number payload reads (hear_of (codec number payload reads) (shaped l))
  hear-line a c p e h =
      let q = hear_is (codec number payload reads) forward back h in
      ap (λ (p : ℕ). outcome (reply.Hear a c p) (shaped m)) e
      ∙ ap₂ (λ (a c : Answer). outcome (reply.Hear a c (shown (shaped m))) (shaped m)) q.0 q.1
      ∙ ap (λ (n : Model (Config R) Rec). outcome (reply.Hear (hear_of (codec number payload reads) (shaped l)).heard (hear_of (codec number payload reads) (shaped l)).reply (shown n)) n) q.2

  pub round-line : (a h c d : Answer) (p : ℕ) → p ≡ shown (shaped m) → Round (codec number payload reads) X Y l a h c d m → outcome (reply.Round a h c d p) (shaped m) ≡ rounded number payload reads (round_of (codec number payload reads) (shaped l))
  round-line a h c d p e k =
      let q = round_is (codec number payload reads) forward back k in
      ap (λ (p : ℕ). outcome (reply.Round a h c d p) (shaped m)) e
      ∙ ap₂ (λ (a h : Answer). outcome (reply.Round a h c d (shown (shaped m))) (shaped m)) q.0 q.1
      ∙ ap₂ (λ (c d : Answer). outcome (reply.Round (round_of (codec number payload reads) (shaped l)).sent (round_of (codec number payload reads) (shaped l)).heard c d (shown (shaped m))) (shaped m)) q.2 q.3
      ∙ ap (λ (n : Model (Config R) Rec). outcome (reply.Round (round_of (codec number payload reads) (shaped l)).sent (round_of (codec number payload reads) (shaped l)).heard (round_of (codec number payload reads) (shaped l)).reply (round_of (codec number payload reads) (shaped l)).settled (shown n)) n) q.4

  pub forward-line : (w : ℕ) (a : Answer) (r : Reply) (n : LinkState (Config R) Rec F B) → r ≡ reply.One 70 a → n ≡ anew_after a m → RawForward X l w a m
      → outcome r (shaped n) ≡ one number payload reads 70 (raw_forward_of (shaped l) w)
  forward-line w a r n is e h =
      let q = raw_forward_is forward shapeB l w a m h in
      ap (λ (r : Reply). outcome r (shaped n)) is
      ∙ ap (λ (k : LinkState (Config R) Rec F B). answers 70 a (shaped k)) (e ∙ anew-forward a l m m.forward h.1)
      ∙ ap₂ (answers 70) q.0 q.1

  pub back-line : (w : ℕ) (a : Answer) (r : Reply) (n : LinkState (Config R) Rec F B) → r ≡ reply.One 66 a → n ≡ anew_after a m → RawBack Y l w a m
      → outcome r (shaped n) ≡ one number payload reads 66 (raw_back_of (shaped l) w)
  back-line w a r n is e h =
      let q = raw_back_is shapeF back l w a m h in
      ap (λ (r : Reply). outcome r (shaped n)) is
      ∙ ap (λ (k : LinkState (Config R) Rec F B). answers 66 a (shaped k)) (e ∙ anew-back a l m m.back h.1)
      ∙ ap₂ (answers 66) q.0 q.1
