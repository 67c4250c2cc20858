-- A link past its check, and the lines of a script on it. Assumes nothing.
use Rattle.std.proofs.Common.{◌≡◌, ℕ, true, false, List, Ok, Err, is_err, refl, ap, ◌∙◌, ap₂}
use Rattle.wire.specs.Refusals.{Answer}
use Rattle.channel.specs.Meaning.{Meaning, Behaviour}
use Rattle.recovery.specs.Check.{checked}
use Rattle.codec.specs.declared.config.Config.{Config}
use Rattle.shapes.specs.Shapes.{Shape, means}
use Rattle.shapes.specs.Moves.{Moves}
use Rattle.model.specs.Models.{Model}
use Rattle.model.specs.Makings.{new_of}
use Rattle.model.specs.Faults.{handover_of}
use Rattle.report.specs.declared.page.Page.{Page}
use Rattle.report.specs.declared.reply.Reply.TheVariants.{One}
use Rattle.report.specs.Lines.{lines_text}
use Rattle.report.specs.Pages.{Put}
use Rattle.report.specs.Replies.{reply_text}
use Rattle.report.specs.Starts.{BenchKind, opened_by, bench_text}
use Rattle.report.proofs.Writing.{both, named}

module _ {R Rec F B : Type 0} (k : BenchKind R Rec) {X : Behaviour F} {Y : Behaviour B} {shapeF : F → Shape} {shapeB : B → Shape} (forward : Moves shapeF X) (back : Moves shapeB Y)
    (labels : ℕ) (f : F) (b : B) (lines : List (List ℕ)) where
  -- the check answers by the shapes
  check-by : (a : Answer) → a ≡ checked 256 labels (X.means f) (Y.means b) → a ≡ checked 256 labels (means (shapeF f)) (means (shapeB b))
  check-by a e = e ∙ ap₂ (λ (f b : Meaning). checked 256 labels f b) (forward.meaning f) (back.meaning b)

  passed : {p q r : Page} (a : Answer) (new : Model (Config R) Rec) → is_err a ≡ false → Put p (reply_text (One 80 a)) q → Put q (lines_text k.number k.payload k.reads new lines) r
      → Put p (opened_by k.number k.payload k.reads a new lines) r
  passed (Ok u) new h head rest = both head rest
  passed (Err e) new h head rest = cc

  pub opened : {p q r : Page} (a : Answer) (first : Rec) (made : Model (Config R) Rec) → a ≡ checked 256 labels (X.means f) (Y.means b) → is_err a ≡ false
      → first ≡ k.first → made ≡ new_of k.kind labels (shapeF f) (shapeB b) first → Put p (reply_text (One 80 a)) q
      → Put q (lines_text k.number k.payload k.reads (handover_of made) lines) r → Put p (bench_text k labels (shapeF f) (shapeB b) lines) r
  opened a first made e h is m head rest =
      let new : Model (Config R) Rec = new_of k.kind labels (shapeF f) (shapeB b) k.first in
      let made-is : made ≡ new = m ∙ ap (new_of k.kind labels (shapeF f) (shapeB b)) is in
      named _ _ (ap₂ (λ (l : Model (Config R) Rec) (a : Answer). opened_by k.number k.payload k.reads a l lines) (ap handover_of made-is) (check-by a e)) (passed a (handover_of made) h head rest)

  pub refused : {p q : Page} (a : Answer) (new : Model (Config R) Rec) → a ≡ checked 256 labels (X.means f) (Y.means b) → is_err a ≡ true
      → Put p (reply_text (One 80 a)) q → Put p (opened_by k.number k.payload k.reads (checked 256 labels (means (shapeF f)) (means (shapeB b))) new lines) q
  refused a new e h put = named _ _ (alone a h ∙ ap (λ (a : Answer). opened_by k.number k.payload k.reads a new lines) (check-by a e)) put
    where
      alone : (a : Answer) → is_err a ≡ true → reply_text (One 80 a) ≡ opened_by k.number k.payload k.reads a new lines
      alone (Ok u) h = cc
      alone (Err e) h = refl
