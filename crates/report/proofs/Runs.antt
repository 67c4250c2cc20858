-- A script, one line on. Assumes nothing.
use Rattle.std.proofs.Common.{◌≡◌, ℕ, suc, ◌+◌, ◌*◌, ◌≤◌, Bool, true, false, cond, eqb, List, [], ◌∷◌, ◌++◌, length, Option, sym, refl, ap, ◌∙◌, append_assoc, arith}
use Rattle.ends.specs.declared.observer.Observer.{Observer}
use Rattle.text.specs.Lines.{before, lines_of}
use Rattle.codec.specs.declared.config.Config.{Config}
use Rattle.model.specs.Models.{Model}
use Rattle.script.specs.Lines.{order_of}
use Rattle.report.specs.declared.reply.Reply.{Reply}
use Rattle.report.specs.declared.reply.Reply.TheVariants.{One, Hear, Round}
use Rattle.report.specs.Lines.{Answered, outcome, answered, lines_text}
use Rattle.report.specs.declared.page.Page.{Page}
use Rattle.report.specs.Pages.{HasRoom, Put}
use Rattle.report.specs.Replies.{reply_text, reply_room, sound_text}
use Rattle.report.specs.Rooms.{bytes_in}
use Rattle.report.proofs.Writing.{nothing, both, named}

-- a part of a text is put behind what a page held, and this is left of it
pub record Partly (before now : Page) (left whole : List ℕ) : Type 0 where
  pub done : List ℕ
  pub put : Put before done now
  pub text : done ++ left ≡ whole

pub at_first : (page : Page) (text : List ℕ) → HasRoom page 0 → Partly page page text text
at_first page text h = record { done = []; put = nothing page h; text = refl }

-- a part of what is left is put
part : {before now next : Page} {whole : List ℕ} (s t : List ℕ) → Put now s next → Partly before now (s ++ t) whole → Partly before next t whole
part s t w l = record { done = l.done ++ s; put = both l.put w; text = append_assoc l.done s t ∙ l.text }

-- all that is left is put
pub whole-put : {before now next : Page} {whole : List ℕ} (text : List ℕ) → Put now text next → Partly before now text whole → Put before whole next
whole-put text w l = named _ _ l.text (both l.put w)

reply-most : (r : Reply) → reply_room r ≤ 24
reply-most (One letter a) = omega arith
reply-most (Hear h c p) = omega arith
reply-most (Round a h c d p) = omega arith

module _ {R Rec : Type 0} (number : ℕ) (payload : R → Rec → ℕ) (reads : R → ℕ → Option Rec) where
  -- an answer is not much longer than its line
  pub reply-fits : (line : List ℕ) (r : Reply) (l m : Model (Config R) Rec) → outcome r m ≡ answered number payload reads (order_of line) l → reply_room r ≤ 12 * (length line + 1)
  reply-fits [] r l m e = let k = ap (λ (a : Answered R Rec). reply_room a.reply) e in omega arith
  reply-fits (c ∷ cs) r l m e = omega (arith, reply-most r)

  pub line-more : {before now next : Page} {whole : List ℕ} (line : List ℕ) (ls ms : List (List ℕ)) (r : Reply) (l m : Model (Config R) Rec)
      → outcome r m ≡ answered number payload reads (order_of line) l → ls ≡ line ∷ ms → Put now (reply_text r) next
      → Partly before now (lines_text number payload reads l ls) whole → Partly before next (lines_text number payload reads m ms) whole
  line-more {before} {now} {next} {whole} line ls ms r l m e split w left =
      let text : lines_text number payload reads l ls ≡ reply_text r ++ lines_text number payload reads m ms =
      ap (lines_text number payload reads l) split ∙ ap (λ (a : Answered R Rec). reply_text a.reply ++ lines_text number payload reads a.after ms) (sym e) in
      part (reply_text r) (lines_text number payload reads m ms) w (rw text at left)

  -- no line is left: the last line of the report
  pub last_line : {before now next : Page} {whole : List ℕ} (ls : List (List ℕ)) (o : Observer) (l : Model (Config R) Rec)
      → ls ≡ [] → o ≡ l.observer → Put now (sound_text o) next → Partly before now (lines_text number payload reads l ls) whole → Put before whole next
  last_line ls o l none e w left =
      let text : sound_text o ≡ lines_text number payload reads l ls = ap sound_text e ∙ ap (lines_text number payload reads l) (sym none) in
      whole-put (lines_text number payload reads l ls) (named (sound_text o) (lines_text number payload reads l ls) text w) left

-- the lines of a text take no more bytes than the text and one end
pub lines_bytes : (text : List ℕ) → bytes_in (lines_of text) ≤ length text + 1
lines_bytes [] = omega arith
lines_bytes (c ∷ cs) = at (eqb c 10) (lines_of cs) (lines_bytes cs)
  where
    more : (ls : List (List ℕ)) → bytes_in ls ≤ length cs + 1 → bytes_in (before c ls) ≤ suc (length cs) + 1
    more [] h = omega arith
    more (l ∷ ls) h = omega arith

    at : (b : Bool) (ls : List (List ℕ)) → bytes_in ls ≤ length cs + 1 → bytes_in (cond b ([] ∷ ls) (before c ls)) ≤ suc (length cs) + 1
    at true ls h = omega arith
    at false ls h = more ls h
