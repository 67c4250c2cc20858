-- The laws of the report. Assumes nothing.
use Rattle.std.proofs.Common.{◌≡◌, ℕ, suc, ◌+◌, Bool, true, not, eqb, List, [], ◌∷◌, ◌++◌, length, is_ok, Some, None, Ok, Err, codes, decimal, Option, Result, sym, refl, ap, ◌∙◌, append_assoc, append-nil, arith}
use Rattle.std.proofs.lemmas.Bool.{and_from}
use Rattle.text.specs.Hex.{hex_digits}
use Rattle.text.specs.Lines.{lines_of}
use Rattle.wire.specs.Refusals.{Answer, answer_of}
use Rattle.wire.specs.declared.refusal.Refusal.{Refusal}
use Rattle.recovery.specs.Check.{checked}
use Rattle.ends.specs.declared.observer.Observer.{Observer}
use Rattle.codec.specs.declared.config.Config.{Config}
use Rattle.shapes.specs.Shapes.{Shape, means}
use Rattle.model.specs.Models.{Model}
use Rattle.model.specs.Makings.{new_of}
use Rattle.script.specs.Lines.{order_of}
use Rattle.script.specs.Starts.{start_of}
use Rattle.script.specs.declared.order.Order.{Order}
use Rattle.script.specs.declared.order.Order.TheVariants as order
use Rattle.script.specs.declared.start.Kind.{Kind}
use Rattle.script.specs.declared.start.Kind.TheVariants.{Commands, Readings}
use Rattle.script.specs.declared.start.Start.{Start}
use Rattle.report.specs.declared.reply.Reply.{Reply}
use Rattle.report.specs.declared.reply.Reply.TheVariants.{One, Hear, Round}
use Rattle.report.specs.Laws.{after_lines, bench_observer, kind_observer, start_observer, observer_of, makes_link, starts_well, OneMore, EndsSound, Begins, Stays}
use Rattle.report.specs.Lines.{Answered, offered, obeyed, answered, lines_text}
use Rattle.report.specs.Replies.{number_text, record_text, reply_text, sound_text}
use Rattle.report.specs.Reports.{start_text, script_text, report_text}
use Rattle.report.specs.Starts.{opened_by, BenchKind, commands_kind, readings_kind, bench_text, kind_text}
use Rattle.report.proofs.Endings.{plain, plain_append, plain_more, decimal-plain, digits-plain, one_line, first_and_more}

-- an answer without its line end
abbrev reply_body : Reply → List ℕ
reply_body (One letter a) = letter ∷ number_text a
reply_body (Hear h c p) = 104 ∷ (number_text h ++ (number_text c ++ record_text h p))
reply_body (Round a h c d p) = 114 ∷ (number_text a ++ (number_text h ++ (number_text c ++ (number_text d ++ record_text h p))))

body_end : (r : Reply) (t : List ℕ) → reply_text r ++ t ≡ reply_body r ++ (10 ∷ t)
body_end (One letter a) t = simp append_assoc
body_end (Hear h c p) t = simp append_assoc
body_end (Round a h c d p) t = simp append_assoc

-- no answer has a line end for its letter
abbrev lettered : Reply → Bool
lettered (One letter a) = not (eqb letter 10)
lettered (Hear h c p) = true
lettered (Round a h c d p) = true

number-plain : (a : Answer) → plain (number_text a) ≡ true
number-plain a = plain_more 32 (decimal (answer_of a)) (omega arith) (decimal-plain (answer_of a))

record_plain : (a : Answer) (p : ℕ) → plain (record_text a p) ≡ true
record_plain (Ok u) p = plain_more 32 (hex_digits 9 p) (omega arith) (digits-plain 9 p)
record_plain (Err e) p = refl

body_plain : (r : Reply) → lettered r ≡ true → plain (reply_body r) ≡ true
body_plain (One letter a) h = and_from (not (eqb letter 10)) (plain (number_text a)) h (number-plain a)
body_plain (Hear h c p) e =
    plain_more 104 (number_text h ++ (number_text c ++ record_text h p)) (omega arith)
    (plain_append (number_text h) (number_text c ++ record_text h p) (number-plain h)
    (plain_append (number_text c) (record_text h p) (number-plain c) (record_plain h p)))
body_plain (Round a h c d p) e =
    plain_more 114 (number_text a ++ (number_text h ++ (number_text c ++ (number_text d ++ record_text h p)))) (omega arith)
    (plain_append (number_text a) (number_text h ++ (number_text c ++ (number_text d ++ record_text h p))) (number-plain a)
    (plain_append (number_text h) (number_text c ++ (number_text d ++ record_text h p)) (number-plain h)
    (plain_append (number_text c) (number_text d ++ record_text h p) (number-plain c)
    (plain_append (number_text d) (record_text h p) (number-plain d) (record_plain h p)))))

-- an answer is one line
reply-line : (r : Reply) (t : List ℕ) → lettered r ≡ true → lines_of (reply_text r ++ t) ≡ reply_body r ∷ lines_of t
reply-line r t h = ap lines_of (body_end r t) ∙ one_line (reply_body r) t (body_plain r h)

abbrev sound_body : Observer → List ℕ
sound_body o = codes "sound " ++ (decimal o.first ++ (codes " of " ++ decimal o.completed))

sound-end : (o : Observer) → sound_text o ≡ sound_body o ++ (10 ∷ [])
sound-end o = simp append_assoc

-- and so is the last
sound-line : (o : Observer) → lines_of (sound_text o) ≡ sound_body o ∷ []
sound-line o =
    ap lines_of (sound-end o)
    ∙ one_line (sound_body o) []
    (plain_append (codes "sound ") (decimal o.first ++ (codes " of " ++ decimal o.completed)) refl
    (plain_append (decimal o.first) (codes " of " ++ decimal o.completed) (decimal-plain o.first)
    (plain_append (codes " of ") (decimal o.completed) refl (decimal-plain o.completed))))

-- both texts behind another
behind : {x y : List ℕ} (s : List ℕ) → Begins x y → Begins (s ++ x) (s ++ y)
behind s b = record {
  answers = s ++ b.answers;
  last = b.last;
  rest = b.rest;
  now = ap (λ t. s ++ t) b.now ∙ sym (append_assoc s b.answers b.last);
  later = ap (λ t. s ++ t) b.later ∙ sym (append_assoc s b.answers b.rest);
  short = b.short;
}

alone : (x : List ℕ) → Begins x x
alone x = record { answers = x; last = []; rest = []; now = sym (append-nil x); later = sym (append-nil x); short = omega arith }

module _ {R Rec : Type 0} (number : ℕ) (payload : R → Rec → ℕ) (reads : R → ℕ → Option Rec) where
  offered-lettered : (o : Option Rec) (l : Model (Config R) Rec) → lettered (offered number payload reads o l).reply ≡ true
  offered-lettered (Some r) l = refl
  offered-lettered None l = refl

  obeyed-lettered : (o : Order) (l : Model (Config R) Rec) → lettered (obeyed number payload reads o l).reply ≡ true
  obeyed-lettered (order.Offer p) l = offered-lettered (reads l.config.kind p) l
  obeyed-lettered order.Send l = refl
  obeyed-lettered order.Hear l = refl
  obeyed-lettered order.Settle l = refl
  obeyed-lettered order.Tick l = refl
  obeyed-lettered order.Round l = refl
  obeyed-lettered (order.SenderLabel x) l = refl
  obeyed-lettered (order.ReceiverLabel x) l = refl
  obeyed-lettered (order.RawForward w) l = refl
  obeyed-lettered (order.RawBack w) l = refl

  answered-lettered : (o : Result Order Refusal) (l : Model (Config R) Rec) → lettered (answered number payload reads o l).reply ≡ true
  answered-lettered (Ok o) l = obeyed-lettered o l
  answered-lettered (Err e) l = refl

  lines_count : (lines : List (List ℕ)) (l : Model (Config R) Rec) → length (lines_of (lines_text number payload reads l lines)) ≡ length lines + 1
  lines_count [] l = ap length (sound-line l.observer)
  lines_count (line ∷ lines) l =
      let a : Answered R Rec = answered number payload reads (order_of line) l in
      let e = ap length (reply-line a.reply (lines_text number payload reads a.after lines) (answered-lettered (order_of line) l)) in
      omega (arith, e, lines_count lines a.after)

  opened_count : (a : Answer) (l : Model (Config R) Rec) (lines : List (List ℕ)) → is_ok a ≡ true → length (lines_of (opened_by number payload reads a l lines)) ≡ suc (length lines) + 1
  opened_count (Ok u) l lines h = omega (arith, ap length (reply-line (One 80 (Ok u)) (lines_text number payload reads l lines) refl), lines_count lines l)
  opened_count (Err e) l lines h = absurd (let z : ◌≡◌ {A = ℕ} 0 1 = cc in omega arith)

  -- the last line has the observer's numbers
  lines_sound : (lines : List (List ℕ)) (l : Model (Config R) Rec) → (answers : List ℕ) × (lines_text number payload reads l lines ≡ answers ++ sound_text (after_lines number payload reads l lines).observer)
  lines_sound [] l = ([], refl)
  lines_sound (line ∷ lines) l =
      let a : Answered R Rec = answered number payload reads (order_of line) l in
      let k = lines_sound lines a.after in
      let o : Observer = (after_lines number payload reads a.after lines).observer in
      (reply_text a.reply ++ k.0, ap (λ t. reply_text a.reply ++ t) k.1 ∙ sym (append_assoc (reply_text a.reply) k.0 (sound_text o)))

  opened-sound : (a : Answer) (l : Model (Config R) Rec) (lines : List (List ℕ)) → is_ok a ≡ true → (answers : List ℕ) × (opened_by number payload reads a l lines ≡ answers ++ sound_text (after_lines number payload reads l lines).observer)
  opened-sound (Ok u) l lines h =
      let k = lines_sound lines l in
      let o : Observer = (after_lines number payload reads l lines).observer in
      let s : List ℕ = reply_text (One 80 (Ok u)) in
      (s ++ k.0, ap (λ t. s ++ t) k.1 ∙ sym (append_assoc s k.0 (sound_text o)))
  opened-sound (Err e) l lines h = absurd (let z : ◌≡◌ {A = ℕ} 0 1 = cc in omega arith)

  lines_begin : (lines more : List (List ℕ)) (l : Model (Config R) Rec) → Begins (lines_text number payload reads l lines) (lines_text number payload reads l (lines ++ more))
  lines_begin [] more l = record { answers = []; last = sound_text l.observer; rest = lines_text number payload reads l more; now = refl; later = refl; short = omega (arith, ap length (sound-line l.observer)) }
  lines_begin (line ∷ lines) more l =
      let a : Answered R Rec = answered number payload reads (order_of line) l in
      behind (reply_text a.reply) (lines_begin lines more a.after)

  opened_begin : (a : Answer) (l : Model (Config R) Rec) (lines more : List (List ℕ)) → Begins (opened_by number payload reads a l lines) (opened_by number payload reads a l (lines ++ more))
  opened_begin (Ok u) l lines more = behind (reply_text (One 80 (Ok u))) (lines_begin lines more l)
  opened_begin (Err e) l lines more = alone (reply_text (One 80 (Err e)))

module _ {R Rec : Type 0} (k : BenchKind R Rec) (labels : ℕ) (f b : Shape) where
  abbrev new : Model (Config R) Rec
  new = new_of k.kind labels f b k.first

  bench_count : (lines : List (List ℕ)) → is_ok (checked 256 labels (means f) (means b)) ≡ true → length (lines_of (bench_text k labels f b lines)) ≡ suc (length lines) + 1
  bench_count lines h = opened_count k.number k.payload k.reads (checked 256 labels (means f) (means b)) new lines h

  bench_begin : (lines more : List (List ℕ)) → Begins (bench_text k labels f b lines) (bench_text k labels f b (lines ++ more))
  bench_begin lines more = opened_begin k.number k.payload k.reads (checked 256 labels (means f) (means b)) new lines more

  bench_sound : (lines : List (List ℕ)) → is_ok (checked 256 labels (means f) (means b)) ≡ true → (answers : List ℕ) × (bench_text k labels f b lines ≡ answers ++ sound_text (bench_observer k labels f b lines))
  bench_sound lines h = opened-sound k.number k.payload k.reads (checked 256 labels (means f) (means b)) new lines h

kind_count : (k : Kind) (labels : ℕ) (f b : Shape) (lines : List (List ℕ)) → is_ok (checked 256 labels (means f) (means b)) ≡ true → length (lines_of (kind_text k labels f b lines)) ≡ suc (length lines) + 1
kind_count Commands labels f b lines h = bench_count commands_kind labels f b lines h
kind_count Readings labels f b lines h = bench_count readings_kind labels f b lines h

kind_begin : (k : Kind) (labels : ℕ) (f b : Shape) (lines more : List (List ℕ)) → Begins (kind_text k labels f b lines) (kind_text k labels f b (lines ++ more))
kind_begin Commands labels f b lines more = bench_begin commands_kind labels f b lines more
kind_begin Readings labels f b lines more = bench_begin readings_kind labels f b lines more

kind-sound : (k : Kind) (labels : ℕ) (f b : Shape) (lines : List (List ℕ)) → is_ok (checked 256 labels (means f) (means b)) ≡ true → (answers : List ℕ) × (kind_text k labels f b lines ≡ answers ++ sound_text (kind_observer k labels f b lines))
kind-sound Commands labels f b lines h = bench_sound commands_kind labels f b lines h
kind-sound Readings labels f b lines h = bench_sound readings_kind labels f b lines h

start_count : (s : Result Start Refusal) (lines : List (List ℕ)) → makes_link s ≡ true → length (lines_of (start_text s lines)) ≡ suc (length lines) + 1
start_count (Ok s) lines h = kind_count s.kind s.labels _ _ lines h
start_count (Err e) lines h = absurd (let z : ◌≡◌ {A = ℕ} 0 1 = cc in omega arith)

start_begin : (s : Result Start Refusal) (lines more : List (List ℕ)) → Begins (start_text s lines) (start_text s (lines ++ more))
start_begin (Ok s) lines more = kind_begin s.kind s.labels _ _ lines more
start_begin (Err e) lines more = alone (reply_text (One 63 (Err e)))

start-sound : (s : Result Start Refusal) (lines : List (List ℕ)) → makes_link s ≡ true → (answers : List ℕ) × (start_text s lines ≡ answers ++ sound_text (start_observer s lines))
start-sound (Ok s) lines h = kind-sound s.kind s.labels _ _ lines h
start-sound (Err e) lines h = absurd (let z : ◌≡◌ {A = ℕ} 0 1 = cc in omega arith)

script_sound : (lines : List (List ℕ)) → starts_well lines ≡ true → (answers : List ℕ) × (script_text lines ≡ answers ++ sound_text (observer_of lines))
script_sound [] h = absurd (let z : ◌≡◌ {A = ℕ} 0 1 = cc in omega arith)
script_sound (first ∷ lines) h = start-sound (start_of first) lines h

pub ends-sound : (script : List ℕ) → EndsSound script
ends-sound script h = script_sound (lines_of script) h

script_count : (lines : List (List ℕ)) → starts_well lines ≡ true → length (lines_of (script_text lines)) ≡ length lines + 1
script_count [] h = absurd (let z : ◌≡◌ {A = ℕ} 0 1 = cc in omega arith)
script_count (first ∷ lines) h = start_count (start_of first) lines h

pub one_more : (script : List ℕ) → OneMore script
one_more script h = script_count (lines_of script) h

begins-by : {x y x' y' : List ℕ} → x ≡ x' → y ≡ y' → Begins x' y' → Begins x y
begins-by p q b = record { answers = b.answers; last = b.last; rest = b.rest; now = p ∙ b.now; later = q ∙ b.later; short = b.short }

pub stays : (script : List ℕ) → Stays script
stays script more = at (first_and_more script more)
  where
    at : (l : List ℕ) × (ls : List (List ℕ)) × (lines_of (script ++ (10 ∷ [])) ≡ l ∷ ls) × (lines_of (script ++ (10 ∷ more)) ≡ l ∷ (ls ++ lines_of more)) → Begins (report_text (script ++ (10 ∷ []))) (report_text (script ++ (10 ∷ more)))
    at (l, ls, p, q) = begins-by (ap script_text p) (ap script_text q) (start_begin (start_of l) ls (lines_of more))
