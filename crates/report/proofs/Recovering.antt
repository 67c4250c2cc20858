-- The lines of a script since the link was handed over last are a run, and the link recovers in it. Assumes nothing.
use Rattle.std.proofs.Common.{◌≡◌, ℕ, ◌+◌, ◌^◌, ◌<◌, true, ◌&&◌, leb, List, [], ◌∷◌, is_ok, Some, None, Ok, Err, Option, Result, sym, refl, ap, ◌∙◌, subst, arith, lit<}
use Rattle.std.proofs.lemmas.Bool.{and_from, cond-true, le-leb}
use Rattle.text.specs.Lines.{lines_of}
use Rattle.wire.specs.Refusals.{Answer}
use Rattle.wire.specs.declared.refusal.Refusal.{Refusal}
use Rattle.channel.specs.Meaning.{Meaning}
use Rattle.commands.specs.CommandLaws as commandLaws
use Rattle.readings.specs.ReadingLaws as readingLaws
use Rattle.recovery.specs.Check.{checked, checked_link}
use Rattle.recovery.specs.Codec.{Codec}
use Rattle.recovery.specs.Runs as runs
use Rattle.recovery.specs.Runs.{Event, Run}
use Rattle.recovery.specs.Tallies.{completed_in, reported}
use Rattle.recovery.proofs.Observed.{names_first_lem}
use Rattle.recovery.proofs.Recovery.{recovers-on}
use Rattle.ends.specs.declared.observer.Observer.{Observer}
use Rattle.recovery.proofs.PassedCheck.{labels_fit}
use Rattle.recovery.proofs.Simulation.{run-keeps, run-known}
use Rattle.recovery.proofs.Wear.{Worn, worn_same, rules_worn, checked_worn}
use Rattle.codec.specs.declared.config.Config.{Config}
use Rattle.link.specs.Faults.{with_forward, with_back}
use Rattle.ends.specs.Observers.{unobserved}
use Rattle.codec.specs.Words.{label_count}
use Rattle.codec.specs.Words.{codec}
use Rattle.codec.proofs.WordLaws.{word_laws}
use Rattle.shapes.specs.Shapes.{Shape, means, put}
use Rattle.shapes.specs.Moves.{shape_behaviour}
use Rattle.shapes.proofs.Standing.{Stands, shape_rules, put_refused}
use Rattle.link.specs.declared.calls.Call.{Call}
use Rattle.link.specs.declared.calls.Call.TheVariants as calls
use Rattle.model.specs.Models.{Model}
use Rattle.model.specs.Faults.{sender_label_of, receiver_label_of}
use Rattle.model.specs.Makings.{new_of}
use Rattle.model.specs.Sequences.{after}
use Rattle.model.proofs.ExactRuns.{run_append}
use Rattle.model.proofs.ShapeRuns.{call_run}
use Rattle.script.specs.Lines.{order_of}
use Rattle.script.specs.Starts.{start_of}
use Rattle.script.specs.declared.order.Order.{Order}
use Rattle.script.specs.declared.order.Order.TheVariants as order
use Rattle.script.specs.declared.start.Kind.{Kind}
use Rattle.script.specs.declared.start.Kind.TheVariants.{Commands, Readings}
use Rattle.script.specs.declared.start.Setup.{Setup}
use Rattle.script.specs.declared.start.Setup.TheVariants.{First, Second}
use Rattle.script.specs.declared.start.Start.{Start}
use Rattle.report.specs.Laws.{after_lines, makes_link, starts_well, Recovering, BenchRecovering, KindRecovering, StartRecovering, ScriptRecovering, Recovers}
use Rattle.report.specs.Lines.{answered, obeyed, offered}
use Rattle.report.specs.Starts.{BenchKind, commands_kind, readings_kind, forward_of, back_of}
use Rattle.report.specs.Stretches.{Stretch, begun, faulted, going, offering, ordered, continued, stretch}

-- What a kind has to show: its number and its payloads fit a word, and what is packed reads back.
pub record Fits {R Rec : Type 0} (number : ℕ) (payload : R → Rec → ℕ) (reads : R → ℕ → Option Rec) : Type 0 where
  pub numbered : number < 16
  pub small : (k : R) (r : Rec) → payload k r < 2 ^ 36
  pub back : (k : R) (r : Rec) → reads k (payload k r) ≡ Some r

module _ {R Rec : Type 0} (number : ℕ) (payload : R → Rec → ℕ) (reads : R → ℕ → Option Rec) (kind : Fits number payload reads) where
  abbrev words : Config R → Codec Rec
  words = codec number payload reads

  -- a link past its check, over channels of this much room, that stand
  record Ready (places : ℕ) (l : Model (Config R) Rec) : Type 0 where
    pub passed : checked_link words shape_behaviour shape_behaviour 256 l ≡ Ok tt
    pub stands : Stands l.forward × Stands l.back
    pub room : (means l.forward).capacity + (means l.back).capacity ≡ places

  -- what holds after each line
  record Kept (places : ℕ) (s : Stretch R Rec) (now : Model (Config R) Rec) : Type 0 where
    pub ready : Ready places s.from
    pub anew : s.from.observer ≡ unobserved
    pub run : Run words shape_behaviour shape_behaviour s.from s.events now

  -- the same link with channels that have worn, whatever else is other
  over_worn : {places : ℕ} (l m : Model (Config R) Rec) → Ready places l → m.config ≡ l.config → Stands m.forward × Stands m.back
      → Worn (means l.forward) (means m.forward) → Worn (means l.back) (means m.back) → Ready places m
  over_worn l m h c stands f b = record {
    passed = ap (λ (c : Config R). checked 256 (words c).labels (means m.forward) (means m.back)) c ∙ checked_worn 256 (words l.config).labels f b h.passed;
    stands = stands;
    room = omega (arith, h.room, f.capacity, b.capacity);
  }

  -- a link that was ready is ready after a run
  later : {places : ℕ} {l m : Model (Config R) Rec} {es : List (Event Rec)} → Ready places l → Run words shape_behaviour shape_behaviour l es m → Ready places m
  later {places} {l} {m} h r =
      let f = means l.forward in
      let b = means l.back in
      let k = run-known words shape_behaviour shape_behaviour (rules_worn shape_rules f) (rules_worn shape_rules b) ((h.stands.0, worn_same f), (h.stands.1, worn_same b)) r in
      over_worn l m h (run-keeps words shape_behaviour shape_behaviour shape_rules shape_rules r) (k.0.0, k.1.0) k.0.1 k.1.1

  module _ (places : ℕ) where
    begins : (m : Model (Config R) Rec) → Ready places m → m.observer ≡ unobserved → Kept places (begun m) m
    begins m h e = record { ready = h; anew = e; run = runs.stop }

    module _ (l : Model (Config R) Rec) (s : Stretch R Rec) (k : Kept places s l) where
      here : Ready places l
      here = later k.ready k.run

      call_kept : (c : Call Rec) → Kept places (going number payload reads c l s) (after words l c)
      call_kept c = record { ready = k.ready; anew = k.anew; run = run_append words k.run (call_run words l c) }

      offer-kept : (o : Option Rec) → Kept places (offering number payload reads o l s) (offered number payload reads o l).after
      offer-kept (Some r) = call_kept (calls.Offer r)
      offer-kept None = k

      -- a raw word forward, by what its put answers
      forward-kept : (w : ℕ) (a : Answer) → (put l.forward w).0 ≡ a → Kept places (faulted a (with_forward l (put l.forward w).1 a) s) (with_forward l (put l.forward w).1 a)
      forward-kept w (Ok u) e =
          let m : Model (Config R) Rec = with_forward l (put l.forward w).1 (Ok u) in
          let p = (rules_worn shape_rules (means l.forward)).put l.forward w _ (put l.forward w).1 (here.stands.0, worn_same (means l.forward)) (refl, refl) in
          begins m (over_worn l m here refl (p.1.0, here.stands.1) p.1.1 (worn_same (means l.back))) refl
      forward-kept w (Err x) e = subst (Kept places s) (sym (ap (λ f. with_forward l f (Err x)) (put_refused l.forward w here.stands.0 x e))) k

      back-kept : (w : ℕ) (a : Answer) → (put l.back w).0 ≡ a → Kept places (faulted a (with_back l (put l.back w).1 a) s) (with_back l (put l.back w).1 a)
      back-kept w (Ok u) e =
          let m : Model (Config R) Rec = with_back l (put l.back w).1 (Ok u) in
          let p = (rules_worn shape_rules (means l.back)).put l.back w _ (put l.back w).1 (here.stands.1, worn_same (means l.back)) (refl, refl) in
          begins m (over_worn l m here refl (here.stands.0, p.1.0) (worn_same (means l.forward)) p.1.1) refl
      back-kept w (Err x) e = subst (Kept places s) (sym (ap (λ b. with_back l b (Err x)) (put_refused l.back w here.stands.1 x e))) k

      -- other ends
      ends-kept : (m : Model (Config R) Rec) → m.config ≡ l.config → m.forward ≡ l.forward → m.back ≡ l.back → m.observer ≡ unobserved → Kept places (begun m) m
      ends-kept m c f b e =
          begins m
          (over_worn l m here c (subst Stands (sym f) here.stands.0, subst Stands (sym b) here.stands.1)
          (subst (λ (x : Shape). Worn (means l.forward) (means x)) (sym f) (worn_same (means l.forward)))
          (subst (λ (x : Shape). Worn (means l.back) (means x)) (sym b) (worn_same (means l.back))))
          e

      order-kept : (o : Order) → Kept places (ordered number payload reads o l s) (obeyed number payload reads o l).after
      order-kept (order.Offer p) = offer-kept (reads l.config.kind p)
      order-kept order.Send = call_kept calls.Send
      order-kept order.Hear = call_kept calls.Hear
      order-kept order.Settle = call_kept calls.Settle
      order-kept order.Tick = call_kept calls.Tick
      order-kept order.Round = call_kept calls.Round
      order-kept (order.SenderLabel x) = ends-kept (sender_label_of l x).after refl refl refl refl
      order-kept (order.ReceiverLabel x) = ends-kept (receiver_label_of l x).after refl refl refl refl
      order-kept (order.RawForward w) = forward-kept w (put l.forward w).0 refl
      order-kept (order.RawBack w) = back-kept w (put l.back w).0 refl

      line_kept : (o : Result Order Refusal) → Kept places (continued number payload reads o l s) (answered number payload reads o l).after
      line_kept (Ok o) = order-kept o
      line_kept (Err e) = k

    lines_kept : (lines : List (List ℕ)) (l : Model (Config R) Rec) (s : Stretch R Rec) → Kept places s l → Kept places (stretch number payload reads l s lines) (after_lines number payload reads l lines)
    lines_kept [] l s k = k
    lines_kept (line ∷ lines) l s k =
        lines_kept lines (answered number payload reads (order_of line) l).after (continued number payload reads (order_of line) l s) (line_kept l s k (order_of line))

    -- what is kept, in the words of the promise
    recovering : (s : Stretch R Rec) (now : Model (Config R) Rec) → Kept places s now → Recovering number payload reads places s now
    recovering s now k =
        let laws = word_laws number payload reads kind.numbered kind.small kind.back s.from.config in
        let found = recovers-on words shape_behaviour shape_behaviour shape_rules shape_rules 256 (omega arith) s.from laws (λ r. refl) k.ready.stands
        (record { checked = k.ready.passed; observer = k.anew; in_hand = refl }) s.events now k.run in
        let marks = completed_in s.events in
        let count : now.observer.completed ≡ (reported marks).completed = ap (λ (o : Observer). o.completed) found.observer in
        let first : now.observer.first ≡ (reported marks).first = ap (λ (o : Observer). o.first) found.observer in
        record {
          anew = k.anew;
          run = k.run;
          observer = found.observer;
          first = λ enough.
              let named = names_first_lem _ marks found.turns_clean (omega (arith, count, k.ready.room)) in
              (omega (arith, first, named.0), omega (arith, first, named.1, k.ready.room));
        }

-- a link that passes its check has the label count that it was asked for
label_count_kept : (labels : ℕ) (f b : Meaning) → checked 256 labels f b ≡ Ok tt → label_count labels ≡ labels
label_count_kept labels f b h =
    let fit = labels_fit 256 labels f b h in
    cond-true (leb 2 labels && leb labels 256) labels 2 (and_from (leb 2 labels) (leb labels 256) (le-leb _ _ (omega (arith, fit.0))) (le-leb _ _ fit.1))

passed : (a : Answer) → is_ok a ≡ true → a ≡ Ok tt
passed (Ok u) e = refl
passed (Err x) e = absurd (let z : ◌≡◌ {A = ℕ} 0 1 = cc in omega arith)

bench_recovering : {R Rec : Type 0} (k : BenchKind R Rec) → Fits k.number k.payload k.reads → (labels : ℕ) (f b : Shape) → Stands f → Stands b → (lines : List (List ℕ))
    → is_ok (checked 256 labels (means f) (means b)) ≡ true → BenchRecovering k labels f b lines
bench_recovering {R} {Rec} k fits labels f b p q lines h =
    let new : Model (Config R) Rec = new_of k.kind labels f b k.first in
    let places = (means f).capacity + (means b).capacity in
    let ok : checked 256 labels (means f) (means b) ≡ Ok tt = passed (checked 256 labels (means f) (means b)) h in
    let ready : Ready k.number k.payload k.reads fits places new =
    record {
      passed = ap (λ n. checked 256 n (means f) (means b)) (label_count_kept labels (means f) (means b) ok) ∙ ok;
      stands = (p, q);
      room = refl;
    } in
    recovering k.number k.payload k.reads fits places _ _
    (lines_kept k.number k.payload k.reads fits places lines new (begun new) (begins k.number k.payload k.reads fits places new ready refl))

commands_fit : Fits commands_kind.number commands_kind.payload commands_kind.reads
commands_fit = record { numbered = omega arith; small = λ _ r. commandLaws.small r; back = λ _ r. commandLaws.back r }

readings_fit : Fits readings_kind.number readings_kind.payload readings_kind.reads
readings_fit = record { numbered = omega arith; small = λ _ r. readingLaws.small r; back = λ _ r. readingLaws.back r }

kind-recovering : (k : Kind) (labels : ℕ) (f b : Shape) → Stands f → Stands b → (lines : List (List ℕ)) → is_ok (checked 256 labels (means f) (means b)) ≡ true → KindRecovering k labels f b lines
kind-recovering Commands labels f b p q lines h = bench_recovering commands_kind commands_fit labels f b p q lines h
kind-recovering Readings labels f b p q lines h = bench_recovering readings_kind readings_fit labels f b p q lines h

forward-stands : (s : Setup) → Stands (forward_of s)
forward-stands First = (omega arith, omega arith)
forward-stands Second = (lit< tt, ((omega arith, omega arith), (omega arith, omega arith, refl, tt)))

back-stands : (s : Setup) → Stands (back_of s)
back-stands First = (omega arith, omega arith)
back-stands Second = (lit< tt, (omega arith, omega arith))

start-recovering : (s : Result Start Refusal) (lines : List (List ℕ)) → makes_link s ≡ true → StartRecovering s lines
start-recovering (Ok s) lines h = kind-recovering s.kind s.labels (forward_of s.setup) (back_of s.setup) (forward-stands s.setup) (back-stands s.setup) lines h
start-recovering (Err e) lines h = absurd (let z : ◌≡◌ {A = ℕ} 0 1 = cc in omega arith)

script_recovering : (lines : List (List ℕ)) → starts_well lines ≡ true → ScriptRecovering lines
script_recovering [] h = absurd (let z : ◌≡◌ {A = ℕ} 0 1 = cc in omega arith)
script_recovering (first ∷ lines) h = start-recovering (start_of first) lines h

pub script_recovers : (script : List ℕ) → Recovers script
script_recovers script h = script_recovering (lines_of script) h
