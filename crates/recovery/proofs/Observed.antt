-- The observer reports how many exchanges were completed, and which of them was the first clean one. Assumes nothing.
use Rattle.std.proofs.Common.{◌≡◌, ℕ, zero, suc, ◌+◌, ◌<◌, ◌≤◌, min, Bool, true, false, List, [], ◌∷◌, ◌++◌, length, replicate, refl, ap, ◌∙◌, ap₂, append_assoc, arith, length-append}
use lib.ListN.{length-replicate}
use Rattle.wire.specs.Refusals.{Answer}
use Rattle.channel.specs.Meaning.{Behaviour}
use Rattle.recovery.specs.Codec.{Codec}
use Rattle.recovery.specs.State.{LinkState}
use Rattle.recovery.specs.Steps as spec
use Rattle.ends.specs.Observers.{counted, noted, observed}
use Rattle.recovery.specs.Runs as runs
use Rattle.recovery.specs.Runs.{Event, in_offer, in_hear, in_settle, round}
use Rattle.recovery.specs.Tallies.{completed_in, first_clean, reported}
use Rattle.recovery.specs.Findings.{NamesFirst}
use Rattle.ends.specs.declared.observer.Observer.{Observer}

-- The observer after these exchanges.
abbrev watch : Observer → List Bool → Observer
watch o [] = o
watch o (c ∷ cs) = watch (observed c o) cs

watch-completed : (o : Observer) (n : ℕ) (cs : List Bool) → o.completed ≡ min 65535 n → (watch o cs).completed ≡ min 65535 (n + length cs)
watch-completed o n [] e = omega arith
watch-completed o n (c ∷ cs) e =
    let i : min 65535 (n + 1 + length cs) ≡ min 65535 (n + suc (length cs)) = omega arith in watch-completed (observed c o) (n + 1) cs (omega arith) ∙ i

-- once there was a clean one, its number stays
watch-kept : (o : Observer) (k : ℕ) (cs : List Bool) → o.first ≡ suc k → (watch o cs).first ≡ suc k
watch-kept o k [] e = e
watch-kept o k (c ∷ cs) e = watch-kept (observed c o) k cs (keeps c o.first e)
  where
    keeps : (c : Bool) (i : ℕ) → i ≡ suc k → noted i c (counted o.completed) ≡ suc k
    keeps false i e = e
    keeps true zero e = absurd (omega arith)
    keeps true (suc i) e = e

watch-first : (o : Observer) (n : ℕ) (cs : List Bool) → o.completed ≡ min 65535 n → o.first ≡ 0 →
    (watch o cs).first ≡ min 65535 (first_clean (n + 1) cs)
watch-first o n [] e z = omega arith
watch-first o n (false ∷ cs) e z = watch-first (observed false o) (n + 1) cs (omega arith) z
watch-first o n (true ∷ cs) e z =
    let i : (observed true o).first ≡ suc (min 65534 n) = notes o.first z in
    let j : suc (min 65534 n) ≡ min 65535 (n + 1) = omega arith in
    watch-kept (observed true o) (min 65534 n) cs i ∙ j
  where
    notes : (k : ℕ) → k ≡ 0 → noted k true (counted o.completed) ≡ suc (min 65534 n)
    notes zero h = omega arith
    notes (suc k) h = absurd (omega arith)

watched_report : (cs : List Bool) → watch (reported []) cs ≡ reported cs
watched_report cs =
    let c : (watch (reported []) cs).completed ≡ (reported cs).completed = let h = watch-completed (reported []) 0 cs refl in omega arith in
    let f : (watch (reported []) cs).first ≡ (reported cs).first = watch-first (reported []) 0 cs refl refl in
    ap₂ (λ (x y : ℕ). record { completed = x; first = y }) c f

-- The first clean exchange comes right after the unclean ones.
first-after : (n u : ℕ) (cs : List Bool) → first_clean n (replicate u false ++ (true ∷ cs)) ≡ n + u
first-after n zero cs = omega arith
first-after n (suc u) cs = let h = first-after (n + 1) u cs in omega arith

length-marks : (u c : ℕ) → length (replicate u false ++ replicate c true) ≡ u + c
length-marks u c = simp (length-append, length-replicate)

pub names_first_lem : NamesFirst
names_first_lem most marks t more = go t.clean t.in_turn
  where
    go : (c : ℕ) → marks ≡ replicate t.unclean false ++ replicate c true → (0 < (reported marks).first) × ((reported marks).first ≤ most + 1)
    go zero e = absurd (omega (arith, t.soon, ap length e, length-marks t.unclean 0))
    go (suc c) e =
        let h : first_clean 1 marks ≡ 1 + t.unclean = ap (first_clean 1) e ∙ first-after 1 t.unclean (replicate c true) in
        (omega arith, omega (arith, t.soon))

module _ {Config Rec F B : Type 0} (codec : Config → Codec Rec) (X : Behaviour F) (Y : Behaviour B) where
  offer-watched : {l m : LinkState Config Rec F B} {r : Rec} {a : Answer} (es : List (Event Rec)) → spec.Offer codec X Y l r a m →
      watch m.observer (completed_in es) ≡ watch l.observer (completed_in (in_offer codec X Y r a ++ es))
  offer-watched es (spec.busy i) = refl
  offer-watched es (spec.accepted i) = refl

  send-watched : {l m : LinkState Config Rec F B} {a : Answer} (es : List (Event Rec)) → spec.Send codec X Y l a m →
      watch m.observer (completed_in es) ≡ watch l.observer (completed_in es)
  send-watched es (spec.idle i) = refl
  send-watched es (spec.sent i p) = refl

  hear-watched : {l m : LinkState Config Rec F B} {a c : Answer} (es : List (Event Rec)) → spec.Hear codec X Y l a c m →
      watch m.observer (completed_in es) ≡ watch l.observer (completed_in (in_hear codec X Y a m ++ es))
  hear-watched es (spec.Hear.silent t) = refl
  hear-watched es (spec.Hear.spoilt t i) = refl
  hear-watched es (spec.repeated t i p) = refl
  hear-watched es (spec.adopted t i n p) = refl

  settle-watched : {l m : LinkState Config Rec F B} {a : Answer} (es : List (Event Rec)) → spec.Settle codec X Y l a m →
      watch m.observer (completed_in es) ≡ watch l.observer (completed_in (in_settle codec X Y a m ++ es))
  settle-watched es (spec.Settle.silent t) = refl
  settle-watched es (spec.Settle.spoilt t i) = refl
  settle-watched es (spec.stale t i o) = refl
  settle-watched es (spec.completed t i s) = refl

  tick-watched : {l m : LinkState Config Rec F B} {a : Answer} (es : List (Event Rec)) → spec.Ticks codec X Y l a m →
      watch m.observer (completed_in es) ≡ watch l.observer (completed_in es)
  tick-watched es (spec.ticked s t) = refl

  watched : {l m : LinkState Config Rec F B} {es : List (Event Rec)} → runs.Run codec X Y l es m → m.observer ≡ watch l.observer (completed_in es)
  watched runs.stop = refl
  watched (runs.Run.offer {es = es} s r) = watched r ∙ offer-watched es s
  watched (runs.Run.send {es = es} s r) = watched r ∙ send-watched es s
  watched (runs.Run.hear {es = es} s r) = watched r ∙ hear-watched es s
  watched (runs.Run.settle {es = es} s r) = watched r ∙ settle-watched es s
  watched (runs.Run.tick {es = es} s r) = watched r ∙ tick-watched es s
  watched (runs.Run.round {es = es} (spec.in_turn {h = h} {d = d} {m₂ = k₂} {m₃ = k₃} s₁ s₂ s₃ s₄) r) =
      let settled = in_settle codec X Y d k₃ ++ (round ∷ es) in
      rw (append_assoc, append_assoc)
      (watched r ∙ (tick-watched es s₄ ∙ (settle-watched (round ∷ es) s₃ ∙ (hear-watched settled s₂ ∙ send-watched (in_hear codec X Y h k₂ ++ settled) s₁))))

  pub reports : {l m : LinkState Config Rec F B} {es : List (Event Rec)} → l.observer ≡ reported [] → runs.Run codec X Y l es m →
      m.observer ≡ reported (completed_in es)
  reports {es = es} e r = watched r ∙ (ap (λ (o : Observer). watch o (completed_in es)) e ∙ watched_report (completed_in es))
