-- The example's codec keeps its laws, its channel keeps the rules, and its run is one. Assumes nothing.
use Rattle.std.proofs.Common.{◌≡◌, ℕ, ◌%◌, [], ◌∷◌, length, Some, None, Ok, Err, Option, Result, sym, refl, ap, ap₂, inl, arith}
use Rattle.wire.specs.Refusals.{Answer}
use Rattle.wire.specs.declared.refusal.Refusal.{Refusal}
use Rattle.channel.specs.Meaning.{Standing}
use Rattle.channel.specs.Rules.{SameWire, Put, Take, Tick}
use Rattle.channel.specs.Sublists.{sublist_all}
use Rattle.recovery.specs.Codec.{CodecLaws}
use Rattle.recovery.specs.Steps as spec
use Rattle.recovery.specs.Runs as runs
use Rattle.recovery.specs.Example.{numbers, held, puts, takes, place, Happens}
use Rattle.recovery.proofs.Labels.{some_same}

laws : CodecLaws numbers
laws =
    record {
      words = λ x r h _. ap₂ (λ (y : ℕ) (s : ℕ). Some (y, s)) (omega arith) (omega arith);
      acks = λ x h. ap Some (omega arith);
      word_labels = λ w x r e. let i : w % 4 ≡ x = ap (λ (z : ℕ × ℕ). z.0) (some_same refl e) in omega arith;
      ack_labels = λ w x e. let i : w % 4 ≡ x = some_same refl e in omega arith;
    }

apart : {A : Type 0} → ◌≡◌ {A = ℕ} 0 1 → A
apart z = absurd (omega arith)

standing : (s : Option ℕ) → Standing (place.means s)
standing None =
    record { room = omega arith; within = omega arith; soon = omega arith; still = λ _. refl; free = λ _. refl; full = λ e. absurd (omega arith) }
standing (Some w) =
    record { room = omega arith; within = omega arith; soon = omega arith; still = λ _. refl; free = λ e. apart (sym (ap length e)); full = λ _. refl }

wire : (s t : Option ℕ) → SameWire (place.means s) (place.means t)
wire s t = record { capacity = refl; delay = refl }

put : (s : Option ℕ) (w : ℕ) (a : Answer) (t : Option ℕ) → puts s w a t → Put (place.means s) w a (place.means t)
put None w (Ok u) t (e, i) = (refl, record { wire = wire None t; wait = λ _. refl; word = inl (ap held i, refl) })
put None w (Err r) t (e, i) = apart (cc)
put (Some v) w (Ok u) t (e, i) = apart (cc)
put (Some v) w (Err r) t (e, i) = (refl, cc, ap place.means i)

take : (s : Option ℕ) (a : Result ℕ Refusal) (t : Option ℕ) → takes s a t → Take (place.means s) a (place.means t)
take None (Ok v) t (e, i) = apart (cc)
take None (Err r) t (e, i) = (inl refl, cc, ap place.means i)
take (Some w) (Ok v) t (e, i) = record { wire = wire (Some w) t; ready = refl; oldest = rw i (ap (λ (x : ℕ). x ∷ []) (let j : w ≡ v = cc in j)); losses = refl }
take (Some w) (Err r) t (e, i) = apart (cc)

tick : (s t : Option ℕ) → t ≡ s → Tick (place.means s) (place.means t)
tick s t e =
    rw e (record { wire = wire s s; order = sublist_all (held s); losses = refl; wait = λ _. inl (refl, refl) })

pub happens : Happens
happens =
    record {
      laws = laws;
      all = λ _. refl;
      rules = record { standing = standing; put = put; take = take; tick = tick };
      handed_over = record { checked = refl; observer = refl; in_hand = refl };
      events = _;
      end = _;
      run =
          runs.Run.offer {r = 5} (spec.accepted refl)
          (runs.Run.settle (spec.completed {w = 3} {b = None} (refl, refl) refl refl)
          (runs.Run.offer {r = 6} (spec.accepted refl)
          (runs.Run.round (spec.in_turn (spec.sent {a = Ok tt} {f = Some 24} refl (refl, refl)) (spec.repeated {w = 24} {r = 6} {a = Ok tt} {f = None} {b = Some 0} (refl, refl) refl (refl, refl))
          (spec.completed {w = 0} {b = None} (refl, refl) refl refl) (spec.ticked {f = None} {b = None} refl refl))
          (runs.Run.offer {r = 7} (spec.accepted refl)
          (runs.Run.round (spec.in_turn (spec.sent {a = Ok tt} {f = Some 29} refl (refl, refl)) (spec.adopted {w = 29} {x = 1} {r = 7} {a = Ok tt} {f = None} {b = Some 1} (refl, refl) refl (λ e. apart (sym e)) (refl, refl))
          (spec.completed {w = 1} {b = None} (refl, refl) refl refl) (spec.ticked {f = None} {b = None} refl refl))
          runs.stop)))));
      marks = refl;
      observer = refl;
      accepted = refl;
      delivered = refl;
    }
