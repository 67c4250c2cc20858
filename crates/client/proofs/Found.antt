-- What a client finds of a link that it took over. Assumes nothing.
use Rattle.std.proofs.Common.{◌≡◌, ℕ, ◌+◌, ◌<◌, ◌≤◌, List, ◌++◌, length, Ok, sym, ap, ◌∙◌, subst, inl, inr, append-nil, arith}
use Rattle.channel.specs.Meaning.{Behaviour}
use Rattle.recovery.specs.Codec.{Codec}
use Rattle.recovery.specs.State.{LinkState}
use Rattle.recovery.specs.Check.{checked_link}
use Rattle.recovery.specs.Runs.{Event, Run}
use Rattle.recovery.specs.Tallies.{accepted_in, delivered_in, completed_in, after_clean, reported}
use Rattle.recovery.specs.Findings.{InOrder, Recovers}
use Rattle.recovery.proofs.Observed.{names_first_lem}
use Rattle.ends.specs.declared.observer.Observer.{Observer}
use Rattle.ends.specs.declared.sender.State.{State}
use Rattle.ends.specs.declared.sender.State.TheVariants.{Idle, UnderWay}
use Rattle.codec.specs.declared.config.Config.{Config}
use Rattle.link.specs.Makings.{observed_anew}
use Rattle.client.specs.Turns.{AllDelivered}

not_both : {s : State} → s ≡ UnderWay → s ≡ Idle → ⊥
not_both h k = let z : ◌≡◌ {A = ℕ} 0 1 = cc in omega arith

module _ {R Rec F B : Type 0} (codec : Config R → Codec Rec) (X : Behaviour F) (Y : Behaviour B) where
  abbrev places : LinkState (Config R) Rec F B → ℕ
  places l = (X.means l.forward).capacity + (Y.means l.back).capacity

  pub found : (l m n : LinkState (Config R) Rec F B) (o : Observer) → Ok tt ≡ checked_link codec X Y 256 l → m ≡ observed_anew l → (checked_link codec X Y 256 m ≡ Ok tt → Recovers codec X Y m)
      → (es : List (Event Rec)) × Run codec X Y m es n → o ≡ n.observer → places l + 2 ≤ o.completed → (0 < o.first) × (o.first ≤ places l + 2)
  found l m n o passed anew promise run seen enough =
      let marks = completed_in run.0 in
      let finds = promise (ap (checked_link codec X Y 256) anew ∙ sym passed) run.0 n run.1 in
      let same : places m ≡ places l = ap places anew in
      let told : o ≡ reported marks = seen ∙ finds.observer in
      let many : places m + 1 < length marks = omega (arith, ap (λ w. w.completed) told) in
      let first = names_first_lem (places m + 1) marks finds.turns_clean many in
      (omega (arith, first.0, ap (λ w. w.first) told), omega (arith, first.1, ap (λ w. w.first) told))

  -- a link that is idle has nothing missing
  whole : (es : List (Event Rec)) (m : LinkState (Config R) Rec F B) → InOrder es m.sender → m.sender.state ≡ Idle → delivered_in es ≡ accepted_in es
  whole es m found idle = elim found.last [
    | inl none ↦ sym (append-nil (delivered_in es)) ∙ ap (λ ms. delivered_in es ++ ms) (sym none) ∙ sym found.order
    | inr busy ↦ absurd (not_both busy.0 idle)
  ]

  pub all-delivered : (l m n : LinkState (Config R) Rec F B) → Ok tt ≡ checked_link codec X Y 256 l → m ≡ observed_anew l → (checked_link codec X Y 256 m ≡ Ok tt → Recovers codec X Y m) → AllDelivered codec X Y (observed_anew l) n
  all-delivered l m n passed anew promise es run idle =
      let finds = promise (ap (checked_link codec X Y 256) anew ∙ sym passed) es n (subst (λ k. Run codec X Y k es n) (sym anew) run) in
      whole (after_clean es) n finds.in_order idle
