-- The channel rules for those states of a sort of channel that have a property, where every call leads from such a state to such a
-- state. Assumes nothing.
use Rattle.std.proofs.Common.{ℕ, Result}
use Rattle.wire.specs.Refusals.{Answer}
use Rattle.wire.specs.declared.refusal.Refusal.{Refusal}
use Rattle.channel.specs.Meaning.{Standing, Behaviour}
use Rattle.channel.specs.Rules.{Put, Take, Tick, ChannelRules}

pub record RulesOn {C : Type 0} (P : C → Type 0) (X : Behaviour C) : Type 0 where
  pub standing : (s : C) → P s → Standing (X.means s)
  pub put : (s : C) (w : ℕ) (r : Answer) (t : C) → P s → X.puts s w r t → Put (X.means s) w r (X.means t) × P t
  pub take : (s : C) (r : Result ℕ Refusal) (t : C) → P s → X.takes s r t → Take (X.means s) r (X.means t) × P t
  pub tick : (s t : C) → P s → X.ticks s t → Tick (X.means s) (X.means t) × P t

-- every state
abbrev pub Any : {C : Type 0} → C → Type 0
Any s = Unit {0}

pub on-all : {C : Type 0} {X : Behaviour C} → ChannelRules X → RulesOn Any X
on-all x = record {
  standing = λ s _. x.standing s;
  put = λ s w r t _ h. (x.put s w r t h, tt);
  take = λ s r t _ h. (x.take s r t h, tt);
  tick = λ s t _ h. (x.tick s t h, tt);
}
