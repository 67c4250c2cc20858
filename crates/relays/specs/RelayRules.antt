-- A relay of any two channels keeps the channel rules. Assumes nothing.
use Rattle.std.specs.Prelude.{◌≡◌, ℕ, ◌<◌, Bool, true, false, ◌⊎◌, [], length, Ok, Err, Result, refl}
use Rattle.std.proofs.Common.{sym, subst, subst₂, inl, inr}
use Rattle.std.proofs.lemmas.Bool.{both_ways}
use Rattle.wire.specs.Refusals.{Answer}
use Rattle.wire.specs.declared.refusal.Refusal.{Refusal}
use Rattle.channel.specs.Meaning.{Meaning, Behaviour}
use Rattle.channel.specs.Rules.{Put, Take, Tick, ChannelRules}
use Rattle.relays.specs.declared.relay.Relay.{Relay}
use Rattle.relays.specs.Relays.{relayed, MovesDown, RelayMove, relay_behaviour}
use Rattle.relays.specs.RelayedRules.{some-length, relayed-standing, relayed-put, relayed-take, relayed-rest, relayed-moved}

module _ {U L : Type 0} {X : Behaviour U} {Y : Behaviour L} (upper : ChannelRules X) (lower : ChannelRules Y) where
  abbrev means : Relay U L → Meaning
  means s = relayed (X.means s.upper) (Y.means s.lower)

  module _ (s t : Relay U L) (u : U) (l : L) (hu : X.ticks s.upper u) (hl : Y.ticks s.lower l) where
    rest : ((0 < length (Y.means l).contents) ⊎ (((X.means u).contents ≡ []) ⊎ (0 < (X.means u).wait))) → Tick (means s) (relayed (X.means u) (Y.means l))
    rest k = relayed-rest _ _ _ _ (upper.tick _ _ hu) (lower.tick _ _ hl) k

    moves : (Y.means l).is_open ≡ true → (r : Result ℕ Refusal) → X.takes u r t.upper → MovesDown Y.puts r l t.lower → Tick (means s) (means t)
    moves o (Ok w) a b = put b.0 (lower.put l w b.0 t.lower b.1)
      where
        put : (q : Answer) → Put (Y.means l) w q (Y.means t.lower) → Tick (means s) (means t)
        put (Ok x) p =
            relayed-moved _ _ (X.means u) (Y.means l) _ _ w (upper.tick _ _ hu) (lower.tick _ _ hl) (upper.take u (Ok w) t.upper a) p.1
            (lower.standing t.lower)
        put (Err e) p = absurd (both_ways (Y.means l).is_open p.0 o)
    moves o (Err e) a b =
        let k = upper.take u (Err e) t.upper a in
        subst₂ (λ v m. Tick (means s) (relayed v (Y.means m))) (sym k.2) (sym b) (rest (inr k.0))

    relay-tick : (b : Bool) → (Y.means l).is_open ≡ b → RelayMove b X.takes Y.puts u l t → Tick (means s) (means t)
    relay-tick true o k = moves o k.0 k.1 k.2
    relay-tick false o k =
        let held = some-length (Y.means l).contents (λ e. both_ways (Y.means l).is_open o ((lower.standing l).free e)) in
        subst₂ (λ v m. Tick (means s) (relayed (X.means v) (Y.means m))) (sym k.0) (sym k.1) (rest (inl held))

  pub relay_rules : ChannelRules (relay_behaviour X Y)
  relay_rules = record {
    standing = λ s. relayed-standing _ _ (upper.standing s.upper) (lower.standing s.lower);
    put = λ s w r t h.
        subst (λ l. Put (means s) w r (relayed (X.means t.upper) (Y.means l))) (sym h.1)
        (relayed-put _ (Y.means s.lower) w r _ (upper.put s.upper w r t.upper h.0));
    take = λ s r t h.
        subst (λ u. Take (means s) r (relayed (X.means u) (Y.means t.lower))) (sym h.1)
        (relayed-take (X.means s.upper) _ r _ (lower.take s.lower r t.lower h.0));
    tick = λ s t h. relay-tick s t h.0 h.1 h.2 h.3 (Y.means h.1).is_open refl h.4;
  }
