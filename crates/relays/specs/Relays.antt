-- What a relay means, and what its calls do. Assumes nothing.
use Rattle.std.specs.Prelude.{◌≡◌, ℕ, ◌+◌, Bool, true, false, List, [], ◌∷◌, ◌++◌, Ok, Err, Result}
use Rattle.wire.specs.Refusals.{Answer}
use Rattle.wire.specs.declared.refusal.Refusal.{Refusal}
use Rattle.channel.specs.Meaning.{Meaning, Behaviour}
use Rattle.relays.specs.declared.relay.Relay.{Relay}

-- The wait of a relay, by the words of the lower and of the upper, their waits and the lower's delay: the lower's wait;
-- but a word that is still in the upper, with none before it, has its wait there, a tick to move down, and the lower's
-- delay before it.
abbrev pub relay_wait : List ℕ → List ℕ → ℕ → ℕ → ℕ → ℕ
relay_wait (x ∷ xs) ys lower upper delay = lower
relay_wait [] [] lower upper delay = lower
relay_wait [] (y ∷ ys) lower upper delay = upper + 1 + delay

-- a relay by what its upper and its lower channel mean
abbrev pub relayed : Meaning → Meaning → Meaning
relayed upper lower = record {
  contents = lower.contents ++ upper.contents;
  capacity = upper.capacity + lower.capacity;
  delay = upper.delay + lower.delay + 1;
  wait = relay_wait lower.contents upper.contents lower.wait upper.wait lower.delay;
  losses = upper.losses + lower.losses;
  is_open = upper.is_open;
}

-- what the upper gave is put into the lower
abbrev pub MovesDown : {L : Type 0} → (L → ℕ → Answer → L → Type 0) → Result ℕ Refusal → L → L → Type 0
MovesDown puts (Ok w) l m = (a : Answer) × puts l w a m
MovesDown puts (Err e) l m = m ≡ l

module _ {U L : Type 0} where
  -- a put goes to the upper
  abbrev pub RelayPut : (U → ℕ → Answer → U → Type 0) → Relay U L → ℕ → Answer → Relay U L → Type 0
  RelayPut puts s w r t = puts s.upper w r t.upper × (t.lower ≡ s.lower)

  -- a take goes to the lower
  abbrev pub RelayTake : (L → Result ℕ Refusal → L → Type 0) → Relay U L → Result ℕ Refusal → Relay U L → Type 0
  RelayTake takes s r t = takes s.lower r t.lower × (t.upper ≡ s.upper)

  -- What follows once both have ticked, the upper to `u` and the lower to `l`, by whether the lower is open then: one
  -- word that the upper gives moves down.
  abbrev pub RelayMove : Bool → (U → Result ℕ Refusal → U → Type 0) → (L → ℕ → Answer → L → Type 0) → U → L → Relay U L → Type 0
  RelayMove true takes puts u l t = (r : Result ℕ Refusal) × takes u r t.upper × MovesDown puts r l t.lower
  RelayMove false takes puts u l t = (t.upper ≡ u) × (t.lower ≡ l)

  -- a tick, by the upper's takes and ticks, and when the lower is open, its puts and its ticks
  abbrev pub RelayTick : (U → Result ℕ Refusal → U → Type 0) → (U → U → Type 0) → (L → Bool) → (L → ℕ → Answer → L → Type 0) → (L → L → Type 0) → Relay U L → Relay U L → Type 0
  RelayTick takes ticksUpper is_open puts ticksLower s t =
      (u : U) × (l : L) × ticksUpper s.upper u × ticksLower s.lower l × RelayMove (is_open l) takes puts u l t

  -- the behaviour of a relay by those of its upper and its lower channel
  abbrev pub relay_behaviour : Behaviour U → Behaviour L → Behaviour (Relay U L)
  relay_behaviour X Y = record {
    means = λ s. relayed (X.means s.upper) (Y.means s.lower);
    puts = RelayPut X.puts;
    takes = RelayTake Y.takes;
    ticks = RelayTick X.takes X.ticks (λ l. (Y.means l).is_open) Y.puts Y.ticks;
  }
