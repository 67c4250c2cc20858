-- What a pigeonhole means, and what its calls do. Assumes nothing.
use Rattle.std.specs.Prelude.{◌≡◌, ℕ, ◌+◌, ◌-◌, Bool, true, false, List, [], ◌∷◌, Some, None, Ok, Err, MatchBool, Option, Result, ◌==◌, nat_lt}
use Rattle.wire.specs.Refusals.{Answer}
use Rattle.wire.specs.declared.refusal.Refusal.{Refusal}
use Rattle.wire.specs.declared.refusal.Refusal.TheVariants.{Full, Silent}
use Rattle.channel.specs.Meaning.{Meaning, Behaviour}
use Rattle.stranger.specs.declared.hole.Pigeonhole.{Pigeonhole}

abbrev pub held : Option ℕ → List ℕ
held None = []
held (Some w) = w ∷ []

abbrev pub waiting : Option ℕ → ℕ → ℕ
waiting None wait = 0
waiting (Some w) wait = wait

abbrev pub is_free : Option ℕ → Bool
is_free None = true
is_free (Some w) = false

-- by the word, its wait, the delay and the leaks left
abbrev pub hole_meaning : Option ℕ → ℕ → ℕ → ℕ → Meaning
hole_meaning word wait delay leaks = record { contents = held word; capacity = 1; delay = delay; wait = waiting word wait; losses = leaks; is_open = is_free word }

abbrev pub hole_means : Pigeonhole → Meaning
hole_means s = hole_meaning s.word s.wait s.delay s.leaks

-- a put, by the word and its wait before, the delay, the answer, and the word and its wait after
abbrev pub HolePut : Option ℕ → ℕ → ℕ → ℕ → Answer → Option ℕ → ℕ → Type 0
HolePut None wait delay w r word' wait' = (r ≡ Ok tt) × (word' ≡ Some w) × (wait' ≡ delay)
HolePut (Some x) wait delay w r word' wait' = (r ≡ Err Full) × (word' ≡ Some x) × (wait' ≡ wait)

-- a take, by the word and its wait before, the answer, and the word and its wait after
abbrev pub HoleTake : Option ℕ → ℕ → Result ℕ Refusal → Option ℕ → ℕ → Type 0
HoleTake None wait r word' wait' = (r ≡ Err Silent) × (word' ≡ None) × (wait' ≡ wait)
HoleTake (Some w) wait r word' wait' =
    MatchBool (wait == 0) ((r ≡ Ok w) × (word' ≡ None) × (wait' ≡ wait)) ((r ≡ Err Silent) × (word' ≡ Some w) × (wait' ≡ wait))

-- a tick, by the word, its wait and the leaks left, before and after
abbrev pub HoleTick : Option ℕ → ℕ → ℕ → Option ℕ → ℕ → ℕ → Type 0
HoleTick None wait leaks word' wait' leaks' = (word' ≡ None) × (wait' ≡ wait) × (leaks' ≡ leaks)
HoleTick (Some w) wait leaks word' wait' leaks' =
    MatchBool (nat_lt 0 leaks) ((word' ≡ None) × (wait' ≡ wait) × (leaks' + 1 ≡ leaks)) ((word' ≡ Some w) × (wait' ≡ wait - 1) × (leaks' ≡ leaks))

-- what a pigeonhole means and does
abbrev pub hole_behaviour : Behaviour Pigeonhole
hole_behaviour = record {
  means = hole_means;
  puts = λ s w r t. HolePut s.word s.wait s.delay w r t.word t.wait × (t.delay ≡ s.delay) × (t.leaks ≡ s.leaks);
  takes = λ s r t. HoleTake s.word s.wait r t.word t.wait × (t.delay ≡ s.delay) × (t.leaks ≡ s.leaks);
  ticks = λ s t. HoleTick s.word s.wait s.leaks t.word t.wait t.leaks × (t.delay ≡ s.delay);
}
