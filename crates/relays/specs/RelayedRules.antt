-- The channel rules of two meanings in a row. Assumes nothing.
use Rattle.std.specs.Prelude.{◌≡◌, ℕ, zero, suc, ◌+◌, ◌<◌, ◌≤◌, ◌⊎◌, List, [], ◌∷◌, ◌++◌, length, Ok, Err, Result, ◌≢◌, refl}
use Rattle.std.proofs.Common.{sym, ap, subst₂, ◌∙◌, inl, inr, arith}
use Rattle.std.proofs.lemmas.List.{length-append, append_assoc, nil_from_length}
use Rattle.wire.specs.Refusals.{Answer}
use Rattle.wire.specs.declared.refusal.Refusal.{Refusal}
use Rattle.channel.specs.Meaning.{Meaning, Standing}
use Rattle.channel.specs.Rules.{Accepted, Taken, Put, Take, Tick, Sublist}
use Rattle.channel.specs.Sublists.{sublist_same, sublist_trans, sublist_append, sublist_length, sublist_without}
use Rattle.channel.specs.WaitRules.{wait-falls}
use Rattle.relays.specs.Relays.{relay_wait, relayed}

-- the wait by the words of the lower and of the upper
abbrev Waits : Meaning → Meaning → List ℕ → List ℕ → ℕ → Type 0
Waits u l xs ys wait =
    ((0 < length xs) × (wait ≡ l.wait))
    ⊎ (((length xs ≡ 0) × (0 < length ys) × (wait ≡ u.wait + 1 + l.delay))
    ⊎ ((length xs ≡ 0) × (length ys ≡ 0) × (wait ≡ l.wait)))

waits : (u l : Meaning) → Waits u l l.contents u.contents (relayed u l).wait
waits u l = go l.contents u.contents
  where
    go : (xs ys : List ℕ) → Waits u l xs ys (relay_wait xs ys l.wait u.wait l.delay)
    go (x ∷ xs) ys = inl (omega arith, refl)
    go [] [] = inr (inr (refl, refl, refl))
    go [] (y ∷ ys) = inr (inl (refl, omega arith, refl))

pub some-length : (xs : List ℕ) → (xs ≢ []) → 0 < length xs
some-length [] h = absurd (h refl)
some-length (x ∷ xs) h = omega arith

not_nil : (xs : List ℕ) → 0 < length xs → xs ≢ []
not_nil xs h e = omega (arith, ap length e)

both_nil : (xs ys : List ℕ) → xs ++ ys ≡ [] → (length xs ≡ 0) × (length ys ≡ 0)
both_nil xs ys e =
    let none : length (xs ++ ys) ≡ 0 = ap length e in
    (omega (arith, length-append xs ys), omega (arith, length-append xs ys))

-- omega takes a sum apart, and not an implication
zero_or : {P : Type 0} (n : ℕ) → (0 < n → P) → ((n ≡ 0) ⊎ P)
zero_or zero f = inl refl
zero_or (suc n) f = inr (f (omega arith))

pub relayed-standing : (u l : Meaning) → Standing u → Standing l → Standing (relayed u l)
relayed-standing u l hu hl =
    let all = length-append l.contents u.contents in
    record {
      room = omega (arith, hu.room);
      within = omega (arith, hu.within, hl.within);
      soon = omega (arith, hu.soon, hl.soon, waits u l);
      still = λ e. let none = both_nil l.contents u.contents e in omega (arith, waits u l, hl.still (nil_from_length l.contents none.0));
      free = λ e. hu.free (nil_from_length u.contents (both_nil l.contents u.contents e).1);
      full = λ e. hu.full (omega (arith, hu.within, hl.within));
    }

grows : (u : Meaning) (w : ℕ) (v : Meaning) → Accepted u w v → length u.contents ≤ length v.contents
grows u w v h = elim h.word [
  | inl k ↦ omega (arith, ap length k.0, length-append u.contents (w ∷ []))
  | inr k ↦ omega (arith, ap length k.0)
]

pub relayed-put : (u l : Meaning) (w : ℕ) (r : Answer) (v : Meaning) → Put u w r v → Put (relayed u l) w r (relayed v l)
relayed-put u l w (Ok x) v h = (
  h.0,
  record {
    wire = record { capacity = omega (arith, h.1.wire.capacity); delay = omega (arith, h.1.wire.delay) };
    wait = λ some.
        let any = some-length (l.contents ++ u.contents) some in
        let all = length-append l.contents u.contents in
        let kept = zero_or (length u.contents) (λ k. h.1.wait (not_nil u.contents k)) in
        let grown : length u.contents ≤ length v.contents = grows u w v h.1 in
        omega (arith, waits u l, waits v l);
    word = elim h.1.word [
      | inl k ↦ inl (ap (λ ws. l.contents ++ ws) k.0 ∙ sym (append_assoc l.contents u.contents (w ∷ [])), omega arith)
      | inr k ↦ inr (ap (λ ws. l.contents ++ ws) k.0, omega arith)
    ];
  },
)
relayed-put u l w (Err e) v h = (h.0, h.1, ap (λ m. relayed m l) h.2)

relayed-silent : (u l : Meaning) → ((l.contents ≡ []) ⊎ (0 < l.wait)) → (((relayed u l).contents ≡ []) ⊎ (0 < (relayed u l).wait))
relayed-silent u l h = go (waits u l)
  where
    go : Waits u l l.contents u.contents (relayed u l).wait → (((relayed u l).contents ≡ []) ⊎ (0 < (relayed u l).wait))
    go (inl k) = elim h [ inl e ↦ absurd (not_nil l.contents k.0 e) | inr p ↦ inr (omega arith) ]
    go (inr (inl k)) = inr (omega arith)
    go (inr (inr k)) = inl (nil_from_length (l.contents ++ u.contents) (omega (arith, length-append l.contents u.contents)))

pub relayed-take : (u l : Meaning) (r : Result ℕ Refusal) (m : Meaning) → Take l r m → Take (relayed u l) r (relayed u m)
relayed-take u l (Ok w) m h = record {
  wire = record { capacity = omega (arith, h.wire.capacity); delay = omega (arith, h.wire.delay) };
  ready = omega (arith, h.ready, ap length h.oldest, waits u l);
  oldest = ap (λ ws. ws ++ u.contents) h.oldest;
  losses = omega (arith, h.losses);
}
relayed-take u l (Err e) m h = (relayed-silent u l h.0, h.1, ap (relayed u) h.2)

-- both tick, and no word moves
pub relayed-rest : (u l v m : Meaning) → Tick u v → Tick l m → ((0 < length m.contents) ⊎ ((v.contents ≡ []) ⊎ (0 < v.wait))) → Tick (relayed u l) (relayed v m)
relayed-rest u l v m hu hl k =
    let all = length-append l.contents u.contents in
    let left = length-append m.contents v.contents in
    let fewer-u = sublist_length hu.order in
    let fewer-l = sublist_length hl.order in
    let rest : (0 < length m.contents) ⊎ ((length v.contents ≡ 0) ⊎ (0 < v.wait)) = elim k [ inl a ↦ inl a | inr b ↦ inr (elim b [ inl e ↦ inl (ap length e) | inr p ↦ inr p ]) ] in
    record {
      wire = record { capacity = omega (arith, hu.wire.capacity, hl.wire.capacity); delay = omega (arith, hu.wire.delay, hl.wire.delay) };
      order = sublist_append hl.order hu.order;
      losses = omega (arith, hu.losses, hl.losses);
      wait = λ same. wait-falls _ _
          (λ more. omega (arith, waits u l, waits v m, hu.wait (omega arith), hl.wait (omega arith), hl.wire.delay))
          (λ none. omega (arith, waits u l, waits v m, hu.wait (omega arith), hl.wait (omega arith), hl.wire.delay));
    }

-- both tick, and a word moves down, or is lost on its way
pub relayed-moved : (u l v m u' m' : Meaning) (w : ℕ) → Tick u v → Tick l m → Taken v w u' → Accepted m w m' → Standing m' → Tick (relayed u l) (relayed u' m')
relayed-moved u l v m u' m' w hu hl ht hp st =
    let all = length-append l.contents u.contents in
    let left = length-append m'.contents u'.contents in
    let fewer-u = sublist_length hu.order in
    let fewer-l = sublist_length hl.order in
    let gone = ap length ht.oldest in
    let kept = zero_or (length m.contents) (λ k. hp.wait (not_nil m.contents k)) in
    let word : ((length m'.contents ≡ length m.contents + 1) × (m'.losses ≡ m.losses)) ⊎ ((length m'.contents ≡ length m.contents) × (m'.losses + 1 ≡ m.losses)) =
    elim hp.word [ inl k ↦ inl (ap length k.0 ∙ length-append m.contents (w ∷ []), k.1) | inr k ↦ inr (ap length k.0, k.1) ] in
    record {
      wire = record {
        capacity = omega (arith, hu.wire.capacity, hl.wire.capacity, ht.wire.capacity, hp.wire.capacity);
        delay = omega (arith, hu.wire.delay, hl.wire.delay, ht.wire.delay, hp.wire.delay);
      };
      order = sublist_trans moved (sublist_append hl.order hu.order);
      losses = omega (arith, hu.losses, hl.losses, ht.losses);
      wait = λ same. wait-falls _ _
          (λ more. omega (arith, waits u l, waits u' m', hl.wait (omega arith), st.soon, hl.wire.delay, hp.wire.delay))
          (λ none. omega (arith, waits u l, waits u' m', hl.wait (omega arith), st.soon, hl.wire.delay, hp.wire.delay));
    }
  where
    moved : Sublist (m'.contents ++ u'.contents) (m.contents ++ v.contents)
    moved = elim hp.word [
      | inl k ↦ sublist_same _ _ (ap (λ ws. ws ++ u'.contents) k.0 ∙ append_assoc m.contents (w ∷ []) u'.contents ∙ ap (λ ws. m.contents ++ ws) (sym ht.oldest))
      | inr k ↦ subst₂ (λ xs ys. Sublist (xs ++ u'.contents) (m.contents ++ ys)) (sym k.0) (sym ht.oldest) (sublist_without m.contents w u'.contents)
    ]
