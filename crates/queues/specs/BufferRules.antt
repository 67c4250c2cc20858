-- Lemmas on lists in circular buffers that the channel rules need. Assumes nothing.
use Rattle.std.specs.Prelude.{◌≡◌, ℕ, zero, suc, ◌+◌, ◌-◌, ◌%◌, ◌<◌, ◌≤◌, min, List, [], ◌∷◌, ◌++◌, length, map, take, drop, refl}
use Rattle.std.proofs.Common.{get_or, sym, ap, ap₂, ◌∙◌, inl, inr, arith, length-append, length-drop, length-take, get_or-drop, get_or-take}
use Rattle.std.proofs.lemmas.Bool.{cases_lt}
use Rattle.std.proofs.lemmas.List.{take-map, drop-map, map-append, length-map, same_lists, get_or_default, get_or_append_left, get_or-append_right}
use Rattle.queues.specs.declared.queue.Queue.{Queue}
use Rattle.queues.specs.Buffers.{window, once_round, held, first, rest}

pub length-window : (buffer : List ℕ) (at n : ℕ) → length (window buffer at n) ≡ n
length-window buffer at zero = refl
length-window buffer at (suc n) = ap suc (length-window buffer (at + 1) n)

-- once round there are as many items as are asked for, as far as the buffer has places
pub length-once_round : {T : Type 0} (buffer : List T) (at n : ℕ) → length (once_round buffer at n) ≡ min n (length buffer)
length-once_round buffer at n =
    let places : length (drop at buffer ++ take at buffer) ≡ length buffer = length-append (drop at buffer) (take at buffer) ∙ omega (arith, length-drop at buffer, length-take at buffer) in
    length-take n (drop at buffer ++ take at buffer) ∙ ap (min n) places

-- the item at a position
pub get_or-once_round : {T : Type 0} (buffer : List T) (at n : ℕ) → length buffer ≡ 64 → at < 64 → n ≤ 64 → (i : ℕ) (d : T) → i < n → get_or (once_round buffer at n) i d ≡ get_or buffer ((at + i) % 64) d
get_or-once_round buffer at n sized inside most i d below =
    let length_tail = length-drop at buffer in
    get_or-take n _ i d below ∙ elim (cases_lt (at + i) 64) [
      | inl low ↦ get_or_append_left _ _ d i (omega arith) ∙ get_or-drop at buffer i d ∙ ap (λ j. get_or buffer j d) (omega arith)
      | inr high ↦ get_or-append_right _ _ (64 - at) i d (omega arith) (omega arith) ∙ get_or-take at buffer _ d (omega arith) ∙ ap (λ j. get_or buffer j d) (omega arith)
    ]

-- the number at a position of a window
get_or-window : (buffer : List ℕ) (at n i : ℕ) → i < n → get_or (window buffer at n) i 0 ≡ get_or buffer ((at + i) % 64) 0
get_or-window buffer at zero i h = absurd (omega arith)
get_or-window buffer at (suc n) zero h = let e : at % 64 ≡ (at + 0) % 64 = omega arith in ap (λ j. get_or buffer j 0) e
get_or-window buffer at (suc n) (suc i) h =
    let e : (at + 1 + i) % 64 ≡ (at + suc i) % 64 = omega arith in
    get_or-window buffer (at + 1) n i (omega arith) ∙ ap (λ j. get_or buffer j 0) e

-- in a buffer of 64 numbers a window is what stands there once round
pub window-once_round : (buffer : List ℕ) (at n : ℕ) → length buffer ≡ 64 → at < 64 → n ≤ 64 → window buffer at n ≡ once_round buffer at n
window-once_round buffer at n sized inside most =
    let long : length (once_round buffer at n) ≡ n = omega (arith, length-once_round buffer at n) in
    let wide : length (window buffer at n) ≡ n = length-window buffer at n in
    same_lists _ _ (wide ∙ sym long) (λ i d below.
    let low : i < n = omega arith in
    get_or_default (window buffer at n) i d 0 (omega arith)
    ∙ get_or-window buffer at n i low
    ∙ sym (get_or-once_round buffer at n sized inside most i 0 low)
    ∙ get_or_default (once_round buffer at n) i 0 d (omega arith))

-- what is done to each place is done to each item once round
pub once_round-map : {T U : Type 0} (f : T → U) (buffer : List T) (at n : ℕ) → once_round (map f buffer) at n ≡ map f (once_round buffer at n)
once_round-map f buffer at n =
    ap (take n) (ap₂ ◌++◌ (drop-map f at buffer) (take-map f at buffer) ∙ sym (map-append f (drop at buffer) (take at buffer)))
    ∙ take-map f n (drop at buffer ++ take at buffer)

-- a number of each item that a queue holds: the window of these numbers
pub window-map : {T : Type 0} (f : T → ℕ) (q : Queue T) → window (map f q.items) q.head q.load ≡ map f (held q)
window-map f q = window-once_round (map f q.items) q.head q.load (length-map q.items f ∙ q.sized) q.inside (omega (arith, q.within, q.most)) ∙ once_round-map f q.items q.head q.load

-- what a queue of numbers holds is the window of its buffer
pub window-held : (q : Queue ℕ) → window q.items q.head q.load ≡ held q
window-held q = window-once_round q.items q.head q.load q.sized q.inside (omega (arith, q.within, q.most))

-- a queue holds as many items as its load says, and no more than it has room for
pub length-held : {T : Type 0} (q : Queue T) → length (held q) ≡ q.load
length-held q = omega (arith, length-once_round q.items q.head q.load, q.sized, q.within, q.most)

pub held_within : {T : Type 0} (q : Queue T) → length (held q) ≤ q.capacity
held_within q = omega (arith, length-held q, q.within)

-- a list with words is its first word and the others
pub first_rest : (xs : List ℕ) → 0 < length xs → xs ≡ first xs ∷ rest xs
first_rest [] l = absurd (omega arith)
first_rest (x ∷ xs) l = refl
