-- Lists in circular buffers of 64 places. Assumes nothing.
use Rattle.std.specs.Prelude.{ℕ, zero, suc, ◌+◌, ◌%◌, List, [], ◌∷◌, ◌++◌, take, drop, slice_index}
use Rattle.queues.specs.declared.queue.Queue.{Queue}

-- so many numbers of a buffer from a place on; after the last place comes the first
abbrev pub window : List ℕ → ℕ → ℕ → List ℕ
window buffer at zero = []
window buffer at (suc n) = slice_index buffer (at % 64) ∷ window buffer (at + 1) n

-- so many items of any buffer from a place on, once round at the most: of 64 numbers it is their window
abbrev pub once_round : {T : Type 0} → List T → ℕ → ℕ → List T
once_round buffer at n = take n (drop at buffer ++ take at buffer)

-- the items that a queue holds, the oldest first
abbrev pub held : {T : Type 0} → Queue T → List T
held q = once_round q.items q.head q.load

-- the first of a list of numbers, or 0 where there is none
abbrev pub first : List ℕ → ℕ
first [] = 0
first (x ∷ xs) = x

-- a list without its first
abbrev pub rest : {T : Type 0} → List T → List T
rest [] = []
rest (x ∷ xs) = xs
