-- Words with due numbers: none is due later than the delay, and a tick lowers every due number. Assumes nothing.
use Rattle.std.proofs.Common.{◌≡◌, ℕ, ◌+◌, ◌-◌, ◌≤◌, List, [], ◌∷◌, map, All, refl, ap, ap₂, arith}
use Rattle.std.proofs.lemmas.List.Elements.{All-map, All-tail}
use Rattle.queues.specs.declared.line.Timed.{Timed}
use Rattle.queues.specs.Buffers.{rest}
use Rattle.queues.specs.Lines.{sooner, dues_at, lowered}

pub soon_rest : (latest : ℕ) (items : List Timed) → All (λ item. item.ready ≤ latest) items → All (λ item. item.ready ≤ latest) (rest items)
soon_rest latest [] h = h
soon_rest latest (item ∷ items) h = All-tail (λ (i : Timed). i.ready ≤ latest) item items h

pub soon_later : (now delay : ℕ) (items : List Timed) → All (λ item. item.ready ≤ now + delay) items → All (λ item. item.ready ≤ now + 1 + delay) items
soon_later now delay items h = λ k d below. omega (arith, h k d below)

pub dues_later : (now : ℕ) (items : List Timed) → dues_at (now + 1) items ≡ lowered (dues_at now items)
dues_later now [] = refl
dues_later now (item ∷ items) =
    let one_less : item.ready - (now + 1) ≡ item.ready - now - 1 = omega arith in
    ap₂ (λ due dues. due ∷ dues) one_less (dues_later now items)

-- where every word is made sooner by the count, the count begins again at 0
pub soon_sooner : (now delay : ℕ) (items : List Timed) → All (λ item. item.ready ≤ now + delay) items → All (λ item. item.ready ≤ 0 + delay) (map (sooner now) items)
soon_sooner now delay items h = All-map (λ (i : Timed). i.ready ≤ 0 + delay) (sooner now) items (λ k d below. omega (arith, h k d below))

pub words_sooner : (ticks : ℕ) (items : List Timed) → map (λ item. item.word) (map (sooner ticks) items) ≡ map (λ item. item.word) items
words_sooner ticks [] = refl
words_sooner ticks (item ∷ items) = ap (λ xs. item.word ∷ xs) (words_sooner ticks items)

pub dues_sooner : (now : ℕ) (items : List Timed) → dues_at 0 (map (sooner now) items) ≡ dues_at now items
dues_sooner now [] = refl
dues_sooner now (item ∷ items) =
    let same : item.ready - now - 0 ≡ item.ready - now = omega arith in
    ap₂ (λ due dues. due ∷ dues) same (dues_sooner now items)
