use Rattle.std.proofs.Common.{◌≡◌, ℕ, ◌+◌, ◌*◌, ◌%◌, ◌^◌, ◌<◌, ◌≤◌, ap, ◌∙◌, arith}
use Rattle.wire.specs.Formats.{narrow, checked}
use Rattle.wire.specs.Words.{reads}
use Rattle.wire.proofs.Roundtrip.{packed-reads}
use Rattle.wire.proofs.word.Word.pack.Goals as goal

-- nothing is cut off where both parts fit
fitting : (v k : ℕ) → v < 2 ^ 48 → k ≤ 65521 → (v * 2 ^ 16 + k % 2 ^ 16) % 2 ^ 64 ≡ v * 2 ^ 16 + k
fitting v k h l = omega arith

pub returns : goal.returns
returns c =
    let v = c.upper_bits-v in
    let k = c.check_of in
    let e = c.join.ensures ∙ fitting v.result k.result v.ensures.bound k.ensures.bound ∙ ap (λ n. v.result * 2 ^ 16 + n) k.ensures.value ∙ ap (checked narrow) v.ensures.value in
    record { value = e; back = ap reads e ∙ packed-reads c.args.self }
