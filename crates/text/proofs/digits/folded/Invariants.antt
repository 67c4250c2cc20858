use Rattle.std.proofs.Common.{◌≡◌, ◌^◌, ◌<◌, ◌≤◌, length, drop}
use Rattle.text.specs.Digits.{number_from}
use Rattle.text.proofs.digits.folded.Given as goal

abbrev pub invariant-loop-byte : goal.invariant-loop-byte
invariant-loop-byte g l =
    (number_from g.D.Digits.value g.D.Digits.BASE l.number (drop l.byte-index l.digits) ≡ number_from g.D.Digits.value g.D.Digits.BASE 0 l.digits)
    × (l.number < g.D.Digits.BASE ^ l.byte-index)
    × (l.byte-index ≤ length l.digits)
