use Rattle.std.proofs.Common.{◌≡◌, ◌^◌, ◌<◌, true, sym, ap, ◌∙◌, ap₂, arith}
use Rattle.wire.specs.Formats.{narrow, whole}
use Rattle.wire.specs.Words.{packed, carried, given}
use Rattle.wire.proofs.Roundtrip.{word_ext, reads-once}
use Rattle.wire.proofs.word.Word.read.Goals as goal

pub returns : goal.returns
returns c =
    let bits = c.args.bits in
    let small : bits < 2 ^ 64 = omega arith in
    let e : true ≡ whole narrow bits = c.if-not-is_whole.ensures.value in
    let same = word_ext _ (carried bits) c.label_in.ensures c.kind_in.ensures c.payload_in.ensures in
    record { value = ap₂ given e same; once = ap packed same ∙ reads-once bits small (sym e) }
