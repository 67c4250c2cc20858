use Rattle.std.proofs.Common.{◌∙◌, length-set}
use Rattle.report.proofs.Writing.{digit-before, less}
use Rattle.report.proofs.page.Page.put_hex.Goals as goal

pub loop-place-preserved : goal.loop-place-preserved
loop-place-preserved g c =
    let l = c.loop-place in
    record {
      size = length-set _ _ _ ∙ l.invariant.size;
      digits = digit-before l.digits g.row.COUNT l.place c.args.x l.rest c.hex_digit.result l.invariant.size c.loop-place-test.true l.auto.place l.invariant.digits l.invariant.rest c.hex_digit.ensures;
      rest = less g.row.COUNT l.place c.args.x l.rest c.loop-place-test.true l.auto.place l.invariant.rest;
    }
