use Rattle.std.proofs.Common.{ap, ◌∙◌, arith}
use Rattle.report.specs.Rooms.{bytes_in}
use Rattle.report.proofs.Runs.{at_first, reply-fits, line-more, last_line}
use Rattle.report.proofs.run.run.Goals as goal

pub loop-line-init : goal.loop-line-init
loop-line-init g c = rw (c.into_iter-line-iterator.ensures.into_iter_gives ∙ c.new-line-items.ensures) (record { text = at_first c.args.page.now _ (omega (arith, c.requires)); short = omega arith })

pub loop-line-preserved : goal.loop-line-preserved
loop-line-preserved g c =
    let line = c.in-Some.line.now in
    let is = rw c.parse_line.ensures at c.answer.ensures in
    record {
      text = line-more g.R.RecordKind.NUMBER g.R.RecordKind.payload g.R.RecordKind.reads line _ _ c.answer.result _ _ is c.in-Some.ensures.steps c.put_reply.ensures.text c.loop-line.invariant.text;
      short = omega (arith, reply-fits g.R.RecordKind.NUMBER g.R.RecordKind.payload g.R.RecordKind.reads line c.answer.result _ _ is, ap bytes_in c.in-Some.ensures.steps, c.loop-line.invariant.short, c.put_reply.ensures.short);
    }

pub returns-clause-text : goal.returns-clause-text
returns-clause-text g c =
    rw c.hand_over.ensures.after at
    (last_line g.R.RecordKind.NUMBER g.R.RecordKind.payload g.R.RecordKind.reads _ c.observer.result _ c.in-None.ensures.steps.0 c.observer.ensures c.put_sound.ensures.text c.loop-line.invariant.text)
