use Rattle.std.proofs.Common.{refl}
use Rattle.recovery.specs.Runs.{stop}
use Rattle.codec.specs.Words.{codec}
use Rattle.link.specs.States.{state_of}
use Rattle.model.specs.Models.{shaped_state}
use Rattle.model.specs.Sequences.{after}
use Rattle.model.proofs.ExactRuns.{run_more}
use Rattle.model.proofs.Folds.{fold_more}
use Rattle.model.proofs.running.run.Goals as goal

pub loop-call-init : goal.loop-call-init
loop-call-init g c = (refl, stop)

pub loop-call-preserved : goal.loop-call-preserved
loop-call-preserved g c =
    let words = codec g.R.RecordKind.NUMBER g.R.RecordKind.payload g.R.RecordKind.reads in
    let start = shaped_state g.F.Shaped.shape g.B.Shaped.shape (state_of c.args.link.now) in
    let here = shaped_state g.F.Shaped.shape g.B.Shaped.shape (state_of c.loop-call.link) in
    let next = shaped_state g.F.Shaped.shape g.B.Shaped.shape (state_of c.perform.new.link) in (
      fold_more (after words) start c.args.calls.now c.loop-call.call-index here c.loop-call.invariant.0 c.call-item.result next c.loop-call-test.true c.call-item.is c.perform.ensures.after,
      run_more words start here c.args.calls.now c.loop-call.call-index c.call-item.result c.loop-call-test.true c.call-item.is c.loop-call.invariant.0 c.loop-call.invariant.1 c.perform.ensures.run,
    )
