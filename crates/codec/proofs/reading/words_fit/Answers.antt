use Rattle.std.proofs.Common.{length, arith}
use Rattle.channel.proofs.Peeks.{refused-past}
use Rattle.channel.specs.Meaning.{answered}
use Rattle.codec.proofs.Scan.{fit_more, fit_not}
use Rattle.codec.proofs.reading.words_fit.Goals.{in-Ok+else-not-word_fits, in_default}
use Rattle.codec.proofs.reading.words_fit.Goals as goal

pub returns-then-not-word_fits : goal.returns-then-not-word_fits
returns-then-not-word_fits g c read k =
    let ws = g.C.Channel.contents c.args.channel.now in
    fit_not read c.args.label ws c.loop-at.at (answered (length ws)) c.in-Ok.bits c.in-Ok.ensures (c.if-not-word_fits.ensures read k) (omega (arith, c.load-at-end.ensures))

pub loop-at-preserved : goal.loop-at-preserved
loop-at-preserved g c read k =
    let ws = g.C.Channel.contents c.args.channel.now in
    elim c.match-peek.branch [
      | in-Ok+else-not-word_fits w ↦ fit_more read c.args.label ws c.loop-at.at w.in-Ok.bits w.in-Ok.ensures (w.if-not-word_fits.ensures read k) (c.loop-at.invariant read k)
      | in_default w ↦ absurd (omega (arith, refused-past ws c.loop-at.at _ w.in_default.ensures, c.load-at-end.ensures))
    ]
