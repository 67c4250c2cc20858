use Rattle.std.proofs.Common.{refl, ap, length, sym, ◌∙◌, arith}
use borrow.Author.Tests.{eqb-false}
use Rattle.text.proofs.Cuts.{behind_cut}
use Rattle.text.proofs.Splits.{splits}
use Rattle.text.proofs.lines.split_line.Goals as goal

pub returns : goal.returns
returns c =
    let text = c.args.text.now in
    let cut = c.first_line.ensures in
    let rest = ap (λ x. x.now) c.unwrap_or.ensures ∙ behind_cut 10 text _ _ cut.rest refl in
    let both = splits text _ _ (omega (arith, eqb-false (length text) 0 (sym c.if-is_empty.ensures))) cut.line rest in
    record { parts = (cut.line, rest); lines = both.0; shorter = both.1 }
