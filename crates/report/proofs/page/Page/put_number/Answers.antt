use Rattle.std.proofs.Common.{ℕ, List, ◌∷◌, ◌∙◌, decimal, ap, arith}
use Rattle.report.specs.Replies.{number_text}
use Rattle.report.proofs.Writing.{named, digit_is, two_digits}
use Rattle.report.proofs.page.Page.put_number.Goals as goal

pub returns-then-number-lt10-clause-text : goal.returns-then-number-lt10-clause-text
returns-then-number-lt10-clause-text c =
    let digits = digit_is c.answer_number-number.result c.if-number-lt10.true in
    named _ (number_text c.args.answer) (ap (λ (ds : List ℕ). 32 ∷ ds) digits ∙ ap (λ (n : ℕ). 32 ∷ decimal n) c.answer_number-number.ensures.value) c.put_text.ensures

pub returns-else-number-lt10-clause-text : goal.returns-else-number-lt10-clause-text
returns-else-number-lt10-clause-text c =
    let digits = two_digits c.answer_number-number.result c.if-number-lt10.false (omega (arith, c.answer_number-number.ensures.within)) in
    named _ (number_text c.args.answer) (ap (λ (ds : List ℕ). 32 ∷ ds) digits ∙ ap (λ (n : ℕ). 32 ∷ decimal n) c.answer_number-number.ensures.value) c.put_text-else-number-lt10.ensures
