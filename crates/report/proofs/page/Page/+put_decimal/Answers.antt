use Rattle.std.proofs.Common.{◌+◌, ◌/◌, ◌%◌, [], ◌∷◌, ◌++◌, decimal, arith}
use Rattle.report.proofs.Writing.{both, named, digit_is, digits_are}
use Rattle.report.proofs.page.Page.+put_decimal.Goals as goal

pub returns-then-n-lt10 : goal.returns-then-n-lt10
returns-then-n-lt10 t c = named ((48 + c.args.n) ∷ []) (decimal c.args.n) (digit_is c.args.n c.if-n-lt10.true) c.put_byte.ensures

pub returns : goal.returns
returns t c = named (decimal (c.args.n / 10) ++ ((48 + c.args.n % 10) ∷ [])) (decimal c.args.n) (digits_are c.args.n c.if-n-lt10.false (omega arith)) (both c.put_decimal.ensures c.put_byte-2.ensures)
