-- What a round is answered, as text. Assumes nothing.
use Rattle.std.specs.Prelude.{ℕ, List, ◌++◌, codes, decimal}
use Rattle.wire.specs.Refusals.{answer_of}
use Rattle.lab_lines.specs.declared.reply.Round.{Round}

-- the numbers of the four answers: 0 is done
abbrev pub round_text : Round → List ℕ
round_text r =
    codes "round " ++ (decimal (answer_of r.sent) ++ (codes " " ++ (decimal (answer_of r.heard) ++ (codes " " ++ (decimal (answer_of r.reply) ++ (codes " " ++ decimal (answer_of r.settled)))))))
