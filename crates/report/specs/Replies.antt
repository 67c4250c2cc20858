-- The text of an answer: a letter, its numbers in decimal behind single spaces, and the line's end. Assumes nothing.
use Rattle.std.specs.Prelude.{ℕ, List, [], ◌∷◌, ◌++◌, Ok, Err, codes, decimal}
use Rattle.text.specs.Hex.{hex_digits}
use Rattle.wire.specs.Refusals.{Answer, answer_of}
use Rattle.ends.specs.declared.observer.Observer.{Observer}
use Rattle.report.specs.declared.reply.Reply.{Reply}
use Rattle.report.specs.declared.reply.Reply.TheVariants.{One, Hear, Round}

abbrev pub line_end : List ℕ
line_end = 10 ∷ []

abbrev pub number_text : Answer → List ℕ
number_text a = 32 ∷ decimal (answer_of a)

-- after a delivery, the nine digits of the record
abbrev pub record_text : Answer → ℕ → List ℕ
record_text (Ok u) payload = 32 ∷ hex_digits 9 payload
record_text (Err e) payload = []

-- h is byte 104, r byte 114
abbrev pub reply_text : Reply → List ℕ
reply_text (One letter a) = letter ∷ (number_text a ++ line_end)
reply_text (Hear heard reply payload) = 104 ∷ (number_text heard ++ (number_text reply ++ (record_text heard payload ++ line_end)))
reply_text (Round sent heard reply settled payload) =
    114 ∷ (number_text sent ++ (number_text heard ++ (number_text reply ++ (number_text settled ++ (record_text heard payload ++ line_end)))))

-- the last line: which exchange first left the link clean, of how many
abbrev pub sound_text : Observer → List ℕ
sound_text o = codes "sound " ++ (decimal o.first ++ (codes " of " ++ (decimal o.completed ++ line_end)))

-- how many bytes an answer takes at most: 3 for each number, 10 for a record
abbrev pub reply_room : Reply → ℕ
reply_room (One letter a) = 5
reply_room (Hear heard reply payload) = 18
reply_room (Round sent heard reply settled payload) = 24
