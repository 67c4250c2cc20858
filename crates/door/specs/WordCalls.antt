-- Words through the door. Assumes nothing.
use Rattle.std.specs.Prelude.{ℕ, ◌+◌, ◌*◌, ◌^◌, cond, ◌&&◌, Ok, Err, Result, nat_le, nat_lt}
use Rattle.wire.specs.declared.refusal.Refusal.{Refusal}
use Rattle.wire.specs.declared.refusal.Refusal.TheVariants.{Code, Spoilt}
use Rattle.wire.specs.declared.word.Word.{Word}
use Rattle.wire.specs.Formats.{narrow, checked}
use Rattle.wire.specs.Words.{reads}
use Rattle.door.specs.Outputs.{found_as, or_refused}
use Rattle.door.specs.declared.words.WordParts.{WordParts}

-- label, kind and payload with their check below them, where they fit their fields
abbrev pub packed_word : WordParts → Result ℕ Refusal
packed_word p = cond (nat_le p.kind 15 && nat_lt p.payload (2 ^ 36)) (Ok (checked narrow (p.label * 2 ^ 40 + p.kind * 2 ^ 36 + p.payload))) (Err Code)

abbrev pub word_parts : Word → WordParts
word_parts w = record { label = w.label; kind = w.kind; payload = w.payload }

abbrev pub read_word : ℕ → Result WordParts Refusal
read_word bits = found_as word_parts (or_refused Spoilt (reads bits))
