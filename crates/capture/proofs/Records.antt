-- A packed word, written in sixteen digits, decodes to what it carries. Assumes nothing.
use Rattle.std.proofs.Common.{◌≡◌, ℕ, ◌^◌, ◌<◌, false, eqb, length, None, Ok, refl, ap, ◌∙◌, ap₂, arith}
use Rattle.std.proofs.lemmas.Bool.{and_left, cond-true, cond-false, eq-eqb}
use Rattle.text.specs.Hex.{hex_number, hex_digits}
use Rattle.text.proofs.HexDigits.{digits_read, length_digits}
use Rattle.wire.specs.declared.word.Word.{Word}
use Rattle.wire.specs.Words.{packed, acknowledges}
use Rattle.wire.proofs.Roundtrip.{packed-reads}
use Rattle.commands.specs.Commands.{command_payload}
use Rattle.readings.specs.Readings.{reading_payload}
use Rattle.commands.specs.CommandLaws as command
use Rattle.readings.specs.ReadingLaws as reading
use Rattle.capture.specs.declared.message.Content.TheVariants.{Acknowledgement, Command, Reading}
use Rattle.capture.specs.Decoding.{record_in, as_content, record_of, content_of, labelled, word_decoded, bits_decoded, decoded, RecordsDecode}

packed-small : (w : Word) → packed w < 16 ^ 16
packed-small w = omega arith

word_decodes : (w : Word) → decoded (hex_digits 16 (packed w)) ≡ labelled w.label (content_of w)
word_decodes w =
    let line = hex_digits 16 (packed w) in
    ap bits_decoded (cond-true (eqb (length line) 16) (hex_number line) None (eq-eqb (length line) 16 (length_digits 16 (packed w))) ∙ digits_read 16 (packed w) (omega arith) (packed-small w))
    ∙ ap word_decoded (packed-reads w)

-- what stands under another kind than 0 is a record
carries : (w : Word) (kind payload : ℕ) → w.kind ≡ kind → w.payload ≡ payload → eqb kind 0 ≡ false → content_of w ≡ record_of kind payload
carries w kind payload k p e =
    cond-false (acknowledges w) (Ok Acknowledgement) (record_of w.kind w.payload) (and_left (eqb w.kind 0) (eqb w.payload 0) (ap (λ n. eqb n 0) k ∙ e))
    ∙ ap₂ record_of k p

pub records_decode : RecordsDecode
records_decode = record {
  commands = λ w c k p. word_decodes w ∙ ap (labelled w.label) (carries w 1 (command_payload c) k p refl ∙ ap (λ o. as_content Command (record_in 1 o)) (command.back c));
  readings = λ w r k p. word_decodes w ∙ ap (labelled w.label) (carries w 2 (reading_payload r) k p refl ∙ ap (λ o. as_content Reading (record_in 2 o)) (reading.back r));
}
