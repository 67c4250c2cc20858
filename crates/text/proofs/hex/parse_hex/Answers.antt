use Rattle.text.proofs.HexDigits.{digits_read}
use Rattle.text.proofs.hex.parse_hex.Goals as goal

pub returns : goal.returns
returns c = record { value = c.number_in.ensures.value; below = c.number_in.ensures.below; back = digits_read }
