use Rattle.std.proofs.Common.{◌≡◌, ℕ, true, ◌∷◌, is_ok, Ok, Err, refl, rules}
use Rattle.wire.specs.Refusals.{Answer}
use Rattle.text.specs.Hex.{hex_digits}
use Rattle.report.specs.Replies.{record_text}
use Rattle.report.proofs.Writing.{both, named}
use Rattle.report.proofs.page.Page.put_record.Goals as goal

delivered : (a : Answer) (payload : ℕ) → is_ok a ≡ true → 32 ∷ hex_digits 9 payload ≡ record_text a payload
delivered (Ok u) payload h = refl
delivered (Err e) payload h = cc

pub returns-then-is_ok-clause-text : goal.returns-then-is_ok-clause-text
returns-then-is_ok-clause-text c = named _ _ (delivered c.args.heard c.args.payload (search rules)) (both c.put_byte.ensures c.put_hex.ensures)
