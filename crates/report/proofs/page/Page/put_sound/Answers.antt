use Rattle.report.proofs.Writing.{both}
use Rattle.report.proofs.page.Page.put_sound.Goals as goal

pub returns-clause-text : goal.returns-clause-text
returns-clause-text c = both c.put_text.ensures (both c.put_decimal.ensures (both c.put_text-2.ensures (both c.put_decimal-2.ensures c.put_byte.ensures)))
