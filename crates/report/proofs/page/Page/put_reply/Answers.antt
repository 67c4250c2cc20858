use Rattle.std.proofs.Common.{sym, ap}
use Rattle.report.specs.Replies.{reply_text}
use Rattle.report.proofs.Writing.{both, named}
use Rattle.report.proofs.page.Page.put_reply.Goals.{in-One, in-Hear, in-Round}
use Rattle.report.proofs.page.Page.put_reply.Goals as goal

pub returns-clause-text : goal.returns-clause-text
returns-clause-text c = elim c.match-reply.branch [
  | in-One w ↦
      named _ (reply_text c.args.reply) (ap reply_text (sym w.in-One.is))
      (both w.put_byte.ensures (both w.put_number.ensures.text (rw w.self-is at c.put_byte-2.ensures)))
  | in-Hear w ↦
      named _ (reply_text c.args.reply) (ap reply_text (sym w.in-Hear.is))
      (both w.put_byte-in-Hear.ensures
      (both w.put_number-in-Hear.ensures.text
      (both w.put_number-in-Hear-2.ensures.text
      (both w.put_record.ensures.text (rw w.self-is at c.put_byte-2.ensures)))))
  | in-Round w ↦
      named _ (reply_text c.args.reply) (ap reply_text (sym w.in-Round.is))
      (both w.put_byte-in-Round.ensures
      (both w.put_number-in-Round.ensures.text
      (both w.put_number-in-Round-2.ensures.text
      (both w.put_number-in-Round-3.ensures.text
      (both w.put_number-in-Round-4.ensures.text
      (both w.put_record-in-Round.ensures.text (rw w.self-is at c.put_byte-2.ensures)))))))
]
