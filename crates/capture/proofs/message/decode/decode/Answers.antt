use Rattle.capture.proofs.Records.{records_decode}
use Rattle.capture.proofs.message.decode.decode.Goals as goal

pub returns : goal.returns
returns c = record { value = c.message_in.ensures; records = records_decode }
