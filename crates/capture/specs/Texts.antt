-- A message, or why there is none, as a person reads it. Assumes nothing.
use Rattle.std.specs.Prelude.{ℕ, List, ◌++◌, Ok, Err, codes, decimal, Result}
use Rattle.commands.specs.CommandText.{command_text}
use Rattle.readings.specs.ReadingText.{reading_text}
use Rattle.capture.specs.declared.message.Content.{Content}
use Rattle.capture.specs.declared.message.Content.TheVariants.{Acknowledgement, Command, Reading}
use Rattle.capture.specs.declared.message.Fault.{Fault}
use Rattle.capture.specs.declared.message.Fault.TheVariants.{NoWord, NotWhole, UnknownKind, NoRecord}
use Rattle.capture.specs.declared.message.Message.{Message}

abbrev pub content_text : Content → List ℕ
content_text Acknowledgement = codes "acknowledgement"
content_text (Command c) = codes "command, " ++ command_text c
content_text (Reading r) = codes "reading, " ++ reading_text r

abbrev pub message_text : Message → List ℕ
message_text m = codes "label " ++ (decimal m.label ++ (codes ": " ++ content_text m.content))

abbrev pub fault_text : Fault → List ℕ
fault_text NoWord = codes "no word"
fault_text NotWhole = codes "not whole"
fault_text (UnknownKind kind) = codes "unknown kind " ++ decimal kind
fault_text (NoRecord kind) = codes "no record of kind " ++ decimal kind

abbrev pub result_text : Result Message Fault → List ℕ
result_text (Ok m) = message_text m
result_text (Err e) = fault_text e
