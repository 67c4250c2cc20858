-- The faults and the calls that the witnesses go through. Assumes nothing.
use Rattle.std.specs.Prelude.{List, [], ◌∷◌}
use Rattle.commands.specs.declared.command.Command.{Command}
use Rattle.commands.specs.declared.command.kind.Commands.{Commands}
use Rattle.codec.specs.declared.config.Config.{Config}
use Rattle.shapes.specs.Shapes.{ring}
use Rattle.link.specs.declared.calls.Call.{Call}
use Rattle.link.specs.declared.calls.Call.TheVariants.{Offer, Send, Hear, Settle, Round}
use Rattle.link.specs.declared.calls.Fault.{Fault}
use Rattle.link.specs.declared.calls.Fault.TheVariants.{PutForward, PutBack}
use Rattle.model.specs.Models.{Model}
use Rattle.model.specs.Makings.{new_of}
use Rattle.model.specs.Disturbances.{disturbed_all}

-- both rings of 1, 4 labels
abbrev pub in_step : Command → Model (Config Commands) Command
in_step r = new_of (record {}) 4 (ring [] 1) (ring [] 1) r

abbrev pub in_step_calls : Command → List (Call Command)
in_step_calls r = Offer r ∷ Round ∷ []

-- the words that carry the command to stop under the labels 2 and 3, and the acknowledgement of label 1
abbrev pub stray_words : List (Fault Command)
stray_words = PutForward 0x0211000000002EF1 ∷ PutForward 0x0311000000004DE2 ∷ PutBack 0x0100000000001EF1 ∷ []

-- rings of 2 and 1, 5 labels, and each place taken by a word under a label that the sender is about to use
abbrev pub out_of_step : Command → Model (Config Commands) Command
out_of_step r = disturbed_all (new_of (record {}) 5 (ring [] 2) (ring [] 1) r) stray_words

abbrev pub out_of_step_calls : Command → List (Call Command)
out_of_step_calls r = Offer r ∷ Settle ∷ Offer r ∷ Hear ∷ Send ∷ Settle ∷ Offer r ∷ Hear ∷ Settle ∷ Offer r ∷ Round ∷ Round ∷ []
