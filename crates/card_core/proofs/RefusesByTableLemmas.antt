-- What refuses a command by the table alone leaves the card as it was.
use Rattle.std.proofs.Common.{◌≡◌, List, [], Option, Result, Err, ◌∙◌, ap}
use Rattle.uicc_types.specs.declared.answers.StatusWord.{StatusWord}
use Rattle.apdu_form.specs.Model.{Apdu}
use Rattle.card_state.specs.Memory.{Memory}
use Rattle.card_state.specs.Persistent.{Pin}
use Rattle.access_rules.specs.declared.rules.Verified.{Verified}
use Rattle.file_model.specs.Commands.{pin_outcome, pin_settled}
use Rattle.file_model.specs.declared.commands.PinCommand.{PinCommand}
use Rattle.file_model.specs.declared.selections.Selection.{Selection}
use Rattle.file_model.specs.Outcomes.{PinOutcome, settled_pin}
use Rattle.card_core.specs.Cards.{memory_of}
use Rattle.card_core.specs.Parts.{CardParts}

-- the card with this memory, and this selected on its channels
abbrev pub with_memory : CardParts → Memory → List (Option Selection) → CardParts
with_memory parts memory channels = record parts {
  recovered = memory.recovered;
  byte_count = memory.size;
  store_mark = memory.mark;
  told = memory.told;
  meter = memory.meter;
  commits = memory.commits;
  reads = memory.reads;
  recoveries = memory.recoveries;
  table = memory.table;
  channels = channels;
}

pub all_stays : (parts : CardParts) (memory : Memory) (channels : List (Option Selection)) → memory ≡ memory_of parts → channels ≡ parts.channels → with_memory parts memory channels ≡ parts
all_stays parts memory channels is same = ap (λ (each : Memory). with_memory parts each channels) is ∙ ap (with_memory parts (memory_of parts)) same

-- what refuses a command on PINs passes none
pub pins_refused : (command : PinCommand) (pins : List Pin) (verified : Verified) (apdu : Apdu) (status : StatusWord) → pin_outcome command pins verified apdu ≡ Err status → (pin_settled command pins verified apdu).passed ≡ []
unfolding pin_settled
pins_refused command pins verified apdu status is = ap (λ (came : Result PinOutcome StatusWord). (settled_pin verified came).passed) is
