-- The commands on files and on PINs, by their names.
use Rattle.std.specs.Prelude.{List, Result}
use Rattle.uicc_types.specs.declared.answers.StatusWord.{StatusWord}
use Rattle.apdu_form.specs.Model.{Apdu}
use Rattle.card_state.specs.Changes.{PinFields, OfTries, OfUnblockTries, OfValue, OfEnabling, OfUnblocking}
use Rattle.card_state.specs.Persistent.{Pin, Persistent}
use Rattle.access_rules.specs.declared.rules.Verified.{Verified}
use Rattle.file_model.specs.declared.commands.ContentsCommand.{ContentsCommand}
use Rattle.file_model.specs.declared.commands.ContentsCommand.TheVariants.{ReadBinary, UpdateBinary, ReadRecord, UpdateRecord, SearchRecord, Increase, Deactivate, Activate}
use Rattle.file_model.specs.declared.commands.FileCommand.{FileCommand}
use Rattle.file_model.specs.declared.commands.FileCommand.TheVariants.{Select, Status, Contents}
use Rattle.file_model.specs.declared.commands.PinCommand.{PinCommand}
use Rattle.file_model.specs.declared.commands.PinCommand.TheVariants.{Verify, Change, Disable, Enable, Unblock}
use Rattle.file_model.specs.declared.descriptors.Descriptor.{Descriptor}
use Rattle.file_model.specs.declared.selections.Selection.{Selection}
use Rattle.file_model.specs.Outcomes.{FileOutcome, PinOutcome, settled_pin}
use Rattle.file_model.specs.Selecting.{file_selected, status_told}
use Rattle.file_model.specs.Binaries.{binary_to_read, binary_to_update, binary_read, binary_updated}
use Rattle.file_model.specs.Records.{file_to_read, file_to_update, file_to_search, file_to_increase, record_read, record_updated, searched, increased}
use Rattle.file_model.specs.LifeCycles.{life_file, file_deactivated, file_activated}
use Rattle.file_model.specs.Pins.{pin_verified, pin_changed, pin_disabled, pin_enabled, pin_unblocked}

-- ---- on what a file holds

-- the file that a command works on, or what refuses the command before access is tested
unfoldable pub file_addressed : ContentsCommand → List Descriptor → Selection → Apdu → Result Descriptor StatusWord
file_addressed ReadBinary files selection apdu = binary_to_read files selection apdu
file_addressed UpdateBinary files selection apdu = binary_to_update files selection apdu
file_addressed ReadRecord files selection apdu = file_to_read files selection apdu
file_addressed UpdateRecord files selection apdu = file_to_update files selection apdu
file_addressed SearchRecord files selection apdu = file_to_search files selection apdu
file_addressed Increase files selection apdu = file_to_increase files selection apdu
file_addressed Deactivate files selection apdu = life_file files selection apdu
file_addressed Activate files selection apdu = life_file files selection apdu

-- what it comes to, or its refusal
unfoldable pub contents_outcome : ContentsCommand → Persistent → Verified → Selection → Apdu → Result FileOutcome StatusWord
contents_outcome ReadBinary state seen selection apdu = binary_read state seen selection apdu
contents_outcome UpdateBinary state seen selection apdu = binary_updated state seen selection apdu
contents_outcome ReadRecord state seen selection apdu = record_read state seen selection apdu
contents_outcome UpdateRecord state seen selection apdu = record_updated state seen selection apdu
contents_outcome SearchRecord state seen selection apdu = searched state seen selection apdu
contents_outcome Increase state seen selection apdu = increased state seen selection apdu
contents_outcome Deactivate state seen selection apdu = file_deactivated state seen selection apdu
contents_outcome Activate state seen selection apdu = file_activated state seen selection apdu

-- ---- on files

-- what a command on files comes to, or its refusal
unfoldable pub file_outcome : FileCommand → Persistent → Verified → Selection → Apdu → Result FileOutcome StatusWord
file_outcome Select state seen selection apdu = file_selected state selection apdu
file_outcome Status state seen selection apdu = status_told state selection apdu
file_outcome (Contents command) state seen selection apdu = contents_outcome command state seen selection apdu

-- ---- on PINs

-- what a command on PINs comes to, or its refusal
abbrev pub pin_outcome : PinCommand → List Pin → Verified → Apdu → Result PinOutcome StatusWord
pin_outcome Verify pins verified apdu = pin_verified pins verified apdu
pin_outcome Change pins verified apdu = pin_changed pins verified apdu
pin_outcome Disable pins verified apdu = pin_disabled pins verified apdu
pin_outcome Enable pins verified apdu = pin_enabled pins verified apdu
pin_outcome Unblock pins verified apdu = pin_unblocked pins verified apdu

-- the fields that a command sets where it takes a try
abbrev pub first_fields : PinCommand → PinFields
first_fields Unblock = OfUnblockTries
first_fields _ = OfTries

-- and those that it sets where the value was right
abbrev pub second_fields : PinCommand → PinFields
second_fields Verify = OfTries
second_fields Change = OfValue
second_fields Disable = OfEnabling
second_fields Enable = OfEnabling
second_fields Unblock = OfUnblocking

-- the same, refused or not
unfoldable pub pin_settled : PinCommand → List Pin → Verified → Apdu → PinOutcome
pin_settled command pins verified apdu = settled_pin verified (pin_outcome command pins verified apdu)
