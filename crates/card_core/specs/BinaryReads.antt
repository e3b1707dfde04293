-- How often READ BINARY has the store read.
use Rattle.std.specs.Prelude.{◌≡◌, List, ℕ, Some, unwrap_or, Result, Ok}
use Rattle.uicc_types.specs.declared.answers.Answer.{Answer}
use Rattle.apdu_form.specs.Classes.{channel_of}
use Rattle.apdu_form.specs.Model.{Apdu, command_in}
use Rattle.file_model.specs.Binaries.{binary_to_read}
use Rattle.file_model.specs.Channels.{selected_on}
use Rattle.file_model.specs.Files.{descriptors_of}
use Rattle.file_model.specs.declared.commands.ContentsCommand.TheVariants.{ReadBinary}
use Rattle.file_model.specs.declared.commands.FileCommand.TheVariants.{Contents}
use Rattle.file_model.specs.declared.descriptors.Descriptor.{Descriptor}
use Rattle.file_model.specs.declared.selections.TheConstants.Selection.{AT_START}
use Rattle.binary_commands.specs.Reads.{access_reads, ReadsOnce}
use Rattle.card_model.specs.declared.instructions.Instruction.TheVariants.{File}
use Rattle.card_core.specs.AnyStore.{command_named}
use Rattle.card_core.specs.Parts.{CardParts}

-- Of the file that the command names, where the table refuses nothing: beside the reads that tell whether access is granted there is
-- just one where data are answered, none where access isn't granted, and else one at most.
abbrev pub ReadsFileOnce : {X E : Type 0} → Result X E → CardParts → CardParts → Apdu → Answer → Type 0
ReadsFileOnce result old new apdu out =
    (file : Descriptor) → binary_to_read (descriptors_of old.table) (unwrap_or (selected_on old.channels (channel_of apdu.class)) AT_START) apdu ≡ Ok file
    → ReadsOnce result out (access_reads (descriptors_of old.table) file) old.reads new.reads

-- so it is with bytes that are a READ BINARY
abbrev pub ReadsBinaryOnce : {X E : Type 0} → Result X E → CardParts → CardParts → List ℕ → Answer → Type 0
ReadsBinaryOnce result old new bytes out =
    (apdu : Apdu) → command_in bytes ≡ Some apdu → command_named old.channels bytes ≡ Ok (File (Contents ReadBinary))
    → ReadsFileOnce result old new apdu out
