-- What the commands are given.
use Rattle.std.specs.Prelude.{◌≡◌, ℕ, List}
use Rattle.apdu_form.specs.Model.{Apdu, IsCommand}
use Rattle.card_state.specs.Kinds.{transparent_kind}
use Rattle.card_state.specs.Memory.{Memory, IsMounted}
use Rattle.file_model.specs.declared.descriptors.Descriptor.{Descriptor}
use Rattle.file_model.specs.declared.selections.Selection.{Selection}
use Rattle.file_model.specs.Files.{descriptors_of}
use Rattle.file_model.specs.Selections.{IsSelection}
use Rattle.file_model.specs.Binaries.{short_in_p1}
use Rattle.file_model.specs.Outcomes.{pointer_before, worked_on}
use Rattle.file_tree.specs.Tables.{IsNumbered}

-- some bytes are this command
abbrev pub IsSomeCommand : Apdu → Type 0
IsSomeCommand apdu = (bytes : List ℕ) × IsCommand bytes apdu

-- a mounted card, and a selection of files that it has
pub record IsInPlace (memory : Memory) (selection : Selection) : Type 0 where
  pub mounted : IsMounted memory
  pub selected : IsSelection (descriptors_of memory.table) selection

-- a transparent file among these
pub record IsBinaryFile (files : List Descriptor) (file : Descriptor) : Type 0 where
  pub numbered : IsNumbered files file
  pub kind : file.kind ≡ transparent_kind

-- a transparent file that a command works on: what is selected then is lawful
pub record IsBinaryTarget (files : List Descriptor) (selection : Selection) (apdu : Apdu) (file : Descriptor) : Type 0 where
  pub among : IsBinaryFile files file
  pub lawful : IsSelection files (worked_on selection file (pointer_before selection (short_in_p1 apdu)))
