-- What becomes of the table of a card.
use Rattle.std.specs.Prelude.{◌≡◌, ◌≤◌, List, All, IsTrue}
use Rattle.card_state.specs.declared.entries.Loaded.{Loaded}
use Rattle.card_state.specs.Kinds.{has_records}
use Rattle.file_model.specs.declared.descriptors.Descriptor.{Descriptor}
use Rattle.file_model.specs.declared.selections.Selection.{Selection}
use Rattle.file_model.specs.Files.{descriptors_of}
use Rattle.file_model.specs.Selections.{IsSelection}

-- Nothing but the entries of files has changed.
abbrev pub HasOtherFiles : Loaded → Loaded → Type 0
HasOtherFiles old new = new ≡ record old { nodes = new.nodes }

-- Each selection that was lawful is lawful still.
abbrev pub KeepsSelections : List Descriptor → List Descriptor → Type 0
KeepsSelections old new = (selection : Selection) → IsSelection old selection → IsSelection new selection

-- a command that writes a record: the entries of files may be others, and tell the same of the files
pub record KeepsDescriptors (old new : Loaded) : Type 0 where
  pub files : HasOtherFiles old new
  pub descriptors : descriptors_of new ≡ descriptors_of old

-- a command that changes a file: the entries of files may be others, and what was selected is there still
pub record KeepsOtherFiles (old new : Loaded) : Type 0 where
  pub files : HasOtherFiles old new
  pub others : KeepsSelections (descriptors_of old) (descriptors_of new)

-- a file with records has at least one
abbrev pub HaveRecords : List Descriptor → Type 0
HaveRecords files = All (λ file. IsTrue (has_records file.kind) → 1 ≤ file.count) files
