-- The file that a command on records works on, and the record.
use Rattle.std.specs.Prelude.{◌≡◌, ◌≤◌, ◌<◌, ◌+◌, ℕ, true, not, ◌&&◌, ◌||◌, Bool, IsTrue, List, Option, IfSome}
use Rattle.card_state.specs.Kinds.{has_records, linear_kind}
use Rattle.file_model.specs.declared.descriptors.Descriptor.{Descriptor}
use Rattle.file_model.specs.declared.selections.Selection.{Selection}
use Rattle.file_model.specs.Selections.{IsSelection}
use Rattle.file_model.specs.Outcomes.{pointer_before, worked_on}
use Rattle.file_model.specs.Records.{may_be_increased, is_cyclic}
use Rattle.file_tree.specs.Tables.{IsNumbered}
use Rattle.record_commands.specs.declared.targets.Structure.{Structure}
use Rattle.record_commands.specs.declared.targets.Structure.TheVariants.{Records, Updated, Increased}

-- ---- which file

-- whether a file is of such a structure
abbrev pub fits : Structure → Descriptor → Bool
fits Records = λ file. has_records file.kind
fits (Updated is_previous) = λ file. has_records file.kind && (not (is_cyclic file) || is_previous)
fits Increased = may_be_increased

-- none, or the number of a record of the file
abbrev pub IsPointer : Descriptor → Option ℕ → Type 0
IsPointer file pointer = IfSome pointer (λ number. (1 ≤ number) × (number ≤ file.count))

-- a record of a file with records among these, by its number
pub record IsRecordOf (files : List Descriptor) (file : Descriptor) (number : ℕ) : Type 0 where
  pub numbered : IsNumbered files file
  pub kind : IsTrue (has_records file.kind)
  pub from : 1 ≤ number
  pub to : number ≤ file.count

-- records of such a file that stand one after the other: so many from this number on, or one alone
pub record AreRecordsOf (files : List Descriptor) (file : Descriptor) (first count : ℕ) : Type 0 where
  pub of : IsRecordOf files file first
  pub some : 1 ≤ count
  pub to : first + count ≤ file.count + 1
  pub in_a_row : 1 < count → file.kind ≡ linear_kind

-- a cyclic file among these
pub record IsRing (files : List Descriptor) (file : Descriptor) : Type 0 where
  pub numbered : IsNumbered files file
  pub cyclic : is_cyclic file ≡ true

-- A file with records, in which the record pointer lies; with any pointer in it the selection is lawful.
pub record IsTarget (files : List Descriptor) (selection : Selection) (short : Option ℕ) (file : Descriptor) : Type 0 where
  pub numbered : IsNumbered files file
  pub kind : IsTrue (has_records file.kind)
  pub some : 1 ≤ file.count
  pub pointer : IsPointer file (pointer_before selection short)
  pub lawful : (pointer : Option ℕ) → IsPointer file pointer → IsSelection files (worked_on selection file pointer)
