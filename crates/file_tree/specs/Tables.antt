-- The table of a card, and the files in it.
use Rattle.std.specs.Prelude.{◌≡◌, ◌≢◌, ℕ, ◌≤◌, ◌<◌, ◌==◌, ◌&&◌, Bool, false, IsTrue, List, [], ◌∷◌, All, Option, None, Some, slice_index_or}
use Rattle.std.specs.Option.{option_or}
use Rattle.card_state.specs.declared.entries.Node.{Node}
use Rattle.card_state.specs.declared.entries.Loaded.{Loaded}
use Rattle.card_state.specs.Blank.{unused_node}
use Rattle.card_state.specs.Kinds.{has_records}
use Rattle.card_state.specs.Holding.{HasFullRecords}
use Rattle.card_state.specs.Persistent.{Persistent}
use Rattle.card_state.specs.Standing.{Stands}
use Rattle.card_state.specs.Used.{HasNode}
use Rattle.file_model.specs.declared.descriptors.Descriptor.{Descriptor}
use Rattle.file_model.specs.declared.descriptors.Wanted.{Wanted}
use Rattle.file_model.specs.declared.descriptors.Wanted.TheVariants.{Number}
use Rattle.file_model.specs.Files.{descriptor_of, is_ef, is_wanted, file_found}
use Rattle.file_model.specs.Selections.{IsSelection, selection_of}

-- Its entries are those of a memory that stands for a state.
pub record IsCardTable (table : Loaded) : Type 0 where
  pub store_mark : ℕ
  pub content : List ℕ
  pub state : Persistent
  pub stands : Stands store_mark content table state

-- Each file that has records is full of them.
pub record HasFullFiles (table : Loaded) : Type 0 where
  pub full : (number : ℕ) (node : Node) → HasNode table number node → IsTrue (has_records node.kind) → HasFullRecords node

-- a file is found by its number
abbrev pub IsNumbered : List Descriptor → Descriptor → Type 0
IsNumbered files file = file_found files (Number file.number) ≡ Some file

-- a file with another number isn't wanted
abbrev pub AsksForNumber : Wanted → ℕ → Type 0
AsksForNumber wanted number = (file : Descriptor) → file.number ≢ number → is_wanted wanted file ≡ false

-- nor is one with another identifier
abbrev pub AsksForId : Wanted → ℕ → Type 0
AsksForId wanted id = (file : Descriptor) → file.id.0 ≢ id → is_wanted wanted file ≡ false

-- nor is a DF, or an EF with another short file identifier
abbrev pub AsksForShort : Wanted → ℕ → Type 0
AsksForShort wanted short = (file : Descriptor) → (is_ef file && file.short == short) ≡ false → is_wanted wanted file ≡ false

-- the entry is that of a file, and this one is wanted
abbrev pub is_there_and_wanted : Wanted → ℕ → Node → Bool
is_there_and_wanted wanted number node = node.used && is_wanted wanted (descriptor_of number node)

-- after each file was selected the selection is lawful
abbrev pub MayBeSelected : List Descriptor → Type 0
MayBeSelected files = All (λ file. IsSelection files (selection_of file)) files

-- a short file identifier is at most 30, and 0 stands for none
abbrev pub HaveShortIds : List Descriptor → Type 0
HaveShortIds files = All (λ file. file.short ≤ 30) files

-- no entry from the first place up to the second has the identifier
abbrev pub HasNoneBetween : List Node → ℕ → ℕ → ℕ → Type 0
HasNoneBetween nodes id from to = (place : ℕ) → from ≤ place → place < to → (slice_index_or nodes place unused_node).id.0 ≢ id

-- what is found at the first of these places at which there is a file
abbrev pub first_found : List Descriptor → List Wanted → Option Descriptor
first_found files [] = None
first_found files (place ∷ places) = option_or (file_found files place) (first_found files places)

-- each file but the MF has a greater number than the DF that it lies in
abbrev pub HaveParentsFirst : List Descriptor → Type 0
HaveParentsFirst files = All (λ file. file.number ≢ 0 → file.parent < file.number) files
