-- What a command comes to that makes, deletes or resizes a file.
use Rattle.std.specs.Prelude.{ℕ, ◌==◌, Bool, false, if◌then◌else◌, List, [], map, Option, None, option_map, slice_index_or, Result, Ok, Err}
use Rattle.std.specs.Option.{option_map_or}
use Rattle.std.specs.List.{list_any}
use Rattle.uicc_types.specs.declared.answers.StatusWord.{StatusWord}
use Rattle.card_state.specs.Changes.{Change}
use Rattle.card_state.specs.Decoding.{number_at}
use Rattle.card_state.specs.Persistent.{Persistent}
use Rattle.file_model.specs.declared.descriptors.Descriptor.{Descriptor}
use Rattle.file_model.specs.declared.descriptors.Wanted.TheVariants.{Child}
use Rattle.file_model.specs.declared.selections.Selection.{Selection}
use Rattle.file_model.specs.Files.{file_found}

-- The command was carried out: what is selected on each logical channel then, the persistent state after its commit, if there
-- was one, and the change that this makes. The answer is 9000, without data.
pub record TreeOutcome : Type 0 where
  pub channels : List (Option Selection)
  pub passed : List Persistent
  pub changes : List Change

-- a refused command changes nothing
abbrev pub settled_tree : List (Option Selection) → Result TreeOutcome StatusWord → TreeOutcome
settled_tree channels (Err status) = record { channels = channels; passed = []; changes = [] }
settled_tree channels (Ok outcome) = outcome

-- ---- what is selected

-- the current DF of a channel
abbrev pub df_on : List (Option Selection) → ℕ → ℕ
df_on channels channel = option_map_or (λ selection. selection.df) (slice_index_or channels channel None) 0

-- a DF is the current one of some channel
abbrev pub is_current : List (Option Selection) → ℕ → Bool
is_current channels df = list_any (λ channel. option_map_or (λ selection. selection.df == df) channel false) channels

-- this EF is the current one
abbrev pub has_ef : ℕ → Selection → Bool
has_ef number selection = option_map_or (λ ef. ef == number) selection.ef false

-- where this EF was the current one there is none, and no record pointer
abbrev pub without_ef : ℕ → Selection → Selection
without_ef number selection = if has_ef number selection then record { df = selection.df; ef = None; pointer = None } else selection

-- on each channel
abbrev pub all_without_ef : ℕ → List (Option Selection) → List (Option Selection)
all_without_ef number channels = map (option_map (without_ef number)) channels

-- ---- the file that a command names

-- the child of a DF whose identifier stands first in the data
abbrev pub child_named : List Descriptor → ℕ → List ℕ → Option Descriptor
child_named files df bytes = file_found files (Child df (record { 0 = number_at bytes 0 }))
