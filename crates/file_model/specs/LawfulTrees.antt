-- What the commands that make, delete and resize files keep, whatever they are given.
use Rattle.std.specs.Prelude.{◌≡◌, ℕ, ◌≤◌, List, [], ◌∷◌, length, All, Contains, Option, None, IfSome, is_some, true, slice_index_or, Result, MatchResult}
use Rattle.uicc_types.specs.declared.answers.StatusWord.{StatusWord}
use Rattle.uicc_types.specs.declared.answers.TheConstants.StatusWord.{WRONG_PARAMETERS, WRONG_LENGTH, FILE_NOT_FOUND, WRONG_STRUCTURE, CONDITIONS_NOT_SATISFIED, SECURITY_NOT_SATISFIED, WRONG_DATA, FILE_ALREADY_THERE, NO_ROOM}
use Rattle.apdu_form.specs.Model.{Apdu}
use Rattle.card_state.specs.Changing.{with_file_at}
use Rattle.card_state.specs.Persistent.{File, Persistent}
use Rattle.card_state.specs.Soundness.{IsSound}
use Rattle.access_rules.specs.declared.rules.Verified.{Verified}
use Rattle.file_model.specs.declared.descriptors.Descriptor.{Descriptor}
use Rattle.file_model.specs.declared.selections.Selection.{Selection}
use Rattle.file_model.specs.Files.{descriptors_in}
use Rattle.file_model.specs.Laws.{EachStep, IsSoundCard}
use Rattle.file_model.specs.Outcomes.{last_of}
use Rattle.file_model.specs.Selections.{IsSelection}
use Rattle.file_model.specs.TreeOutcomes.{TreeOutcome, settled_tree}

-- what is selected on each channel that is open is there
abbrev pub AreSelected : List Descriptor → List (Option Selection) → Type 0
AreSelected files channels = All (λ channel. IfSome channel (IsSelection files)) channels

-- one file comes, goes or is another, under its number; nothing else changes
pub record ChangesOneNode (old new : Persistent) : Type 0 where
  pub number : ℕ
  pub file : Option File
  pub named : IfSome file (λ f. f.number ≡ number)
  pub changed : new ≡ with_file_at old number file

-- A command that is not refused: at most one commit, of one file, and a sound card after it; as many channels, each that was open
-- is open still, and what is selected on an open one is there.
pub record IsLawfulTree (state : Persistent) (channels : List (Option Selection)) (outcome : TreeOutcome) : Type 0 where
  pub commits : length outcome.passed ≤ 1
  pub steps : EachStep ChangesOneNode state outcome.passed
  pub sound : All IsSoundCard outcome.passed
  pub many : length outcome.channels ≡ length channels
  pub still_open : (channel : ℕ) → is_some (slice_index_or channels channel None) ≡ true → is_some (slice_index_or outcome.channels channel None) ≡ true
  pub selected : AreSelected (descriptors_in (last_of state outcome.passed)) outcome.channels

-- the statuses with which a command that makes, deletes or resizes a file may be refused
abbrev pub tree_refusals : List StatusWord
tree_refusals =
    WRONG_PARAMETERS ∷ WRONG_LENGTH ∷ FILE_NOT_FOUND ∷ WRONG_STRUCTURE ∷ CONDITIONS_NOT_SATISFIED ∷ SECURITY_NOT_SATISFIED ∷ WRONG_DATA ∷ FILE_ALREADY_THERE ∷ NO_ROOM ∷ []

-- Any such command, on a sound card whose selections are there, comes to such an outcome or is refused so.
abbrev pub IsLawfulTreeCommand : (Persistent → Verified → List (Option Selection) → ℕ → Apdu → Result TreeOutcome StatusWord) → Type 0
IsLawfulTreeCommand command =
    (state : Persistent) (seen : Verified) (channels : List (Option Selection)) (channel : ℕ) (apdu : Apdu)
    → IsSoundCard state → AreSelected (descriptors_in state) channels
    → MatchResult (command state seen channels channel apdu) (IsLawfulTree state channels) (Contains tree_refusals)

-- Carried out or refused, what is selected on each channel that is open is there, in any sound state.
abbrev pub KeepsSelected : (Persistent → Verified → List (Option Selection) → ℕ → Apdu → Result TreeOutcome StatusWord) → Type 0
KeepsSelected command =
    (state : Persistent) (seen : Verified) (channels : List (Option Selection)) (channel : ℕ) (apdu : Apdu)
    → IsSound state → AreSelected (descriptors_in state) channels → is_some (slice_index_or channels channel None) ≡ true
    → (let outcome = settled_tree channels (command state seen channels channel apdu) in
    AreSelected (descriptors_in (last_of state outcome.passed)) outcome.channels)
