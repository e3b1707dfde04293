-- What holds of the files, and of the commands on files and PINs, whatever they are given.
use Rattle.std.specs.Prelude.{◌≡◌, ◌≢◌, ◌↔◌, ℕ, ◌^◌, ◌++◌, true, ◌≤◌, ◌<◌, ◌⊎◌, ◌==◌, Bool, false, if◌then◌else◌, List, [], ◌∷◌, length, find, slice_get, Contains, All, ◌&&◌, None, option_map, option_and_then, Result, MatchResult}
use Rattle.std.specs.List.{enumerate_from}
use Rattle.std.specs.Option.{option_or}
use Rattle.uicc_types.specs.declared.answers.StatusWord.{StatusWord}
use Rattle.uicc_types.specs.declared.answers.TheConstants.StatusWord.{DONE, END_OF_FILE, FILE_DEACTIVATED, WRONG_LENGTH, WRONG_STRUCTURE, SECURITY_NOT_SATISFIED, CONDITIONS_NOT_SATISFIED, NO_CURRENT_FILE, FILE_NOT_FOUND, RECORD_NOT_FOUND, REFERENCE_NOT_FOUND, PIN_BLOCKED, PIN_DISABLED, WRONG_PARAMETERS, WRONG_OFFSET, OVERFLOW}
use Rattle.uicc_types.specs.declared.identifiers.FileId.{FileId}
use Rattle.apdu_form.specs.Model.{Apdu, IsCommand}
use Rattle.card_state.specs.declared.entries.Loaded.{Loaded}
use Rattle.card_state.specs.Persistent.{File, Pin, Persistent}
use Rattle.card_state.specs.States.{state_of}
use Rattle.card_state.specs.Changing.{with_file_changed}
use Rattle.card_state.specs.Soundness.{IsSound}
use Rattle.access_rules.specs.declared.rules.Verified.{Verified}
use Rattle.file_model.specs.declared.descriptors.Descriptor.{Descriptor}
use Rattle.file_model.specs.declared.descriptors.Wanted.{Wanted}
use Rattle.file_model.specs.declared.descriptors.Wanted.TheVariants.{Number, Named, Child, ChildDf, ChildEf}
use Rattle.file_model.specs.declared.selections.Selection.{Selection}
use Rattle.file_model.specs.Files.{record_width, descriptor_of, descriptor_if, descriptors_of, descriptors_in, is_wanted, file_found}
use Rattle.file_model.specs.Selections.{IsSelection, parent_of, chosen_by_identifier}
use Rattle.file_model.specs.Access.{arr_found}
use Rattle.file_model.specs.Outcomes.{FileOutcome, PinOutcome, last_of}
use Rattle.file_model.specs.Records.{other_length, has_within, number_of, bytes_of}
use Rattle.file_model.specs.Pins.{with_pin, marked, tries_left}

-- ---- commands on files

-- everything of a file but what it holds and its life cycle status
pub record HasSameAttributes (old new : File) : Type 0 where
  pub number : new.number ≡ old.number
  pub parent : new.parent ≡ old.parent
  pub kind : new.kind ≡ old.kind
  pub id : new.id ≡ old.id
  pub short : new.short ≡ old.short
  pub rule : new.rule ≡ old.rule
  pub place : new.place ≡ old.place
  pub size : new.size ≡ old.size

-- one file holds something else, or has another life cycle status; nothing else changes
pub record ChangesOneFile (old new : Persistent) : Type 0 where
  pub number : ℕ
  pub change : File → File
  pub attributes : (file : File) → HasSameAttributes file (change file)
  pub changed : new ≡ with_file_changed change number old

-- each state passed comes from the one before it by such a step
abbrev pub EachStep : {X : Type 0} → (X → X → Type 0) → X → List X → Type 0
EachStep R state [] = Unit {0}
EachStep R state (next ∷ passed) = R state next × EachStep R next passed

-- a sound state, in which records are so short that a byte can say their length
pub record IsSoundCard (state : Persistent) : Type 0 where
  pub sound : IsSound state
  pub short : All (λ file. record_width file.contents ≤ 255) state.files

-- What a command that is not refused comes to, from this state: at most one commit, of one file; a sound card after it; a
-- lawful selection in that state, in which each selection that was lawful before is lawful still; no more data than an answer
-- can have; a status that is no refusal.
pub record IsLawfulOutcome (state : Persistent) (outcome : FileOutcome) : Type 0 where
  pub commits : length outcome.passed ≤ 1
  pub steps : EachStep ChangesOneFile state outcome.passed
  pub sound : All IsSoundCard outcome.passed
  pub selection : IsSelection (descriptors_in (last_of state outcome.passed)) outcome.selection
  pub others : (other : Selection) → IsSelection (descriptors_in state) other → IsSelection (descriptors_in (last_of state outcome.passed)) other
  pub short : length outcome.body ≤ 256
  pub status : Contains (DONE ∷ END_OF_FILE ∷ FILE_DEACTIVATED ∷ []) outcome.status

-- what a command on files is refused with; `6CXX` tells the length of a record
abbrev pub file_refusals : List StatusWord
file_refusals =
    WRONG_PARAMETERS ∷ WRONG_LENGTH ∷ FILE_NOT_FOUND ∷ NO_CURRENT_FILE ∷ WRONG_STRUCTURE ∷ CONDITIONS_NOT_SATISFIED ∷ SECURITY_NOT_SATISFIED ∷ WRONG_OFFSET ∷ RECORD_NOT_FOUND ∷ OVERFLOW ∷ []

-- a status with which a command on files may be refused: one of the list, or 6CXX
abbrev pub IsFileRefusal : StatusWord → Type 0
IsFileRefusal status = Contains file_refusals status ⊎ ((width : ℕ) × (width ≤ 255) × (status ≡ other_length width))

-- Any command, on a sound card where the selection is lawful, comes to such an outcome or is refused so.
abbrev pub IsLawfulCommand : (Persistent → Verified → Selection → Apdu → Result FileOutcome StatusWord) → Type 0
IsLawfulCommand command =
    (bytes : List ℕ) (apdu : Apdu) (state : Persistent) (seen : Verified) (selection : Selection)
    → IsCommand bytes apdu → IsSoundCard state → IsSelection (descriptors_in state) selection
    → MatchResult (command state seen selection apdu) (IsLawfulOutcome state) IsFileRefusal

-- ---- PIN commands

-- the PIN with this key is another; the others stay
pub record ChangesOnePin (key : ℕ) (old new : List Pin) : Type 0 where
  pub pin : Pin
  pub named : pin.key ≡ key
  pub changed : new ≡ with_pin old pin

-- the PIN with this key has other tries, and is the same otherwise; the others stay
pub record ChangesTriesAlone (key : ℕ) (old new : List Pin) : Type 0 where
  pub pin : Pin
  pub there : Contains old pin
  pub named : pin.key ≡ key
  pub tries : ℕ
  pub unblock_tries : ℕ
  pub changed : new ≡ with_pin old (record pin { tries = tries; unblock_tries = unblock_tries })

-- `63CX`: at most ten tries are left
abbrev pub TellsTries : StatusWord → Type 0
TellsTries status = (tries : ℕ) × (tries ≤ 10) × (status ≡ tries_left tries)

-- What a PIN command with this key comes to: at most two commits, each of this PIN; a sound state after each; 9000, or how
-- many tries are left; another mark of this key alone. Where it tells the tries, nothing but the tries of this PIN has
-- changed, and the mark stays or is gone.
pub record IsLawfulPinOutcome (state : Persistent) (verified : Verified) (key : ℕ) (outcome : PinOutcome) : Type 0 where
  pub commits : length outcome.passed ≤ 2
  pub steps : EachStep (ChangesOnePin key) state.pins outcome.passed
  pub sound : All (λ pins. IsSound (record state { pins = pins })) outcome.passed
  pub status : (outcome.status ≡ DONE) ⊎ TellsTries outcome.status
  pub marks : (outcome.verified ≡ verified) ⊎ ((truth : Bool) × (outcome.verified ≡ marked verified key truth))
  pub refused : TellsTries outcome.status → ((outcome.verified ≡ verified) ⊎ (outcome.verified ≡ marked verified key false)) × All (ChangesTriesAlone key state.pins) outcome.passed

-- what a PIN command is refused with before a value is presented
abbrev pub pin_refusals : List StatusWord
pin_refusals = WRONG_PARAMETERS ∷ WRONG_LENGTH ∷ REFERENCE_NOT_FOUND ∷ PIN_BLOCKED ∷ PIN_DISABLED ∷ CONDITIONS_NOT_SATISFIED ∷ []

-- on a sound state a PIN command comes to what is lawful, or is refused lawfully
abbrev pub IsLawfulPinCommand : (List Pin → Verified → Apdu → Result PinOutcome StatusWord) → Type 0
IsLawfulPinCommand command =
    (state : Persistent) (verified : Verified) (apdu : Apdu) → IsSound state → MatchResult (command state.pins verified apdu) (IsLawfulPinOutcome state verified apdu.p2) (Contains pin_refusals)

-- ---- records

-- Bytes are found in a record exactly where they stand in it one after the other.
abbrev pub FindsWholeParts : Type 0
FindsWholeParts =
    (wanted bytes : List ℕ) → (has_within wanted bytes ≡ true) ↔ ((before : List ℕ) × (behind : List ℕ) × (bytes ≡ before ++ wanted ++ behind))

-- A number that fits is spelled in so many bytes, and these are that number.
abbrev pub SpellsNumbers : Type 0
SpellsNumbers =
    (width number : ℕ) → number < 256 ^ width
    → (length (bytes_of width number) ≡ width) × All (λ byte. byte < 256) (bytes_of width number) × (number_of (bytes_of width number) ≡ number)

-- ---- what is known of files

-- The table of a sound card tells of its files what the state tells.
abbrev pub TablesTellFiles : Type 0
TablesTellFiles = (loaded : Loaded) (content : List ℕ) → IsSound (state_of loaded content) → descriptors_in (state_of loaded content) ≡ descriptors_of loaded

-- A file is chosen by its identifier as by five searches, one after the other.
abbrev pub FindsInFiveSearches : Type 0
FindsInFiveSearches =
    (files : List Descriptor) (df : ℕ) (id : FileId)
    → chosen_by_identifier files df id
    ≡ option_or (file_found files (Named 0 id)) (
    option_or (file_found files (Named df id)) (
    option_or (file_found files (Child df id)) (
    option_or (file_found files (Named (parent_of files df) id)) (file_found files (ChildDf (parent_of files df) id)))))

-- A file of a table is found as the first of its entries that is used and wanted.
abbrev pub FindsAmongEntries : Type 0
FindsAmongEntries =
    (loaded : Loaded) (wanted : Wanted)
    → file_found (descriptors_of loaded) wanted
    ≡ option_map (λ entry. descriptor_of entry.0 entry.1) (find (λ entry. entry.1.used && is_wanted wanted (descriptor_of entry.0 entry.1)) (enumerate_from 0 loaded.nodes))

-- With its number it is the entry of that number, if this is used.
abbrev pub NumbersAreEntries : Type 0
NumbersAreEntries = (loaded : Loaded) (number : ℕ) → file_found (descriptors_of loaded) (Number number) ≡ option_and_then (descriptor_if number) (slice_get loaded.nodes number)

-- On a sound card each file lies in a DF of smaller number.
abbrev pub ParentsComeFirst : Type 0
ParentsComeFirst = (state : Persistent) → IsSound state → All (λ file. file.number ≢ 0 → file.parent < file.number) (descriptors_in state)

-- The nearest EF_ARR is the one in the DF, or else, below the MF, the nearest to the DF above.
abbrev pub FindsNearest : Type 0
FindsNearest =
    (files : List Descriptor) (df : ℕ) (id : FileId) → All (λ file. file.number ≢ 0 → file.parent < file.number) files
    → arr_found files df id ≡ option_or (file_found files (ChildEf df id)) (if df == 0 then None else arr_found files (parent_of files df) id)
