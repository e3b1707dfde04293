-- What holds of every card, command and run.
use Rattle.std.specs.Prelude.{◌≡◌, ◌≢◌, ◌⊎◌, ◌≤◌, ◌+◌, ℕ, Bool, true, false, List, [], ◌∷◌, ◌++◌, length, slice_index_or, count_by, Contains, All, Some, MatchBool, MatchResult, ⊤}
use Rattle.uicc_types.specs.Told.{AreBytes}
use Rattle.uicc_types.specs.Counts.{Meter, Caused, names_fault, armed as plan_given}
use Rattle.uicc_types.specs.declared.answers.StatusWord.{StatusWord}
use Rattle.uicc_types.specs.declared.answers.TheConstants.StatusWord.{DONE, END_OF_FILE, FILE_DEACTIVATED, MEMORY_PROBLEM, WRONG_LENGTH, NO_SUCH_CHANNEL, NO_SECURE_MESSAGING, WRONG_STRUCTURE, SECURITY_NOT_SATISFIED, PIN_BLOCKED, PIN_DISABLED, CONDITIONS_NOT_SATISFIED, NO_CURRENT_FILE, NO_FREE_CHANNEL, FILE_NOT_FOUND, RECORD_NOT_FOUND, WRONG_PARAMETERS, REFERENCE_NOT_FOUND, WRONG_OFFSET, NO_SUCH_INSTRUCTION, NO_SUCH_CLASS, OVERFLOW, WRONG_DATA, NO_ROOM, FILE_ALREADY_THERE}
use Rattle.uicc_types.specs.declared.plans.Plan.{Plan}
use Rattle.uicc_types.specs.declared.plans.TheConstants.Plan.{NONE}
use Rattle.uicc_types.specs.declared.runs.Step.{Step}
use Rattle.uicc_types.specs.declared.runs.TraceItem.{TraceItem}
use Rattle.apdu_form.specs.Model.{Apdu, IsCommand}
use Rattle.card_state.specs.Persistent.{Persistent}
use Rattle.file_model.specs.Laws.{ChangesOneFile, ChangesOnePin, ChangesTriesAlone, EachStep, IsSoundCard, TellsTries}
use Rattle.file_model.specs.Outcomes.{last_of}
use Rattle.file_model.specs.Pins.{marked}
use Rattle.file_model.specs.Records.{other_length}
use Rattle.file_model.specs.LawfulTrees.{ChangesOneNode}
use Rattle.apdu_form.specs.Classes.{family}
use Rattle.card_model.specs.Answers.{Answered, carried_out, answer_of, passed_of, is_carried_out, refusal}
use Rattle.card_model.specs.Counts.{is_failure, is_cut, IsCounted}
use Rattle.card_model.specs.Instructions.{has_toolkit, is_of_toolkit, is_of_tree, is_row_of_tree}
use Rattle.card_model.specs.Runs.{due, armed_after, waiting_after, IsLeft}
use Rattle.card_model.specs.States.{CardState, IsGood, restarted}
use Rattle.card_model.specs.declared.instructions.Instruction.{Instruction}

-- ---- resets

-- a reset leaves a good card good
abbrev pub RestartsAreGood : Type 0
RestartsAreGood = (card : CardState) → IsGood card → IsGood (restarted card)

-- ---- counts

-- what is counted in two stretches of a run is counted in both together
abbrev pub CountsJoin : Type 0
CountsJoin =
    (first middle last : Meter) (set then : List Plan) (seen later : List TraceItem)
    → IsCounted first middle set seen → IsCounted middle last then later → IsCounted first last (set ++ then) (seen ++ later)

-- What a call shows is counted: a failure of the memory where that is the call's failure, and a loss of power where
-- the call lost power that was there.
abbrev pub CallsAreCounted : Type 0
CallsAreCounted =
    (old new : Meter) (seen : List TraceItem)
    → count_by is_failure seen ≤ 1
    → count_by is_cut seen ≤ 1
    → (count_by is_cut seen ≡ 1 → old.powered ≡ true)
    → Caused old new (count_by is_failure seen ≡ 1) (count_by is_cut seen ≡ 1)
    → IsCounted old new [] seen

-- A plan that names a fault was set, and taken back after what was done under it: that is counted.
abbrev pub PlansAreCounted : Type 0
PlansAreCounted =
    (old middle : Meter) (plan : Plan) (seen : List TraceItem)
    → names_fault plan ≡ true → IsCounted (plan_given old plan) middle [] seen → IsCounted old (plan_given middle NONE) (due plan) seen

-- ---- planned faults

-- the plans of some steps and of others after them are set one after the other
abbrev pub PlansAreSetInOrder : Type 0
PlansAreSetInOrder =
    (waiting : Plan) (steps more : List Step)
    → (armed_after waiting (steps ++ more) ≡ armed_after waiting steps ++ armed_after (waiting_after waiting steps) more)
    × (waiting_after waiting (steps ++ more) ≡ waiting_after (waiting_after waiting steps) more)

-- ---- answers

-- one PIN is another; nothing else changes
pub record ChangesOnePinAlone (old new : Persistent) : Type 0 where
  pub key : ℕ
  pub changed : ChangesOnePin key old.pins new.pins
  pub alone : new ≡ record old { pins = new.pins }

-- One thing is another, and nothing else changes. A command that makes, deletes or resizes files changes which file has one number; each
-- other command changes what one file holds or its life cycle status, or one PIN.
abbrev pub ChangesOneThing : Bool → Persistent → Persistent → Type 0
ChangesOneThing true old new = ChangesOneNode old new
ChangesOneThing false old new = ChangesOneFile old new ⊎ ChangesOnePinAlone old new

-- the statuses of a command that was carried out, and of one that was refused; besides, `6CXX` tells the right Le, `63CX` how
-- many tries are left, and `91XX` how many bytes there are to fetch
abbrev pub statuses : List StatusWord
statuses =
    DONE ∷ END_OF_FILE ∷ FILE_DEACTIVATED
    ∷ WRONG_LENGTH ∷ NO_SUCH_CHANNEL ∷ NO_SECURE_MESSAGING ∷ WRONG_STRUCTURE ∷ SECURITY_NOT_SATISFIED ∷ PIN_BLOCKED ∷ PIN_DISABLED
    ∷ CONDITIONS_NOT_SATISFIED ∷ NO_CURRENT_FILE ∷ NO_FREE_CHANNEL ∷ FILE_NOT_FOUND ∷ RECORD_NOT_FOUND ∷ WRONG_PARAMETERS
    ∷ REFERENCE_NOT_FOUND ∷ WRONG_OFFSET ∷ NO_SUCH_INSTRUCTION ∷ NO_SUCH_CLASS ∷ OVERFLOW ∷ []

-- 91XX: a command of so many bytes is there to be fetched
abbrev pub TellsPending : StatusWord → Type 0
TellsPending status = (count : ℕ) × (count ≤ 255) × (status ≡ record { 0 = 0x9100 + count })

-- a status that a command may answer which makes, deletes and resizes no file
abbrev pub IsKnownStatus : StatusWord → Type 0
IsKnownStatus status = Contains statuses status ⊎ ((width : ℕ) × (width ≤ 255) × (status ≡ other_length width)) ⊎ TellsTries status ⊎ TellsPending status

-- Besides those, a command that makes, deletes or resizes files tells of wrong data, of no room, or of a file that is there already.
abbrev pub tree_statuses : List StatusWord
tree_statuses = WRONG_DATA ∷ NO_ROOM ∷ FILE_ALREADY_THERE ∷ []

-- the same, and for a command that does, those of `tree_statuses` too
abbrev pub IsStatusOf : Bool → StatusWord → Type 0
IsStatusOf of_tree status = IsKnownStatus status ⊎ ((of_tree ≡ true) × Contains tree_statuses status)

-- P2, the fourth byte of a command (ISO/IEC 7816-4, 5.1); in a PIN command it is the key (ETSI TS 102 221, 11.1.9)
abbrev pub key_named : List ℕ → ℕ
key_named bytes = slice_index_or bytes 3 0

-- the class and the instruction byte, which stand first in a command, are those of one that makes, deletes or resizes files
abbrev pub is_of_tree_named : List ℕ → Bool
is_of_tree_named bytes = is_row_of_tree (family (slice_index_or bytes 0 0)) (slice_index_or bytes 1 0)

-- The card is as it was, but that the PIN with this key may have other tries, and the mark of this key may be gone.
pub record ChangesTriesAndMarkAlone (key : ℕ) (old new : CardState) : Type 0 where
  pub persistent : new.persistent ≡ record old.persistent { pins = new.persistent.pins }
  pub pins : (new.persistent.pins ≡ old.persistent.pins) ⊎ ChangesTriesAlone key old.persistent.pins new.persistent.pins
  pub marks : (new.verified ≡ old.verified) ⊎ (new.verified ≡ marked old.verified key false)
  pub channels : new.channels ≡ old.channels
  pub session : new.session ≡ old.session
  pub boxes : new.boxes ≡ old.boxes

-- What a command that names this key changes where it is refused with this status: nothing at all, but where the status tells
-- how many tries are left, the tries and the mark of that key.
abbrev pub ChangesAtMostTries : ℕ → StatusWord → CardState → CardState → Type 0
ChangesAtMostTries key status old new = (new ≡ old) ⊎ (TellsTries status × ChangesTriesAndMarkAlone key old new)

-- What a good card that runs no applets answers to a command that names this key, and that makes, deletes or resizes files or does
-- not: a good card is left, which holds what the last commit made; each commit makes another of one thing that the card holds, and
-- leaves it sound; the applets, their boxes and the session stay; the data fit an answer; the status is a known one. Where the command
-- was refused, nothing changed, or tries and a mark of that key alone.
pub record IsLawfulAnswer (card : CardState) (of_tree : Bool) (key : ℕ) (answered : Answered) : Type 0 where
  pub good : IsGood answered.state
  pub ends : last_of card.persistent answered.commits ≡ answered.state.persistent
  pub steps : EachStep (ChangesOneThing of_tree) card.persistent answered.commits
  pub sound : All IsSoundCard answered.commits
  pub rows : All (λ state. state.rows ≡ card.persistent.rows) answered.commits
  pub boxes : answered.state.boxes ≡ card.boxes
  pub session : answered.state.session ≡ card.session
  pub short : length answered.body ≤ 256
  pub status : IsStatusOf of_tree answered.status
  pub refused : is_carried_out answered.status ≡ false → ChangesAtMostTries key answered.status card answered.state

-- a card that knows no command of the toolkit runs no applets
abbrev pub WithoutToolkit : (Instruction → Bool) → Type 0 → Type 0
WithoutToolkit knows P = MatchBool (has_toolkit knows) ⊤ P

-- Each answer of a good card that knows no command of the toolkit is lawful.
abbrev pub PlainAnswersAreLawful : Type 0
PlainAnswersAreLawful =
    (knows : Instruction → Bool) (card : CardState) (bytes : List ℕ) → IsGood card → AreBytes bytes → WithoutToolkit knows (IsLawfulAnswer card (is_of_tree_named bytes) (key_named bytes) (answer_of knows card bytes))

-- a command that is none of the toolkit's is lawful on every card, before the applets are told of it
abbrev pub CommandsAreLawful : Type 0
CommandsAreLawful =
    (card : CardState) (bytes : List ℕ) (apdu : Apdu) (instruction : Instruction) → IsGood card → IsCommand bytes apdu → is_of_toolkit instruction ≡ false
    → MatchResult (carried_out instruction card apdu) (IsLawfulAnswer card (is_of_tree instruction) (key_named bytes)) (IsStatusOf (is_of_tree instruction))

-- ---- refusals and faults

-- a command that is refused changes nothing, or the tries and the mark of the key that it names
abbrev pub PlainRefusalsChangeTriesAndMarkAlone : Type 0
PlainRefusalsChangeTriesAndMarkAlone =
    (knows : Instruction → Bool) (card : CardState) (bytes : List ℕ) (status : StatusWord)
    → IsGood card → AreBytes bytes → refusal knows card bytes ≡ Some status → WithoutToolkit knows (ChangesAtMostTries (key_named bytes) status card (answer_of knows card bytes).state)

-- no command is answered as if the memory had failed
abbrev pub AnswersNeverFail : Type 0
AnswersNeverFail =
    (knows : Instruction → Bool) (card : CardState) (bytes : List ℕ) → IsGood card → AreBytes bytes → (answer_of knows card bytes).status ≢ MEMORY_PROBLEM

-- what a fault in a command leaves of a good card is a good card
abbrev pub PlainFaultsLeaveGoodCards : Type 0
PlainFaultsLeaveGoodCards =
    (knows : Instruction → Bool) (card left : CardState) (bytes : List ℕ) → IsGood card → AreBytes bytes → IsLeft card (passed_of knows card bytes) left → WithoutToolkit knows (IsGood left)
