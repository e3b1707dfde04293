-- What a good card that runs applets answers, whatever it is sent.
use Rattle.std.specs.Prelude.{◌≡◌, ◌⊎◌, ◌≤◌, ℕ, Bool, true, false, List, [], ◌∷◌, length, Contains, All, Some}
use Rattle.uicc_types.specs.Told.{AreBytes}
use Rattle.uicc_types.specs.declared.answers.StatusWord.{StatusWord}
use Rattle.uicc_types.specs.declared.answers.TheConstants.StatusWord.{WRONG_DATA, NO_ROOM, TOOLKIT_BUSY}
use Rattle.card_state.specs.Persistent.{Persistent}
use Rattle.file_model.specs.Laws.{EachStep, IsSoundCard}
use Rattle.file_model.specs.Outcomes.{last_of}
use Rattle.card_model.specs.Answers.{Answered, answer_of, is_carried_out, refusal}
use Rattle.card_model.specs.Instructions.{has_toolkit}
use Rattle.card_model.specs.Laws.{ChangesOneThing, ChangesAtMostTries, IsStatusOf, is_of_tree_named, key_named}
use Rattle.card_model.specs.States.{CardState, IsGood}
use Rattle.card_model.specs.declared.instructions.Instruction.{Instruction}

-- besides the statuses of a card without applets: wrong data (`6A80`), no room for a row (`6A84`), and a toolkit that is busy (`9300`)
abbrev pub toolkit_statuses : List StatusWord
toolkit_statuses = WRONG_DATA ∷ NO_ROOM ∷ TOOLKIT_BUSY ∷ []

-- a status that a card with applets may answer; some are for commands that make, delete or resize files alone
abbrev pub IsStatus : Bool → StatusWord → Type 0
IsStatus of_tree status = IsStatusOf of_tree status ⊎ Contains toolkit_statuses status

-- the rows of applets are others, and the next sequence number; nothing else changes
abbrev pub ChangesRowsAlone : Persistent → Persistent → Type 0
ChangesRowsAlone old new = new ≡ record old { rows = new.rows; next_sequence = new.next_sequence }

-- one file, one PIN, or the rows
abbrev pub ChangesOnePart : Bool → Persistent → Persistent → Type 0
ChangesOnePart of_tree old new = ChangesOneThing of_tree old new ⊎ ChangesRowsAlone old new

-- What a good card that runs applets answers to a command that names this key, and that makes, deletes or resizes files or does not:
-- a good card is left, which holds what the last commit made; each commit makes another of one file, of one PIN or of the rows, and
-- leaves the card sound; the data fit an answer; the status is a known one. Where the command was refused, nothing changed, neither of
-- what the card holds nor of its applets and their session, or tries and a mark of that key alone.
pub record IsLawfulWithApplets (card : CardState) (of_tree : Bool) (key : ℕ) (answered : Answered) : Type 0 where
  pub good : IsGood answered.state
  pub ends : last_of card.persistent answered.commits ≡ answered.state.persistent
  pub steps : EachStep (ChangesOnePart of_tree) card.persistent answered.commits
  pub sound : All IsSoundCard answered.commits
  pub short : length answered.body ≤ 256
  pub status : IsStatus of_tree answered.status
  pub refused : is_carried_out answered.status ≡ false → ChangesAtMostTries key answered.status card answered.state

-- Each answer of a good card that runs applets is lawful.
abbrev pub AnswersAreLawful : Type 0
AnswersAreLawful =
    (knows : Instruction → Bool) (card : CardState) (bytes : List ℕ) → has_toolkit knows ≡ true → IsGood card → AreBytes bytes
    → IsLawfulWithApplets card (is_of_tree_named bytes) (key_named bytes) (answer_of knows card bytes)

-- On every good card, whether it runs applets or not, a command that is refused changes nothing, or the tries and the mark of the
-- key that it names.
abbrev pub RefusalsChangeTriesAndMarkAlone : Type 0
RefusalsChangeTriesAndMarkAlone =
    (knows : Instruction → Bool) (card : CardState) (bytes : List ℕ) (status : StatusWord) → IsGood card → AreBytes bytes
    → refusal knows card bytes ≡ Some status → ChangesAtMostTries (key_named bytes) status card (answer_of knows card bytes).state
