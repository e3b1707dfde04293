-- The toolkit of a card that runs applets moves by the commands of the toolkit alone, and what holds of those holds of it.
use Rattle.std.specs.Prelude.{MatchResult, All, ◌≡◌, ℕ, Bool, true, List, [], filter, Some, None, ⊤}
use Rattle.uicc_types.specs.Told.{AreBytes}
use Rattle.uicc_types.specs.declared.events.TheConstants.{PROFILE_DOWNLOAD, STATUS_COMMAND}
use Rattle.uicc_types.specs.declared.answers.StatusWord.{StatusWord}
use Rattle.apdu_form.specs.Model.{Apdu}
use Rattle.card_state.specs.Changes.{states_after}
use Rattle.file_model.specs.Laws.{IsSoundCard}
use Rattle.toolkit_model.specs.Commands.{polled, unanswered, registered_told, with_profile, triggered_by, triggered}
use Rattle.toolkit_model.specs.Driving.{is_idle, driven}
use Rattle.toolkit_model.specs.Orderly.{asks}
use Rattle.toolkit_model.specs.Order.{targets}
use Rattle.toolkit_model.specs.Passing.{Passed, before}
use Rattle.toolkit_model.specs.Steps.{ToolkitInput, Profile, Status, Report, AreAccepted, moved}
use Rattle.toolkit_model.specs.Awaiting.{awaited, ReachesWhoAsked}
use Rattle.toolkit_model.specs.Begun.{begun}
use Rattle.toolkit_model.specs.Fetching.{OneAtATime, AnsweredBetween}
use Rattle.toolkit_model.specs.Owing.{LosesNothing}
use Rattle.card_model.specs.Answers.{on_toolkit, carried_with, answer_of, passed_of, refusal}
use Rattle.card_model.specs.Instructions.{has_toolkit}
use Rattle.card_model.specs.Runs.{IsLeft}
use Rattle.card_model.specs.States.{CardState, IsGood}
use Rattle.card_model.specs.Toolkit.{toolkit_of, coming_to}
use Rattle.card_model.specs.declared.instructions.Instruction.{Instruction}
use Rattle.card_laws.specs.Moving.{HasOrder, LeavesRows, command_by, GoesOn, taken, Event, AllCanHappen, card_after_all, all_taken, noted_of}

-- a good card has its toolkit in order
abbrev pub GoodCardsHaveOrder : Type 0
GoodCardsHaveOrder = (card : CardState) → IsGood card → HasOrder card

-- a card that runs applets goes on by the command of the toolkit that it takes, or by none
abbrev pub AnswersGoOn : Type 0
AnswersGoOn =
    (knows : Instruction → Bool) (card : CardState) (bytes : List ℕ) → has_toolkit knows ≡ true → HasOrder card → GoesOn (taken knows card bytes) card (answer_of knows card bytes)

-- each commit of a command that a card carries out leaves the rows so
abbrev pub CommandsLeaveRows : Type 0
CommandsLeaveRows =
    (card : CardState) (instruction : Instruction) (apdu : Apdu) → HasOrder card
    → MatchResult (carried_with true instruction card apdu) (λ answered. LeavesRows (command_by instruction card apdu) card answered) (λ status. ⊤)

-- and so do the applets that are told of STATUS
abbrev pub TellingLeavesRows : Type 0
TellingLeavesRows = (card : CardState) → HasOrder card → LeavesRows (Some Status) card (on_toolkit card (coming_to card [] (polled (toolkit_of card))))

-- a command that is refused is none that it takes, so that by what is said above its toolkit stays as it was
abbrev pub RefusalsTakeNothing : Type 0
RefusalsTakeNothing =
    (knows : Instruction → Bool) (card : CardState) (bytes : List ℕ) (status : StatusWord) → has_toolkit knows ≡ true → HasOrder card → refusal knows card bytes ≡ Some status → taken knows card bytes ≡ None

-- A good card that runs applets stays good with each answer, and each commit leaves it sound.
abbrev pub AnswersLeaveGoodCards : Type 0
AnswersLeaveGoodCards =
    (knows : Instruction → Bool) (card : CardState) (bytes : List ℕ) → has_toolkit knows ≡ true → IsGood card → AreBytes bytes
    → IsGood (answer_of knows card bytes).state × All IsSoundCard (answer_of knows card bytes).commits

-- what a good card that runs applets holds for good after each commit of an answer is what the changes up to that one make of what it held
abbrev pub AnswersPassChanges : Type 0
AnswersPassChanges =
    (knows : Instruction → Bool) (card : CardState) (bytes : List ℕ) → has_toolkit knows ≡ true → IsGood card → AreBytes bytes
    → (answer_of knows card bytes).commits ≡ states_after card.persistent (answer_of knows card bytes).changes

-- and what a fault leaves of it is good
abbrev pub FaultsLeaveGoodCards : Type 0
FaultsLeaveGoodCards =
    (knows : Instruction → Bool) (card left : CardState) (bytes : List ℕ) → has_toolkit knows ≡ true → IsGood card → AreBytes bytes
    → IsLeft card (passed_of knows card bytes) left → IsGood left

-- Over commands, faults and resets, one after the other: the commands of the toolkit and the wakes are accepted, the toolkit of the
-- card is where they move it, and it is in order.
abbrev pub EventsGoOn : Type 0
EventsGoOn =
    (knows : Instruction → Bool) (card : CardState) (events : List Event) → has_toolkit knows ≡ true → HasOrder card → AllCanHappen knows card events
    → AreAccepted (all_taken knows card events) (toolkit_of card) × (toolkit_of (card_after_all knows card events) ≡ (noted_of knows card events).state) × HasOrder (card_after_all knows card events)

-- ---- the laws of the toolkit, of a card

-- a command is fetched only where none is fetched and not answered, and the one that is answered is the one that was fetched
abbrev pub OneCommandIsOutstanding : Type 0
OneCommandIsOutstanding =
    (knows : Instruction → Bool) (card : CardState) (events : List Event) → has_toolkit knows ≡ true → HasOrder card → AllCanHappen knows card events
    → OneAtATime (unanswered card.session) (noted_of knows card events).log × AnsweredBetween (noted_of knows card events).log

-- after a command of an applet was admitted, its next turn is told of the answer that was accepted to it, unless it woke
abbrev pub ResponsesReachWhoAsked : Type 0
ResponsesReachWhoAsked =
    (knows : Instruction → Bool) (card : CardState) (events : List Event) (shelf : ℕ) → has_toolkit knows ≡ true → HasOrder card → AllCanHappen knows card events
    → ReachesWhoAsked shelf (awaited shelf (asks card.session)) (noted_of knows card events).log (awaited shelf (asks (card_after_all knows card events).session))

-- what envelopes gave an applet, it is told of in this order, or it is late for it
abbrev pub NoEventIsLost : Type 0
NoEventIsLost =
    (knows : Instruction → Bool) (card : CardState) (events : List Event) (shelf : ℕ) → has_toolkit knows ≡ true → HasOrder card → AllCanHappen knows card events
    → LosesNothing shelf (toolkit_of card) (noted_of knows card events)

-- A command that the card takes tells applets of an event: first the idle ones run, each once and in the order of the event's
-- targets, and what comes then is driving.
pub record RunsInOrder (card : CardState) (command : ToolkitInput) (first : Passed) (shelves : List ℕ) : Type 0 where
  pub order : begun first.log ≡ filter (is_idle (asks card.session)) shelves
  pub begins : moved command (toolkit_of card) ≡ before first driven

-- the events that an envelope brings, that of a TERMINAL PROFILE (40) and that of a STATUS (41); the other commands tell of none
abbrev pub RunsTargets : ToolkitInput → CardState → Type 0
RunsTargets (Report envelope) card = RunsInOrder card (Report envelope) (triggered envelope (toolkit_of card)) (triggered_by envelope (toolkit_of card)).shelves
RunsTargets (Profile bytes) card =
    RunsInOrder card (Profile bytes) (registered_told PROFILE_DOWNLOAD bytes (with_profile (toolkit_of card) bytes)) (targets card.persistent.rows PROFILE_DOWNLOAD)
RunsTargets Status card = RunsInOrder card Status (registered_told STATUS_COMMAND [] (toolkit_of card)) (targets card.persistent.rows STATUS_COMMAND)
RunsTargets _ card = ⊤

-- the idle applets that are told of an event run in the order of its targets, before any other
abbrev pub IdleTargetsRunInOrder : Type 0
IdleTargetsRunInOrder =
    (knows : Instruction → Bool) (card : CardState) (bytes : List ℕ) (command : ToolkitInput) → HasOrder card → taken knows card bytes ≡ Some command → RunsTargets command card
