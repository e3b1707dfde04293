-- What is noted of the commands of the toolkit: of an envelope that each applet that it triggers was given its event.
use Rattle.std.specs.Prelude.{◌≡◌, Bool, true, false, not, List, [], ◌∷◌, ◌++◌, map, filter, Option, Some, None}
use Rattle.std.specs.List.{filter_map}
use Rattle.toolkit_commands.specs.declared.envelopes.Envelope.{Envelope}
use Rattle.toolkit_model.specs.Commands.{triggered_by, triggered, enveloped}
use Rattle.toolkit_model.specs.Driving.{trigger_for}
use Rattle.toolkit_model.specs.Passing.{ToolkitState, Happening, Woke, Fetched, Responded, Given, Turned, Committed}
use Rattle.toolkit_model.specs.Sessions.{LateTrigger}
use Rattle.toolkit_model.specs.Steps.{ToolkitInput, Report, Fetch, Respond, Wake, moved}
use Rattle.toolkit_model.specs.Owing.{given_in}
use Rattle.card_model.specs.Instructions.{has_toolkit}
use Rattle.card_model.specs.States.{CardState}
use Rattle.card_model.specs.Toolkit.{toolkit_of}
use Rattle.card_model.specs.declared.instructions.Instruction.{Instruction}
use Rattle.card_laws.specs.Moving.{HasOrder, Event, AllCanHappen, card_after, taken_at, card_after_all, noted_of}

-- ---- the events that envelopes bring

-- an envelope brings its event, once for each applet that it triggers and in their order
abbrev pub brought_by : Envelope → ToolkitState → List LateTrigger
brought_by envelope state =
    let trigger = triggered_by envelope state in
    map (trigger_for trigger.code trigger.body) trigger.shelves

-- the other commands bring none
abbrev pub brought : ToolkitInput → ToolkitState → List LateTrigger
brought (Report envelope) state = brought_by envelope state
brought _ state = []

-- the events that are noted as given, in order
abbrev pub all_given : List Happening → List LateTrigger
all_given log = filter_map given_in log

-- What an envelope brings is noted as given, and nothing else: by the triggering alone, and so driving gives nothing.
abbrev pub EnvelopesGiveWhatTheyBring : Type 0
EnvelopesGiveWhatTheyBring =
    (envelope : Envelope) (state : ToolkitState)
    → (all_given (triggered envelope state).log ≡ brought_by envelope state) × (all_given (enveloped envelope state).log ≡ brought_by envelope state)

-- no other command gives an applet an event
abbrev pub EnvelopesAloneGive : Type 0
EnvelopesAloneGive = (command : ToolkitInput) (state : ToolkitState) → all_given (moved command state).log ≡ brought command state

-- ---- all that is noted

-- turns of applets and commits of rows are noted within commands of each kind
abbrev pub is_within : Happening → Bool
is_within (Turned turn) = true
is_within (Committed change rows) = true
is_within _ = false

-- what is noted besides, in order
abbrev pub besides : List Happening → List Happening
besides log = filter (λ happening. not (is_within happening)) log

-- What that is for each command: the events that an envelope brings, the command that is fetched, the one that is answered with
-- its answer, and that all applets woke; for the others it is nothing.
abbrev pub notes_of : ToolkitInput → ToolkitState → List Happening
notes_of (Report envelope) state = map (λ trigger. Given trigger) (brought_by envelope state)
notes_of (Fetch out) state = Fetched out ∷ []
notes_of (Respond out reply) state = Responded out reply ∷ []
notes_of (Wake rows minds) state = Woke ∷ []
notes_of _ state = []

-- What is noted of a command of the toolkit, beside turns, is this.
abbrev pub CommandsAreNoted : Type 0
CommandsAreNoted = (command : ToolkitInput) (state : ToolkitState) → besides (moved command state).log ≡ notes_of command state

-- ---- over all that happens to a card

-- what is noted where a command is carried out, if one is
abbrev pub notes_at : Option ToolkitInput → ToolkitState → List Happening
notes_at None state = []
notes_at (Some command) state = notes_of command state

-- what is noted in a run of a card
abbrev pub notes_in : (Instruction → Bool) → CardState → List Event → List Happening
notes_in knows card [] = []
notes_in knows card (event ∷ events) = notes_at (taken_at knows card event) (toolkit_of card) ++ notes_in knows (card_after knows card event) events

-- the events that a command brings, if one is carried out
abbrev pub brought_at : Option ToolkitInput → ToolkitState → List LateTrigger
brought_at None state = []
brought_at (Some command) state = brought command state

-- the events that the envelopes bring which a card takes, in order
abbrev pub brought_in : (Instruction → Bool) → CardState → List Event → List LateTrigger
brought_in knows card [] = []
brought_in knows card (event ∷ events) = brought_at (taken_at knows card event) (toolkit_of card) ++ brought_in knows (card_after knows card event) events

-- In each run of a card what is noted, beside turns, is this, and so are the events that were brought.
abbrev pub EventsAreNoted : Type 0
EventsAreNoted =
    (knows : Instruction → Bool) (card : CardState) (events : List Event) → has_toolkit knows ≡ true → HasOrder card → AllCanHappen knows card events
    → (besides (noted_of knows card events).log ≡ notes_in knows card events) × (all_given (noted_of knows card events).log ≡ brought_in knows card events)

-- what is noted of a stretch follows what is noted before it
abbrev pub StretchesFollow : Type 0
StretchesFollow =
    (knows : Instruction → Bool) (card : CardState) (early late : List Event) → has_toolkit knows ≡ true → HasOrder card → AllCanHappen knows card (early ++ late)
    → (noted_of knows card (early ++ late)).log ≡ (noted_of knows card early).log ++ (noted_of knows (card_after_all knows card early) late).log
