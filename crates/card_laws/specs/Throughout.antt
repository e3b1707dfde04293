-- The laws of the toolkit over each stretch of what happens to a card, so also up to each wake and from it on.
use Rattle.std.specs.Prelude.{◌≡◌, ℕ, ◌==◌, Bool, true, false, if◌then◌else◌, List, ◌++◌, Option, Some, None}
use Rattle.std.specs.List.{filter_map, list_any}
use Rattle.uicc_types.specs.declared.runs.Step.{Step}
use Rattle.uicc_types.specs.declared.runs.TraceItem.{TraceItem}
use Rattle.applet_trait.specs.declared.stimuli.Stimulus.{Stimulus}
use Rattle.applet_trait.specs.declared.stimuli.Stimulus.TheVariants.{Response}
use Rattle.toolkit_model.specs.Orderly.{asks}
use Rattle.toolkit_model.specs.Passing.{Happening, Responded, Turned}
use Rattle.toolkit_model.specs.Awaiting.{awaited, is_owner, ReachesWhoAsked}
use Rattle.toolkit_model.specs.Owing.{owed, told_to, LosesNothing}
use Rattle.card_model.specs.Instructions.{is_known, has_toolkit}
use Rattle.card_model.specs.Runs.{IsRun}
use Rattle.card_model.specs.States.{CardState, Machine}
use Rattle.card_model.specs.Toolkit.{toolkit_of}
use Rattle.card_model.specs.declared.instructions.Instruction.{Instruction}
use Rattle.card_laws.specs.Happened.{events_in}
use Rattle.card_laws.specs.Moving.{HasOrder, Event, Answers, AllCanHappen, card_after_all, noted_of}
use Rattle.card_laws.specs.Noted.{brought_in}

-- ---- answers

-- an answer that was accepted to a command of the applet of a shelf, as the applet is told of it
abbrev pub accepted_in : ℕ → Happening → Option Stimulus
accepted_in shelf (Responded out reply) = if is_owner shelf out.owner then Some (Response reply.result reply.item reply.text) else None
accepted_in shelf _ = None

-- the stimulus, where it is the response to a command
abbrev pub if_response : Stimulus → Option Stimulus
if_response (Response result item text) = Some (Response result item text)
if_response _ = None

-- an answer that the applet of a shelf is told of
abbrev pub response_in : ℕ → Happening → Option Stimulus
response_in shelf (Turned turn) = if turn.shelf == shelf then if_response turn.stimulus else None
response_in shelf _ = None

-- the responses that were accepted to commands of this applet
abbrev pub accepted_for : ℕ → List Happening → List Stimulus
accepted_for shelf log = filter_map (accepted_in shelf) log

-- the responses that this applet was given
abbrev pub responses_to : ℕ → List Happening → List Stimulus
responses_to shelf log = filter_map (response_in shelf) log

-- ---- a stretch

-- all applets wake after a fault and at a reset
abbrev pub wakes_all : Event → Bool
wakes_all (Answers bytes) = false
wakes_all _ = true

-- Of what happens to a card, from this card on. After a command of an applet was admitted, its next turn is told of the answer that
-- was accepted to it, unless it woke; at the end no applet has still to be told of one. All answers that were accepted to commands
-- of an applet it is told of, each once and in their order. And while no applet wakes, what was late for an applet and what
-- envelopes brought it is, in this order, what it was told of and what is late for it then.
pub record KeepsThroughout (knows : Instruction → Bool) (card : CardState) (events : List Event) : Type 0 where
  pub reach : (shelf : ℕ) → ReachesWhoAsked shelf (awaited shelf (asks card.session)) (noted_of knows card events).log (awaited shelf (asks (card_after_all knows card events).session))
  pub answers : (shelf : ℕ) → responses_to shelf (noted_of knows card events).log ≡ accepted_for shelf (noted_of knows card events).log
  pub lost : (shelf : ℕ) → LosesNothing shelf (toolkit_of card) (noted_of knows card events)
  pub owing : list_any wakes_all events ≡ false → (shelf : ℕ)
      → owed shelf card.session.late ++ owed shelf (brought_in knows card events) ≡ told_to shelf (noted_of knows card events).log ++ owed shelf (card_after_all knows card events).session.late

-- of each stretch of what happens to a card that runs applets
abbrev pub LawsHoldThroughout : Type 0
LawsHoldThroughout =
    (knows : Instruction → Bool) (card : CardState) (early middle late : List Event) → has_toolkit knows ≡ true → HasOrder card → AllCanHappen knows card (early ++ (middle ++ late))
    → KeepsThroughout knows (card_after_all knows card early) middle

-- and so of each stretch of a run
abbrev pub LawsHoldThroughoutRuns : Type 0
LawsHoldThroughoutRuns =
    (old new : Machine) (steps : List Step) (items : List TraceItem) (run : IsRun old steps items new) (early middle late : List Event) → has_toolkit is_known ≡ true → HasOrder old.card
    → events_in old steps items new run ≡ early ++ (middle ++ late) → KeepsThroughout is_known (card_after_all is_known old.card early) middle
