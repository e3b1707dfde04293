-- The laws of the toolkit over each stretch of what happens to a card.
use Rattle.std.proofs.Common.{◌≡◌, ℕ, Bool, true, false, List, [], ◌∷◌, ◌++◌, Option, Some, None, append_assoc, refl, sym, ◌∙◌, ap, ◌||◌, option_to_list}
use Rattle.std.specs.List.{list_any}
use Rattle.std.proofs.lemmas.List.Elements.{filter_map-append}
use Rattle.std.proofs.lemmas.List.Folds.{list_any-append}
use Rattle.toolkit_model.specs.Passing.{ToolkitState, Happening}
use Rattle.toolkit_model.specs.Sessions.{LateTrigger}
use Rattle.toolkit_model.specs.Steps.{ToolkitInput, Profile, Status, Report, Fetch, Respond, Install, Delete, Wake, moved, moved_by}
use Rattle.toolkit_model.specs.Owing.{given_in, owed, told_to, is_wake}
use Rattle.card_model.specs.Answers.{Answered, settled, tried}
use Rattle.card_model.specs.Instructions.{has_toolkit}
use Rattle.card_model.specs.States.{CardState}
use Rattle.card_model.specs.Toolkit.{toolkit_of}
use Rattle.card_model.specs.declared.instructions.Instruction.{Instruction}
use Rattle.card_laws.specs.ToolkitLaws.{EventsGoOn, ResponsesReachWhoAsked, NoEventIsLost}
use Rattle.card_laws.specs.Moving.{HasOrder, taken, Event, Answers, Breaks, Restarts, CanHappen, AllCanHappen, card_after, taken_at, card_after_all, all_taken, noted_of}
use Rattle.card_laws.specs.Noted.{all_given, besides, notes_at, notes_in, brought_at, brought_in, CommandsAreNoted, EnvelopesAloneGive}
use Rattle.card_laws.specs.Throughout.{wakes_all, KeepsThroughout}
use Rattle.card_laws.proofs.FetchingLemmas.{Suits, taken_suits}
use Rattle.card_laws.proofs.GoesOnLemmas.{StaysInOrder}
use Rattle.card_laws.proofs.NotedLemmas.{besides_joined, command_wakes}
use Rattle.card_laws.proofs.ResponsesToLemmas.{ReachAll, commands_told}

-- ---- one event

abbrev log_at : Option ToolkitInput → ToolkitState → List Happening
log_at None state = []
log_at (Some command) state = (moved command state).log

log_joined : (command : Option ToolkitInput) (others : List ToolkitInput) (state next : ToolkitState) → next ≡ (moved_by (option_to_list command ++ []) state).state
    → (moved_by (option_to_list command ++ others) state).log ≡ log_at command state ++ (moved_by others next).log
log_joined None others state next is = sym (ap (λ (from : ToolkitState). (moved_by others from).log) is)
log_joined (Some command) others state next is = sym (ap (λ (from : ToolkitState). (moved command state).log ++ (moved_by others from).log) is)

notes_one : CommandsAreNoted → (command : Option ToolkitInput) (state : ToolkitState) → besides (log_at command state) ≡ notes_at command state
notes_one noted None state = refl
notes_one noted (Some command) state = noted command state

gives_one : EnvelopesAloneGive → (command : Option ToolkitInput) (state : ToolkitState) → all_given (log_at command state) ≡ brought_at command state
gives_one gives None state = refl
gives_one gives (Some command) state = gives command state

-- a command that a card takes is no wake
never_wakes : (command : Option ToolkitInput) (answered : Answered) (state : ToolkitState) → Suits command answered → list_any is_wake (log_at command state) ≡ false
never_wakes None answered state suits = refl
never_wakes (Some (Profile bytes)) answered state suits = command_wakes (Profile bytes) state
never_wakes (Some Status) answered state suits = command_wakes Status state
never_wakes (Some (Report envelope)) answered state suits = command_wakes (Report envelope) state
never_wakes (Some (Fetch out)) answered state suits = command_wakes (Fetch out) state
never_wakes (Some (Respond out reply)) answered state suits = command_wakes (Respond out reply) state
never_wakes (Some (Install row)) answered state suits = command_wakes (Install row) state
never_wakes (Some (Delete shelf)) answered state suits = command_wakes (Delete shelf) state
never_wakes (Some (Wake rows minds)) answered state suits = absurd suits

-- ---- one after the other

module _ (goes : EventsGoOn) (knows : Instruction → Bool) (runs : has_toolkit knows ≡ true) where
  log_step : (card : CardState) (event : Event) (events : List Event) → HasOrder card → CanHappen knows card event
      → (noted_of knows card (event ∷ events)).log ≡ log_at (taken_at knows card event) (toolkit_of card) ++ (noted_of knows (card_after knows card event) events).log
  log_step card event events ready can =
      log_joined (taken_at knows card event) (all_taken knows (card_after knows card event) events) (toolkit_of card) (toolkit_of (card_after knows card event)) (goes knows card (event ∷ []) runs ready (can, tt)).1

  next_ready : (card : CardState) (event : Event) → HasOrder card → CanHappen knows card event → HasOrder (card_after knows card event)
  next_ready card event ready can = (goes knows card (event ∷ []) runs ready (can, tt)).2

  pub all_noted : CommandsAreNoted → (card : CardState) (events : List Event) → HasOrder card → AllCanHappen knows card events → besides (noted_of knows card events).log ≡ notes_in knows card events
  all_noted noted card [] ready can = refl
  all_noted noted card (event ∷ events) ready can =
      let next : CardState = card_after knows card event in
      let first : List Happening = log_at (taken_at knows card event) (toolkit_of card) in
      ap besides (log_step card event events ready can.0) ∙ besides_joined first (noted_of knows next events).log
      ∙ ap (λ (front : List Happening). front ++ besides (noted_of knows next events).log) (notes_one noted (taken_at knows card event) (toolkit_of card))
      ∙ ap (λ (back : List Happening). notes_at (taken_at knows card event) (toolkit_of card) ++ back) (all_noted noted next events (next_ready card event ready can.0) can.1)

  pub all_gives : EnvelopesAloneGive → (card : CardState) (events : List Event) → HasOrder card → AllCanHappen knows card events → all_given (noted_of knows card events).log ≡ brought_in knows card events
  all_gives gives card [] ready can = refl
  all_gives gives card (event ∷ events) ready can =
      let next : CardState = card_after knows card event in
      let first : List Happening = log_at (taken_at knows card event) (toolkit_of card) in
      ap all_given (log_step card event events ready can.0) ∙ filter_map-append given_in first (noted_of knows next events).log
      ∙ ap (λ (front : List LateTrigger). front ++ all_given (noted_of knows next events).log) (gives_one gives (taken_at knows card event) (toolkit_of card))
      ∙ ap (λ (back : List LateTrigger). brought_at (taken_at knows card event) (toolkit_of card) ++ back) (all_gives gives next events (next_ready card event ready can.0) can.1)

  -- all applets wake where the event says so
  one_wakes : (card : CardState) (event : Event) → list_any is_wake (log_at (taken_at knows card event) (toolkit_of card)) ≡ wakes_all event
  one_wakes card (Answers bytes) = never_wakes (taken knows card bytes) (settled card (tried knows card bytes)) (toolkit_of card) (taken_suits knows card bytes runs)
  one_wakes card (Breaks bytes left) = refl
  one_wakes card Restarts = refl

  all_wake : (card : CardState) (events : List Event) → HasOrder card → AllCanHappen knows card events → list_any is_wake (noted_of knows card events).log ≡ list_any wakes_all events
  all_wake card [] ready can = refl
  all_wake card (event ∷ events) ready can =
      let next : CardState = card_after knows card event in
      let first : List Happening = log_at (taken_at knows card event) (toolkit_of card) in
      ap (list_any is_wake) (log_step card event events ready can.0) ∙ list_any-append is_wake first (noted_of knows next events).log
      ∙ ap (λ (wakes : Bool). wakes || list_any is_wake (noted_of knows next events).log) (one_wakes card event)
      ∙ ap (λ (later : Bool). wakes_all event || later) (all_wake next events (next_ready card event ready can.0) can.1)

  pub all_follow : (card : CardState) (early late : List Event) → HasOrder card → AllCanHappen knows card (early ++ late)
      → (noted_of knows card (early ++ late)).log ≡ (noted_of knows card early).log ++ (noted_of knows (card_after_all knows card early) late).log
  all_follow card [] late ready can = refl
  all_follow card (event ∷ early) late ready can =
      let next : CardState = card_after knows card event in
      let first : List Happening = log_at (taken_at knows card event) (toolkit_of card) in
      let last : List Happening = (noted_of knows (card_after_all knows next early) late).log in
      log_step card event (early ++ late) ready can.0
      ∙ ap (λ (back : List Happening). first ++ back) (all_follow next early late (next_ready card event ready can.0) can.1)
      ∙ sym (append_assoc first (noted_of knows next early).log last)
      ∙ ap (λ (front : List Happening). front ++ last) (sym (log_step card event early ready can.0))

  -- ---- stretches

  can_early : (card : CardState) (early late : List Event) → AllCanHappen knows card (early ++ late) → AllCanHappen knows card early
  can_early card [] late can = tt
  can_early card (event ∷ early) late can = (can.0, can_early (card_after knows card event) early late can.1)

  can_late : (card : CardState) (early late : List Event) → AllCanHappen knows card (early ++ late) → AllCanHappen knows (card_after_all knows card early) late
  can_late card [] late can = can
  can_late card (event ∷ early) late can = can_late (card_after knows card event) early late can.1

  module _ (gives : EnvelopesAloneGive) (reach : ResponsesReachWhoAsked) (loses : NoEventIsLost) (reach_all : ReachAll) (stays : StaysInOrder) where
    owes : (card : CardState) (events : List Event) → HasOrder card → AllCanHappen knows card events → list_any wakes_all events ≡ false → (shelf : ℕ)
        → owed shelf card.session.late ++ owed shelf (brought_in knows card events) ≡ told_to shelf (noted_of knows card events).log ++ owed shelf (card_after_all knows card events).session.late
    owes card events ready can none shelf =
        let log : List Happening = (noted_of knows card events).log in
        ap (λ (triggers : List LateTrigger). owed shelf card.session.late ++ owed shelf triggers) (sym (all_gives gives card events ready can))
        ∙ loses knows card events shelf runs ready can (all_wake card events ready can ∙ none)
        ∙ ap (λ (state : ToolkitState). told_to shelf log ++ owed shelf state.session.late) (sym (goes knows card events runs ready can).1)

    keeps : (card : CardState) (events : List Event) → HasOrder card → AllCanHappen knows card events → KeepsThroughout knows card events
    keeps card events ready can = record {
      reach = λ shelf. reach knows card events shelf runs ready can;
      answers = λ shelf. commands_told reach_all stays shelf (all_taken knows card events) (toolkit_of card) ready.order (goes knows card events runs ready can).0;
      lost = λ shelf. loses knows card events shelf runs ready can;
      owing = owes card events ready can;
    }

    pub stretch_keeps : (card : CardState) (early middle late : List Event) → HasOrder card → AllCanHappen knows card (early ++ (middle ++ late)) → KeepsThroughout knows (card_after_all knows card early) middle
    stretch_keeps card early middle late ready can =
        let next : CardState = card_after_all knows card early in
        keeps next middle (goes knows card early runs ready (can_early card early (middle ++ late) can)).2 (can_early next middle late (can_late card early (middle ++ late) can))
