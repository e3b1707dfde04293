-- What a card that runs applets passes is what its changes make of what it holds.
use Rattle.std.proofs.Common.{◌≡◌, ◌≢◌, ℕ, ◌<◌, Bool, true, false, List, [], ◌∷◌, ◌++◌, map, Option, Some, None, Result, Ok, Err, refl, sym, ◌∙◌, ap, All, IfOk, IsSomeAnd, MatchResult, arith}
use Rattle.std.proofs.lemmas.List.Elements.{All-weaker}
use Rattle.uicc_types.specs.Told.{AreBytes}
use Rattle.uicc_types.specs.declared.answers.StatusWord.{StatusWord}
use Rattle.apdu_form.specs.Classes.{channel_of}
use Rattle.apdu_form.specs.Model.{Apdu, IsCommand}
use Rattle.card_state.specs.Changes.{Change, changed, states_after}
use Rattle.card_state.specs.Persistent.{Registration, Persistent}
use Rattle.card_state.specs.Soundness.{IsSoundRow, AreEventCodes}
use Rattle.file_model.specs.Chains.{and_given}
use Rattle.file_model.specs.Changing.{FilesPassChanges, PinsPassChanges, TreesPassChanges}
use Rattle.file_model.specs.Channels.{ChannelOutcome}
use Rattle.file_model.specs.Commands.{first_fields, second_fields}
use Rattle.file_model.specs.Outcomes.{FileOutcome, PinOutcome, last_of}
use Rattle.file_model.specs.Pins.{pins_put}
use Rattle.file_model.specs.TreeOutcomes.{TreeOutcome}
use Rattle.file_model.specs.declared.commands.PinCommand.{PinCommand}
use Rattle.toolkit_model.specs.Passing.{Passed, passed_rows, changes_in}
use Rattle.toolkit_model.specs.Commands.{polled}
use Rattle.toolkit_model.specs.Steps.{ToolkitInput, Status, moved}
use Rattle.toolkit_model.specs.Installing.{InstallationsAreAccepted}
use Rattle.toolkit_model.specs.Sound.{AreSoundRows, LeavesGood, BringsSound, StepsLeaveGood, InstalledRowsAreSound}
use Rattle.card_model.specs.Answers.{Answered, settled, file_tried, pin_tried, managed, tree_tried, on_toolkit, toolkit_tried, then_polled, is_status, event_told, carried_out, carried_with, selection_on, seen_by, answer_of}
use Rattle.card_model.proofs.TriedLemmas.{cut_result, all_so, command_is}
use Rattle.card_model.specs.Chained.{Any}
use Rattle.card_model.specs.Instructions.{has_toolkit, is_of_tree}
use Rattle.card_model.specs.Laws.{key_named, IsStatusOf, IsLawfulAnswer, CommandsAreLawful}
use Rattle.card_model.specs.States.{CardState, IsGood}
use Rattle.card_model.specs.Toolkit.{ToolkitOutcome, toolkit_of, coming_to, with_rows}
use Rattle.card_model.specs.declared.instructions.Instruction.{Instruction}
use Rattle.card_model.specs.declared.instructions.Instruction.TheVariants.{File, Pin, ManageChannel, Toolkit, Tree}
use Rattle.card_laws.specs.Moving.{HasOrder}
use Rattle.card_laws.proofs.ToolkitOutcomeLemmas.{Comes, ComesTo, comes_by, outcome_comes}
use Rattle.card_laws.proofs.TakenLemmas.{of_running}
use Rattle.card_laws.proofs.GoesOnLemmas.{good_order}
use Rattle.card_laws.proofs.IsGoodLemmas.{good_toolkit}
use Rattle.card_laws.proofs.MakesLemmas.{AreFit}
use Rattle.card_laws.proofs.PassedRowsLemmas.{polled_commits}

abbrev Passes : Persistent → Answered → Type 0
Passes held answered = answered.commits ≡ states_after held answered.changes

-- ---- a command of the toolkit

apart : (a b : ℕ) → a < b → a ≢ b
apart a b less same = absurd (omega (arith, less, same))

sound_fit : (wide : Bool) (next : ℕ) (rows : List Registration) → AreSoundRows wide next rows → AreFit rows
sound_fit wide next rows are = record {
  shelves = λ i j d less low. apart _ _ (are.different i j d less low).shelf;
  codes = All-weaker (IsSoundRow wide next) (λ row. AreEventCodes row.codes) (λ row is. is.codes) rows are.each;
}

toolkit_passes : StepsLeaveGood → (card : CardState) → IsGood card → (command : ToolkitInput) (outcome : ToolkitOutcome) → Comes card command outcome → BringsSound card.persistent.is_wide outcome.next_sequence command → Passes card.persistent (on_toolkit card outcome)
toolkit_passes leaves card good command outcome comes brings =
    let wide : Bool = card.persistent.is_wide in
    let next : ℕ = outcome.next_sequence in
    let left : LeavesGood wide next (moved command (toolkit_of card)) = leaves wide card.persistent.next_sequence next command (toolkit_of card) (good_toolkit card good) comes.later comes.accepted brings in
    let fit : All AreFit (passed_rows (moved command (toolkit_of card)).log) = All-weaker (AreSoundRows wide next) AreFit (sound_fit wide next) (passed_rows (moved command (toolkit_of card)).log) left.commits in
    ap (λ (passed : Passed). map (with_rows card.persistent next) (passed_rows passed.log)) comes.passed ∙ comes.changes fit
    ∙ sym (ap (λ (passed : Passed). states_after card.persistent (changes_in passed.log)) comes.passed)

-- ---- first some changes, and then others

states_append : (held : Persistent) (first more : List Change) → states_after held (first ++ more) ≡ states_after held first ++ states_after (last_of held (states_after held first)) more
unfolding states_after
states_append held [] more = refl
states_append held (change ∷ first) more = ap (λ (states : List Persistent). changed held change ∷ states) (states_append (changed held change) first more)

both_pass : (held : Persistent) (answered later : Answered) → last_of held answered.commits ≡ answered.state.persistent → Passes held answered → Passes answered.state.persistent later
    → answered.commits ++ later.commits ≡ states_after held (answered.changes ++ later.changes)
both_pass held answered later ends one two =
    let from : answered.state.persistent ≡ last_of held (states_after held answered.changes) = sym ends ∙ ap (last_of held) one in
    ap (λ (states : List Persistent). states ++ later.commits) one
    ∙ ap (λ (states : List Persistent). states_after held answered.changes ++ states) (two ∙ ap (λ (state : Persistent). states_after state later.changes) from)
    ∙ sym (states_append held answered.changes later.changes)

-- ---- each instruction

module _ (installs : InstallationsAreAccepted) (sounds : InstalledRowsAreSound) (leaves : StepsLeaveGood) (lawful : CommandsAreLawful) (files : FilesPassChanges) (pins : PinsPassChanges) (trees : TreesPassChanges)
    (card : CardState) (good : IsGood card) where
  abbrev ready : HasOrder card
  ready = good_order card good

  abbrev Right : Result Answered StatusWord → Type 0
  Right result = MatchResult result (Passes card.persistent) Any

  of_file : (apdu : Apdu) (outcome : Result FileOutcome StatusWord) → IfOk outcome (λ done. done.passed ≡ states_after card.persistent done.changes) → Right (file_tried card apdu outcome)
  unfolding and_given
  of_file apdu (Err status) is = tt
  of_file apdu (Ok outcome) is = is

  of_pin : (command : PinCommand) (key : ℕ) (outcome : Result PinOutcome StatusWord)
      → IfOk outcome (λ done. map (λ pins. record card.persistent { pins = pins }) done.passed ≡ states_after card.persistent (pins_put (first_fields command) (second_fields command) key done.passed)) → Right (pin_tried card command key outcome)
  unfolding and_given
  of_pin command key (Err status) is = tt
  of_pin command key (Ok outcome) is = is

  of_channel : (outcome : Result ChannelOutcome StatusWord) → Right (managed card outcome)
  unfolding and_given states_after
  of_channel (Err status) = tt
  of_channel (Ok outcome) = refl

  of_tree : (outcome : Result TreeOutcome StatusWord) → IfOk outcome (λ done. done.passed ≡ states_after card.persistent done.changes) → Right (tree_tried card outcome)
  unfolding and_given
  of_tree (Err status) is = tt
  of_tree (Ok outcome) is = is

  of_comes : (command : Option ToolkitInput) (outcome : ToolkitOutcome) → IsSomeAnd command (λ each. Comes card each outcome) → Passes card.persistent (on_toolkit card outcome)
  of_comes None outcome comes = absurd comes
  of_comes (Some command) outcome comes = toolkit_passes leaves card good command outcome comes (comes.brings good.kinds).0

  of_toolkit : (command : Option ToolkitInput) (outcome : Result ToolkitOutcome StatusWord) → ComesTo card command outcome → Right (toolkit_tried card outcome)
  unfolding and_given
  of_toolkit command (Err status) comes = tt
  of_toolkit command (Ok outcome) comes = of_comes command outcome comes

  carried_passes : (apdu : Apdu) (instruction : Instruction) → Right (carried_out instruction card apdu)
  unfolding carried_out
  carried_passes apdu (File command) = of_file apdu _ (files command card.persistent (seen_by card) (selection_on card (channel_of apdu.class)) apdu)
  carried_passes apdu (Pin command) = of_pin command apdu.p2 _ (pins command card.persistent card.verified apdu)
  carried_passes apdu ManageChannel = of_channel _
  carried_passes apdu (Toolkit command) = of_toolkit _ _ (outcome_comes installs sounds card ready apdu command (seen_by card))
  carried_passes apdu (Tree command) = of_tree _ (trees command card.persistent (seen_by card) card.channels (channel_of apdu.class) apdu)

  -- ---- STATUS as an event

  polled_passes : (of_tree : Bool) (key : ℕ) (answered : Answered) → IsLawfulAnswer card of_tree key answered → Passes card.persistent answered → Passes card.persistent (then_polled answered)
  polled_passes of_tree key answered is passes =
      let state : CardState = answered.state in
      let outcome : ToolkitOutcome = coming_to state [] (polled (toolkit_of state)) in
      let comes : Comes state Status outcome = comes_by state (good_order state is.good) Status [] tt (polled_commits (toolkit_of state)) refl (tt, tt) in
      both_pass card.persistent answered (on_toolkit state outcome) is.ends passes (toolkit_passes leaves state is.good Status outcome comes tt)

  of_event : (of_tree : Bool) (key : ℕ) (is_event : Bool) (result : Result Answered StatusWord) → (is_event ≡ true → MatchResult result (IsLawfulAnswer card of_tree key) (IsStatusOf of_tree)) → Right result
      → Right (and_given result (λ answered. Ok (event_told is_event answered)))
  unfolding and_given
  of_event of_tree key is_event (Err status) law passes = tt
  of_event of_tree key true (Ok answered) law passes = polled_passes of_tree key answered (law refl) passes
  of_event of_tree key false (Ok answered) law passes = passes

  event_passes : (bytes : List ℕ) (apdu : Apdu) → IsCommand bytes apdu → (instruction : Instruction) → Right (carried_with true instruction card apdu)
  event_passes bytes apdu is (Toolkit command) = of_event false (key_named bytes) false (carried_out (Toolkit command) card apdu) (λ never. cc never) (carried_passes apdu (Toolkit command))
  event_passes bytes apdu is instruction =
      of_event (is_of_tree instruction) (key_named bytes) (is_status instruction) (carried_out instruction card apdu) (λ event. lawful card bytes apdu instruction good is refl) (carried_passes apdu instruction)

  nothing_passes : (status : StatusWord) → Passes card.persistent (settled card (Err status))
  unfolding states_after
  nothing_passes status = refl

  by_carried : (expected : Option ℕ) (result : Result Answered StatusWord) → Right result → Passes card.persistent (settled card (cut_result expected result))
  unfolding and_given
  by_carried expected (Err status) passes = nothing_passes status
  by_carried expected (Ok answered) passes = passes

  pub answer_passes : (knows : Instruction → Bool) (bytes : List ℕ) → has_toolkit knows ≡ true → AreBytes bytes → Passes card.persistent (answer_of knows card bytes)
  unfolding answer_of
  answer_passes knows bytes runs are =
      of_running knows card bytes runs (λ result. Passes card.persistent (settled card result)) (all_so _ nothing_passes)
      (λ apdu instruction read. by_carried apdu.expected (carried_with true instruction card apdu) (event_passes bytes apdu (command_is bytes apdu are read.read) instruction))
