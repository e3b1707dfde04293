-- How a card goes on with each command, and over all that happens to it.
use Rattle.std.proofs.Common.{◌≡◌, ℕ, Bool, true, List, [], ◌∷◌, ◌++◌, map, Option, Some, None, Result, Ok, Err, refl, sym, ◌∙◌, ap, subst, All, IfSome, IsSomeAnd, MatchResult, is_some, slice_index_or, slice_set, option_to_list}
use Rattle.std.specs.Prelude.{⊤}
use Rattle.std.proofs.lemmas.List.Elements.{All-nil, All-cons, All-map, All-contains}
use Rattle.uicc_types.specs.declared.answers.StatusWord.{StatusWord}
use Rattle.uicc_types.specs.declared.answers.TheConstants.StatusWord.{DONE}
use Rattle.apdu_form.specs.Model.{Apdu, cut_to}
use Rattle.card_state.specs.Changes.{Change}
use Rattle.card_state.specs.Persistent.{Persistent, Registration}
use Rattle.file_model.specs.Chains.{and_given}
use Rattle.file_model.specs.Outcomes.{FileOutcome, PinOutcome, last_of}
use Rattle.file_model.specs.Commands.{file_outcome}
use Rattle.file_model.specs.Selecting.{telling, status_told}
use Rattle.file_model.specs.declared.selections.Selection.{Selection}
use Rattle.file_model.specs.TreeOutcomes.{TreeOutcome}
use Rattle.apdu_form.specs.Classes.{channel_of}
use Rattle.file_model.specs.Channels.{ChannelOutcome}
use Rattle.file_model.specs.declared.commands.FileCommand.TheVariants as file
use Rattle.file_model.specs.declared.commands.PinCommand.{PinCommand}
use Rattle.applet_trait.specs.Minds.{AppletState}
use Rattle.toolkit_model.specs.Passing.{ToolkitState, Passed, passed_rows}
use Rattle.toolkit_model.specs.Running.{mind_on}
use Rattle.toolkit_model.specs.Commands.{polled}
use Rattle.toolkit_model.specs.Steps.{HaveMinds, ToolkitInput, Status, Wake, IsAccepted, AreAccepted, moved, moved_by}
use Rattle.toolkit_model.specs.Installing.{InstallationsAreAccepted}
use Rattle.toolkit_model.specs.OrderlySessions.{IsInOrder}
use Rattle.toolkit_model.specs.Sound.{InstalledRowsAreSound}
use Rattle.card_model.specs.Answers.{Answered, refused, settled, on_files, on_pins, on_channels, on_trees, on_toolkit, with_pins, file_tried, pin_tried, managed, tree_tried, toolkit_tried, selection_on, seen_by, then_polled, carried_out, carried_with, tried, answer_of, passed_of}
use Rattle.card_model.specs.Chained.{Any}
use Rattle.card_model.proofs.ChainedLemmas.{past, past_given}
use Rattle.card_model.specs.Instructions.{has_toolkit}
use Rattle.card_model.specs.OtherFiles.{HaveOtherFiles}
use Rattle.card_model.proofs.OtherFilesLemmas.{file_leaves, tree_leaves}
use Rattle.card_model.proofs.TriedLemmas.{cut_result, all_so}
use Rattle.card_model.specs.Runs.{boxes_left}
use Rattle.card_model.specs.States.{CardState, IsGood, woken}
use Rattle.card_model.specs.Toolkit.{ToolkitOutcome, toolkit_of, coming_to, with_rows, states_passed}
use Rattle.card_model.specs.declared.instructions.Instruction.{Instruction}
use Rattle.card_model.specs.declared.instructions.Instruction.TheVariants.{File, Pin, ManageChannel, Toolkit, Tree}
use Rattle.card_laws.specs.Moving.{fixed, HaveFixed, rows_by, rows_after, LeavesRows, command_by, if_carried, taken, GoesOn, HasOrder, Event, Answers, Breaks, Restarts, CanHappen, AllCanHappen, card_after, taken_at, card_after_all, all_taken, noted_of}
use Rattle.card_laws.proofs.PassedRowsLemmas.{polled_commits}
use Rattle.card_laws.proofs.HaveFixedLemmas.{AreBelow}
use Rattle.card_laws.proofs.BoxesLeftLemmas.{minds_left}
use Rattle.card_laws.proofs.ToolkitOutcomeLemmas.{CanStand, Comes, ComesTo, comes_by, outcome_comes}
use Rattle.card_laws.proofs.TakenLemmas.{of_taken}
use Rattle.card_laws.proofs.ToolkitWokenLemmas.{wakes}

-- ---- what a command leaves

-- the card can wake over this state
abbrev pub CanWake : CardState → Persistent → Type 0
CanWake card state = CanStand card state.next_sequence state.rows

pub wakes_now : (card : CardState) → HasOrder card → CanWake card card.persistent
wakes_now card ready = record { are_rows = ready.order.rows; minds = ready.order.minds; below = ready.sequences; applets = λ have. have }

-- it goes on so whatever it tells
told_goes : (command : Option ToolkitInput) (card : CardState) (answered : Answered) (body : List ℕ) (status : StatusWord) → GoesOn command card answered → GoesOn command card (record answered { body = body; status = status })
told_goes (Some command) card answered body status goes = record { accepted = goes.accepted; toolkit = goes.toolkit; commits = goes.commits }
told_goes None card answered body status goes = record { toolkit = goes.toolkit; commits = goes.commits }

-- The card goes on so, the next sequence number is above those of its rows, and it can wake over each state that it passes. Where a
-- command of the toolkit was carried out, that is what the status tells.
pub record Goes (command : Option ToolkitInput) (card : CardState) (answered : Answered) : Type 0 where
  pub goes : GoesOn command card answered
  pub below : AreBelow answered.state.persistent.next_sequence answered.state.persistent.rows
  pub states : All (CanWake card) answered.commits
  pub fixed : All (λ state. HaveFixed (rows_after command card.persistent.rows) state.rows) answered.commits
  pub done : IfSome command (λ each. answered.status ≡ DONE)

-- where no commit changes the rows
same_fixed : (rows : List Registration) (commits : List Persistent) → All (λ state. state.rows ≡ rows) commits → All (λ state. HaveFixed rows state.rows) commits
same_fixed rows commits same = λ k d low. ap (map fixed) (same k d low)

-- nothing changes where the command is refused
refused_goes : (card : CardState) → HasOrder card → (status : StatusWord) → Goes None card (refused card status)
refused_goes card ready status = record {
  goes = record { toolkit = refl; commits = All-nil (λ (state : Persistent). state.rows ≡ card.persistent.rows) };
  below = ready.sequences;
  states = All-nil (CanWake card);
  fixed = same_fixed card.persistent.rows [] (All-nil (λ (state : Persistent). state.rows ≡ card.persistent.rows));
  done = tt;
}

rows_last : (state base : Persistent) (next : ℕ) (rows : List (List Registration)) → (last_of state (map (with_rows base next) rows)).rows ≡ last_of state.rows rows
rows_last state base next [] = refl
rows_last state base next (first ∷ others) = rows_last (with_rows base next first) base next others

rows_each : (base : Persistent) (next : ℕ) (rows : List (List Registration)) → map (λ (state : Persistent). state.rows) (map (with_rows base next) rows) ≡ rows
rows_each base next [] = refl
rows_each base next (first ∷ others) = ap (λ (rest : List (List Registration)). first ∷ rest) (rows_each base next others)

-- a command of the toolkit
pub goes_by : (card : CardState) (command : ToolkitInput) (outcome : ToolkitOutcome) → Comes card command outcome → Goes (Some command) card (on_toolkit card outcome)
goes_by card command outcome comes =
    let last : Persistent = last_of card.persistent (states_passed card.persistent outcome) in
    let came : Passed = moved command (toolkit_of card) in
    let rows_are : last.rows ≡ came.state.rows =
    rows_last card.persistent card.persistent outcome.next_sequence (passed_rows outcome.passed.log) ∙ ap (λ (passed : Passed). last_of card.persistent.rows (passed_rows passed.log)) comes.passed ∙ comes.ends in
    let same : last.rows ≡ outcome.passed.state.rows = rows_are ∙ sym (ap (λ (passed : Passed). passed.state.rows) comes.passed) in
    record {
      goes = record {
        accepted = comes.accepted;
        toolkit = ap (λ (rows : List Registration). record outcome.passed.state { rows = rows }) same ∙ ap (λ (passed : Passed). passed.state) comes.passed;
        commits = rows_each card.persistent outcome.next_sequence (passed_rows outcome.passed.log) ∙ ap (λ (passed : Passed). passed_rows passed.log) comes.passed;
      };
      below = subst (λ (next : ℕ). AreBelow next last.rows) (sym comes.next) (subst (AreBelow outcome.next_sequence) (sym rows_are) comes.below);
      states = All-map (CanWake card) (with_rows card.persistent outcome.next_sequence) (passed_rows outcome.passed.log)
          (subst (λ (passed : Passed). All (CanStand card outcome.next_sequence) (passed_rows passed.log)) (sym comes.passed) comes.each);
      fixed = All-map (λ state. HaveFixed (rows_by command card.persistent.rows) state.rows) (with_rows card.persistent outcome.next_sequence) (passed_rows outcome.passed.log)
          (subst (λ (passed : Passed). All (HaveFixed (rows_by command card.persistent.rows)) (passed_rows passed.log)) (sym comes.passed) comes.fixed);
      done = refl;
    }

-- a command on files
files_last : (base state : Persistent) (passed : List Persistent) → state ≡ record base { files = state.files } → HaveOtherFiles base passed → last_of state passed ≡ record base { files = (last_of state passed).files }
files_last base state [] is other = is
files_last base state (next ∷ passed) is other = files_last base next passed other.0 other.1

files_each : (base : Persistent) (passed : List Persistent) → HaveOtherFiles base passed → All (λ (state : Persistent). state.rows ≡ base.rows) passed
files_each base [] other = All-nil (λ (state : Persistent). state.rows ≡ base.rows)
files_each base (next ∷ passed) other = All-cons (λ (state : Persistent). state.rows ≡ base.rows) next passed (ap (λ (state : Persistent). state.rows) other.0) (files_each base passed other.1)

files_wake : (card : CardState) (passed : List Persistent) → CanWake card card.persistent → HaveOtherFiles card.persistent passed → All (CanWake card) passed
files_wake card [] stands other = All-nil (CanWake card)
files_wake card (next ∷ passed) stands other = All-cons (CanWake card) next passed (subst (CanWake card) (sym other.0) stands) (files_wake card passed stands other.1)

module _ (card : CardState) (ready : HasOrder card) where
  passed_go : (body : List ℕ) (status : StatusWord) (channels : List (Option Selection)) (passed : List Persistent) (changes : List Change) → HaveOtherFiles card.persistent passed
      → Goes None card (record { body = body; status = status; state = record card { persistent = last_of card.persistent passed; channels = channels }; commits = passed; changes = changes })
  passed_go body status channels passed changes other =
      let last : Persistent = last_of card.persistent passed in
      let is : last ≡ record card.persistent { files = last.files } = files_last card.persistent card.persistent passed refl other in
      record {
        goes = record {
          toolkit = ap (λ (state : Persistent). record (toolkit_of card) { rows = state.rows }) is;
          commits = files_each card.persistent passed other;
        };
        below = subst (λ (state : Persistent). AreBelow state.next_sequence state.rows) (sym is) ready.sequences;
        states = files_wake card passed (wakes_now card ready) other;
        fixed = same_fixed card.persistent.rows passed (files_each card.persistent passed other);
        done = tt;
      }

  files_go : (channel : ℕ) (outcome : FileOutcome) → HaveOtherFiles card.persistent outcome.passed → Goes None card (on_files card channel outcome)
  files_go channel outcome other = passed_go outcome.body outcome.status (slice_set card.channels channel (Some outcome.selection)) outcome.passed outcome.changes other

  -- and one that makes, deletes or resizes files
  trees_go : (outcome : TreeOutcome) → HaveOtherFiles card.persistent outcome.passed → Goes None card (on_trees card outcome)
  trees_go outcome other = passed_go [] DONE outcome.channels outcome.passed outcome.changes other

-- a command on PINs, and one on channels
pins_go : (command : PinCommand) (key : ℕ) (card : CardState) → HasOrder card → (outcome : PinOutcome) → Goes None card (on_pins card command key outcome)
pins_go command key card ready outcome = record {
  goes = record { toolkit = refl; commits = All-map (λ (state : Persistent). state.rows ≡ card.persistent.rows) (with_pins card.persistent) outcome.passed (λ k d low. refl) };
  below = ready.sequences;
  states = All-map (CanWake card) (with_pins card.persistent) outcome.passed (λ k d low. wakes_now card ready);
  fixed = All-map (λ (state : Persistent). HaveFixed card.persistent.rows state.rows) (with_pins card.persistent) outcome.passed (λ k d low. refl);
  done = tt;
}

channels_go : (card : CardState) → HasOrder card → (outcome : ChannelOutcome) → Goes None card (on_channels card outcome)
channels_go card ready outcome = record {
  goes = record { toolkit = refl; commits = All-nil (λ (state : Persistent). state.rows ≡ card.persistent.rows) };
  below = ready.sequences;
  states = All-nil (CanWake card);
  fixed = same_fixed card.persistent.rows [] (All-nil (λ (state : Persistent). state.rows ≡ card.persistent.rows));
  done = tt;
}

-- ---- each instruction

-- STATUS commits nothing of its own, and is done
abbrev pub IsDone : FileOutcome → Type 0
IsDone outcome = (outcome.passed ≡ []) × (outcome.status ≡ DONE)

pub status_done : (state : Persistent) (selection : Selection) (apdu : Apdu) → MatchResult (status_told state selection apdu) IsDone Any
unfolding status_told telling
status_done state selection apdu = past IsDone _ _ _ (past IsDone _ _ _ (past_given IsDone _ _ _ (λ file. (refl, refl))))

module _ (installs : InstallationsAreAccepted) (sounds : InstalledRowsAreSound) (card : CardState) (ready : HasOrder card) (apdu : Apdu) where
  abbrev Q : Option ToolkitInput → Result Answered StatusWord → Type 0
  Q command result = MatchResult result (λ answered. Goes command card answered) Any

  of_file : (outcome : Result FileOutcome StatusWord) → MatchResult outcome (λ done. HaveOtherFiles card.persistent done.passed) Any → Q None (file_tried card apdu outcome)
  unfolding and_given
  of_file (Err status) leaves = tt
  of_file (Ok outcome) leaves = files_go card ready (channel_of apdu.class) outcome leaves

  of_pin : (command : PinCommand) (key : ℕ) (outcome : Result PinOutcome StatusWord) → Q None (pin_tried card command key outcome)
  unfolding and_given
  of_pin command key (Err status) = tt
  of_pin command key (Ok outcome) = pins_go command key card ready outcome

  of_channel : (outcome : Result ChannelOutcome StatusWord) → Q None (managed card outcome)
  unfolding and_given
  of_channel (Err status) = tt
  of_channel (Ok outcome) = channels_go card ready outcome

  of_tree : (outcome : Result TreeOutcome StatusWord) → MatchResult outcome (λ done. HaveOtherFiles card.persistent done.passed) Any → Q None (tree_tried card outcome)
  unfolding and_given
  of_tree (Err status) leaves = tt
  of_tree (Ok outcome) leaves = trees_go card ready outcome leaves

  of_comes : (command : Option ToolkitInput) (outcome : ToolkitOutcome) → IsSomeAnd command (λ each. Comes card each outcome) → Goes command card (on_toolkit card outcome)
  of_comes None outcome comes = absurd comes
  of_comes (Some command) outcome comes = goes_by card command outcome comes

  of_toolkit : (command : Option ToolkitInput) (outcome : Result ToolkitOutcome StatusWord) → ComesTo card command outcome → Q command (toolkit_tried card outcome)
  unfolding and_given
  of_toolkit command (Err status) comes = tt
  of_toolkit command (Ok outcome) comes = of_comes command outcome comes

  -- the applets are told of a STATUS
  polled_goes : (outcome : FileOutcome) → IsDone outcome → Goes (Some Status) card (then_polled (on_files card (channel_of apdu.class) outcome))
  polled_goes outcome is =
      let told : Goes (Some Status) card (on_toolkit card (coming_to card [] (polled (toolkit_of card)))) =
      goes_by card Status (coming_to card [] (polled (toolkit_of card))) (comes_by card ready Status [] tt (polled_commits (toolkit_of card)) refl (tt, tt)) in
      subst (λ (passed : List Persistent). Goes (Some Status) card (then_polled (on_files card (channel_of apdu.class) (record outcome { passed = passed })))) (sym is.0)
      (record { goes = record { accepted = tt; toolkit = told.goes.toolkit; commits = told.goes.commits }; below = told.below; states = told.states; fixed = told.fixed; done = is.1 })

  of_status : (outcome : Result FileOutcome StatusWord) → MatchResult outcome IsDone Any → Q (Some Status) (and_given (file_tried card apdu outcome) (λ answered. Ok (then_polled answered)))
  unfolding and_given
  of_status (Err status) is = tt
  of_status (Ok outcome) is = polled_goes outcome is

  no_event : (command : Option ToolkitInput) (result : Result Answered StatusWord) → Q command result → Q command (and_given result (λ answered. Ok answered))
  unfolding and_given
  no_event command (Err status) goes = tt
  no_event command (Ok answered) goes = goes

  abbrev selection : Selection
  selection = selection_on card (channel_of apdu.class)

  carried_goes : (instruction : Instruction) → Q (command_by instruction card apdu) (carried_with true instruction card apdu)
  unfolding carried_out file_outcome
  carried_goes (File file.Status) = of_status (status_told card.persistent selection apdu) (status_done card.persistent selection apdu)
  carried_goes (File file.Select) = no_event None _ (of_file _ (file_leaves card.persistent (seen_by card) selection apdu file.Select))
  carried_goes (File (file.Contents command)) = no_event None _ (of_file _ (file_leaves card.persistent (seen_by card) selection apdu (file.Contents command)))
  carried_goes (Pin command) = no_event None _ (of_pin command apdu.p2 _)
  carried_goes ManageChannel = no_event None _ (of_channel _)
  carried_goes (Toolkit command) = no_event _ _ (of_toolkit _ _ (outcome_comes installs sounds card ready apdu command (seen_by card)))
  carried_goes (Tree command) = no_event None _ (of_tree _ (tree_leaves card.persistent (seen_by card) card.channels (channel_of apdu.class) apdu command))

  -- whatever the data are cut to
  pub by_carried : (command : Option ToolkitInput) (result : Result Answered StatusWord) → Q command result → Goes (if_carried result command) card (settled card (cut_result apdu.expected result))
  unfolding and_given
  by_carried command (Err status) goes = refused_goes card ready status
  by_carried command (Ok answered) goes =
      record { goes = told_goes command card answered (cut_to apdu.expected answered.body) answered.status goes.goes; below = goes.below; states = goes.states; fixed = goes.fixed; done = goes.done }

  left_by : (command : Option ToolkitInput) (result : Result Answered StatusWord) → Q command result → MatchResult result (λ answered. LeavesRows command card answered) (λ status. ⊤)
  left_by command (Err status) goes = tt
  left_by command (Ok answered) goes = record { fixed = goes.fixed; boxes = λ have k d low. (goes.states k d low).applets have }

  pub rows_left : (instruction : Instruction) → MatchResult (carried_with true instruction card apdu) (λ answered. LeavesRows (command_by instruction card apdu) card answered) (λ status. ⊤)
  rows_left instruction = left_by (command_by instruction card apdu) (carried_with true instruction card apdu) (carried_goes instruction)

-- what telling the applets of STATUS leaves
pub told_left : (card : CardState) → HasOrder card → LeavesRows (Some Status) card (on_toolkit card (coming_to card [] (polled (toolkit_of card))))
told_left card ready =
    let goes : Goes (Some Status) card (on_toolkit card (coming_to card [] (polled (toolkit_of card)))) =
    goes_by card Status (coming_to card [] (polled (toolkit_of card))) (comes_by card ready Status [] tt (polled_commits (toolkit_of card)) refl (tt, tt)) in
    record { fixed = goes.fixed; boxes = λ have k d low. (goes.states k d low).applets have }

-- ---- the answer

-- the same, but for the status
pub record GoesOnWell (command : Option ToolkitInput) (card : CardState) (answered : Answered) : Type 0 where
  pub goes : GoesOn command card answered
  pub below : AreBelow answered.state.persistent.next_sequence answered.state.persistent.rows
  pub states : All (CanWake card) answered.commits

module _ (installs : InstallationsAreAccepted) (sounds : InstalledRowsAreSound) (knows : Instruction → Bool) (runs : has_toolkit knows ≡ true) where
  pub tried_goes : (card : CardState) → HasOrder card → (bytes : List ℕ) → Goes (taken knows card bytes) card (settled card (tried knows card bytes))
  tried_goes card ready bytes =
      of_taken knows card bytes runs (λ command result. Goes command card (settled card result)) (all_so _ (refused_goes card ready))
      (λ apdu instruction read. by_carried installs sounds card ready apdu (command_by instruction card apdu) (carried_with true instruction card apdu) (carried_goes installs sounds card ready apdu instruction))

  pub answer_goes : (card : CardState) → HasOrder card → (bytes : List ℕ) → GoesOnWell (taken knows card bytes) card (answer_of knows card bytes)
  unfolding answer_of
  answer_goes card ready bytes =
      let goes : Goes (taken knows card bytes) card (settled card (tried knows card bytes)) = tried_goes card ready bytes in
      record { goes = told_goes (taken knows card bytes) card (settled card (tried knows card bytes)) _ _ goes.goes; below = goes.below; states = goes.states }

-- ---- good cards

pub box_there : (box : Option AppletState) (kind : ℕ) → IsSomeAnd box (λ mind. mind.kind ≡ kind) → is_some box ≡ true
box_there None kind has = absurd has
box_there (Some mind) kind has = refl

pub good_order : (card : CardState) → IsGood card → HasOrder card
good_order card good = record {
  order = record {
    rows = record {
      shelves = λ i j d less low. (good.sound.sound.distinct_rows i j d less low).shelf;
      sequences = λ i j d less low. (good.sound.sound.distinct_rows i j d less low).sequence;
      texts = λ k d low. (good.sound.sound.rows k d low).text;
      few_texts = good.sound.sound.texts;
    };
    session = good.session;
    minds = λ k d low. box_there (mind_on card.boxes (slice_index_or card.persistent.rows k d).shelf) (slice_index_or card.persistent.rows k d).kind (good.boxes k d low);
  };
  sequences = λ k d low. (good.sound.sound.rows k d low).sequence;
}

-- ---- events

-- from one toolkit to the next, by a command or by none
abbrev IsNext : Option ToolkitInput → ToolkitState → ToolkitState → Type 0
IsNext (Some command) state next = IsAccepted command state × (next ≡ (moved command state).state)
IsNext None state next = next ≡ state

next_goes : (command : Option ToolkitInput) (card : CardState) (answered : Answered) → GoesOn command card answered → IsNext command (toolkit_of card) (toolkit_of answered.state)
next_goes (Some command) card answered goes = (goes.accepted, goes.toolkit)
next_goes None card answered goes = goes.toolkit

joined : (command : Option ToolkitInput) (others : List ToolkitInput) (state next last : ToolkitState) → IsNext command state next → AreAccepted others next → last ≡ (moved_by others next).state
    → AreAccepted (option_to_list command ++ others) state × (last ≡ (moved_by (option_to_list command ++ others) state).state)
joined None others state next last is accepted moves =
    (subst (AreAccepted others) is accepted, subst (λ (from : ToolkitState). last ≡ (moved_by others from).state) is moves)
joined (Some command) others state next last is accepted moves =
    ((is.0, subst (AreAccepted others) is.1 accepted), subst (λ (from : ToolkitState). last ≡ (moved_by others from).state) is.1 moves)

abbrev pub StaysInOrder : Type 0
StaysInOrder = (commands : List ToolkitInput) (state : ToolkitState) → IsInOrder state → AreAccepted commands state → IsInOrder (moved_by commands state).state

next_in_order : StaysInOrder → (command : Option ToolkitInput) (state next : ToolkitState) → IsInOrder state → IsNext command state next → IsInOrder next
next_in_order stays (Some command) state next order is = subst IsInOrder (sym is.1) (stays (command ∷ []) state order (is.0, tt))
next_in_order stays None state next order is = subst IsInOrder (sym is) order

pub record StepGoes (command : Option ToolkitInput) (card next : CardState) : Type 0 where
  pub is_next : IsNext command (toolkit_of card) (toolkit_of next)
  pub order : HasOrder next

-- a card that woke over rows for which its boxes are there
woken_goes : StaysInOrder → (card : CardState) → HasOrder card → (state : Persistent) (boxes : List (Option AppletState)) → CanWake card state → HaveMinds state.rows boxes
    → StepGoes (Some (Wake state.rows boxes)) card (woken state boxes)
unfolding woken
woken_goes stays card ready state boxes stands minds =
    let is : IsNext (Some (Wake state.rows boxes)) (toolkit_of card) (toolkit_of (woken state boxes)) = ((stands.are_rows, minds), wakes state.rows boxes) in
    record {
      is_next = is;
      order = record { order = next_in_order stays (Some (Wake state.rows boxes)) (toolkit_of card) (toolkit_of (woken state boxes)) ready.order is; sequences = stands.below };
    }

left_goes : StaysInOrder → (card : CardState) → HasOrder card → (state : Persistent) → CanWake card state
    → (left : CardState) → left ≡ woken state (boxes_left card.persistent.rows state.rows card.boxes) → StepGoes (Some (Wake left.persistent.rows (boxes_left card.persistent.rows left.persistent.rows card.boxes))) card left
unfolding woken
left_goes stays card ready state stands left is =
    subst (λ (each : CardState). StepGoes (Some (Wake each.persistent.rows (boxes_left card.persistent.rows each.persistent.rows card.boxes))) card each) (sym is)
    (woken_goes stays card ready state (boxes_left card.persistent.rows state.rows card.boxes) stands (minds_left card.persistent.rows state.rows card.boxes stands.minds))

module _ (installs : InstallationsAreAccepted) (sounds : InstalledRowsAreSound) (stays : StaysInOrder) (knows : Instruction → Bool) (runs : has_toolkit knows ≡ true) where
  pub event_goes : (card : CardState) → HasOrder card → (event : Event) → CanHappen knows card event → StepGoes (taken_at knows card event) card (card_after knows card event)
  event_goes card ready (Answers bytes) can =
      let goes : GoesOnWell (taken knows card bytes) card (answer_of knows card bytes) = answer_goes installs sounds knows runs card ready bytes in
      let is : IsNext (taken knows card bytes) (toolkit_of card) (toolkit_of (answer_of knows card bytes).state) = next_goes (taken knows card bytes) card (answer_of knows card bytes) goes.goes in
      record { is_next = is; order = record { order = next_in_order stays (taken knows card bytes) (toolkit_of card) (toolkit_of (answer_of knows card bytes).state) ready.order is; sequences = goes.below } }
  event_goes card ready (Breaks bytes left) can =
      let goes : GoesOnWell (taken knows card bytes) card (answer_of knows card bytes) = answer_goes installs sounds knows runs card ready bytes in
      let states : All (CanWake card) (passed_of knows card bytes) = All-cons (CanWake card) card.persistent (answer_of knows card bytes).commits (wakes_now card ready) goes.states in
      left_goes stays card ready can.persistent (All-contains (CanWake card) (passed_of knows card bytes) can.persistent states can.passed) left can.woke
  event_goes card ready Restarts can = woken_goes stays card ready card.persistent card.boxes (wakes_now card ready) ready.order.minds

  abbrev pub AllGo : CardState → List Event → Type 0
  AllGo card events =
      AreAccepted (all_taken knows card events) (toolkit_of card) × (toolkit_of (card_after_all knows card events) ≡ (noted_of knows card events).state) × HasOrder (card_after_all knows card events)

  pub events_go : (card : CardState) (events : List Event) → HasOrder card → AllCanHappen knows card events → AllGo card events
  events_go card [] ready can = (tt, refl, ready)
  events_go card (event ∷ events) ready can =
      let first : StepGoes (taken_at knows card event) card (card_after knows card event) = event_goes card ready event can.0 in
      let rest : AllGo (card_after knows card event) events = events_go (card_after knows card event) events first.order can.1 in
      let both = joined (taken_at knows card event) (all_taken knows (card_after knows card event) events) (toolkit_of card) (toolkit_of (card_after knows card event)) (toolkit_of (card_after_all knows card (event ∷ events)))
      first.is_next rest.0 rest.1 in
      (both.0, both.1, rest.2)
