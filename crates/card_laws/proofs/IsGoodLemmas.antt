-- Good cards stay good, also where applets run.
use Rattle.std.proofs.Common.{◌≡◌, ℕ, Bool, true, false, List, [], ◌∷◌, map, Option, Some, None, Result, Ok, Err, refl, sym, ◌∙◌, ap, subst, All, IfSome, IsSomeAnd, MatchResult, is_some, is_none, slice_index_or}
use Rattle.std.specs.List.{enumerate_from}
use Rattle.std.proofs.lemmas.List.{length-map}
use Rattle.std.proofs.lemmas.List.Elements.{All-nil, All-cons, All-append, All-map, All-contains}
use Rattle.std.proofs.lemmas.List.FromFn.{length-enumerate_from}
use Rattle.uicc_types.specs.Told.{AreBytes}
use Rattle.uicc_types.specs.declared.answers.StatusWord.{StatusWord}
use Rattle.apdu_form.specs.Model.{Apdu, IsCommand}
use Rattle.card_state.specs.Persistent.{Persistent, Registration}
use Rattle.file_model.specs.Chains.{and_given}
use Rattle.file_model.specs.Files.{descriptor_in, descriptors_in}
use Rattle.file_model.specs.Laws.{IsSoundCard}
use Rattle.file_model.specs.Outcomes.{last_of}
use Rattle.file_model.specs.Selections.{IsSelection}
use Rattle.applet_trait.specs.Minds.{AppletState}
use Rattle.toolkit_model.specs.Passing.{ToolkitState, Passed, passed_rows}
use Rattle.toolkit_model.specs.Commands.{polled}
use Rattle.toolkit_model.specs.Steps.{ToolkitInput, Status, moved}
use Rattle.toolkit_model.specs.Installing.{InstallationsAreAccepted}
use Rattle.toolkit_model.specs.Sound.{AreSoundRows, HasApplet, IsGoodToolkit, LeavesGood, StepsLeaveGood, InstalledRowsAreSound}
use Rattle.toolkit_model.specs.Registry.{row_on}
use Rattle.card_model.specs.Answers.{Answered, settled, on_toolkit, toolkit_tried, then_polled, is_status, event_told, carried_out, carried_with, seen_by, answer_of, passed_of}
use Rattle.card_model.proofs.TriedLemmas.{cut_result, all_so, command_is}
use Rattle.card_model.specs.Chained.{Any}
use Rattle.card_model.specs.Instructions.{has_toolkit, is_of_tree}
use Rattle.card_model.specs.Laws.{key_named, IsStatusOf, IsLawfulAnswer, CommandsAreLawful}
use Rattle.card_model.specs.Runs.{IsLeft, box_left, boxes_left}
use Rattle.card_model.specs.States.{CardState, AreChannels, HasBox, AreOfKnownKinds, IsGood}
use Rattle.card_model.specs.Toolkit.{ToolkitOutcome, toolkit_of, coming_to, with_rows, states_passed}
use Rattle.card_model.proofs.WokenLemmas.{woken_is_good}
use Rattle.card_model.specs.declared.instructions.Instruction.{Instruction}
use Rattle.card_model.proofs.AnswersLemmas.{last_is}
use Rattle.card_model.specs.declared.instructions.Instruction.TheVariants.{Toolkit}
use Rattle.card_laws.specs.Moving.{HasOrder}
use Rattle.card_laws.proofs.BoxesLeftLemmas.{left_at, stays_there, kinds_left}
use Rattle.card_laws.proofs.ToolkitOutcomeLemmas.{Comes, ComesTo, comes_by, outcome_comes}
use Rattle.card_laws.proofs.TakenLemmas.{of_running}
use Rattle.card_laws.proofs.HaveFixedLemmas.{row_there}
use Rattle.card_laws.proofs.GoesOnLemmas.{CanWake, wakes_now, goes_by, good_order, answer_goes}
use Rattle.card_laws.proofs.AreOfKnownKindsLemmas.{TurnsKeepKinds, BringsGood, moved_keeps}
use Rattle.card_laws.proofs.PassedRowsLemmas.{polled_commits}

-- ---- the toolkit of a good card

pub good_toolkit : (card : CardState) → IsGood card → IsGoodToolkit card.persistent.is_wide card.persistent.next_sequence (toolkit_of card)
good_toolkit card good = record {
  sound = record {
    rows_are = record { each = good.sound.sound.rows; different = good.sound.sound.distinct_rows; texts = good.sound.sound.texts };
    shelves = good.shelves;
    applets = good.boxes;
  };
  session = good.session;
}

sound_with : (state : Persistent) (next : ℕ) (rows : List Registration) → IsSoundCard state → AreSoundRows state.is_wide next rows → IsSoundCard (with_rows state next rows)
sound_with state next rows sound are = record {
  sound = record {
    files = sound.sound.files;
    mf_there = sound.sound.mf_there;
    distinct_files = sound.sound.distinct_files;
    pins = sound.sound.pins;
    ordered_pins = sound.sound.ordered_pins;
    rows = are.each;
    distinct_rows = are.different;
    texts = are.texts;
  };
  short = sound.short;
}

files_kept : (state base : Persistent) (next : ℕ) (rows : List (List Registration)) → state.files ≡ base.files → (last_of state (map (with_rows base next) rows)).files ≡ base.files
files_kept state base next [] same = same
files_kept state base next (first ∷ others) same = files_kept (with_rows base next first) base next others refl

same_channels : (old new : Persistent) (card : CardState) → new.files ≡ old.files → AreChannels old card.channels → AreChannels new card.channels
unfolding descriptors_in
same_channels old new card same are = record {
  four = are.four;
  basic = are.basic;
  selected = subst (λ files. All (λ channel. IfSome channel (IsSelection (map descriptor_in files))) card.channels) (sym same) are.selected;
}

-- ---- a command of the toolkit

-- the card is good, and so is each state that was committed
abbrev pub IsWell : Answered → Type 0
IsWell answered = IsGood answered.state × All IsSoundCard answered.commits

toolkit_well : StepsLeaveGood → TurnsKeepKinds → (card : CardState) → IsGood card → (command : ToolkitInput) (outcome : ToolkitOutcome) → Comes card command outcome → BringsGood card.persistent.is_wide outcome.next_sequence command → IsWell (on_toolkit card outcome)
toolkit_well leaves same card good command outcome comes brings =
    let wide : Bool = card.persistent.is_wide in
    let next : ℕ = outcome.next_sequence in
    let left : LeavesGood wide next (moved command (toolkit_of card)) = leaves wide card.persistent.next_sequence next command (toolkit_of card) (good_toolkit card good) comes.later comes.accepted brings.0 in
    let rows : All (AreSoundRows wide next) (passed_rows outcome.passed.log) = subst (λ (passed : Passed). All (AreSoundRows wide next) (passed_rows passed.log)) (sym comes.passed) left.commits in
    let commits : All IsSoundCard (states_passed card.persistent outcome) =
    All-map IsSoundCard (with_rows card.persistent next) (passed_rows outcome.passed.log)
    (λ k d low. sound_with card.persistent next (slice_index_or (passed_rows outcome.passed.log) k d) good.sound (rows k d low)) in
    let toolkit : toolkit_of (on_toolkit card outcome).state ≡ (moved command (toolkit_of card)).state = (goes_by card command outcome comes).goes.toolkit in
    let now : IsGoodToolkit wide next (toolkit_of (on_toolkit card outcome).state) = subst (IsGoodToolkit wide next) (sym toolkit) left.state in
    let last : Persistent = last_of card.persistent (states_passed card.persistent outcome) in (
      record {
        sound = last_is IsSoundCard card.persistent (states_passed card.persistent outcome) good.sound commits;
        channels = same_channels card.persistent last card (files_kept card.persistent card.persistent next (passed_rows outcome.passed.log) refl) good.channels;
        shelves = now.sound.shelves;
        boxes = now.sound.applets;
        kinds = subst AreOfKnownKinds (sym (ap (λ (state : ToolkitState). state.minds) toolkit)) (moved_keeps same command (toolkit_of card) brings.1 good.kinds);
        session = now.session;
      },
      commits,
    )

-- ---- each instruction

abbrev Well : Result Answered StatusWord → Type 0
Well result = MatchResult result IsWell Any

module _ (installs : InstallationsAreAccepted) (sounds : InstalledRowsAreSound) (leaves : StepsLeaveGood) (lawful : CommandsAreLawful) (same : TurnsKeepKinds) (card : CardState) (good : IsGood card) where
  abbrev ready : HasOrder card
  ready = good_order card good

  of_lawful : (of_tree : Bool) (key : ℕ) (result : Result Answered StatusWord) → MatchResult result (IsLawfulAnswer card of_tree key) (IsStatusOf of_tree) → Well result
  of_lawful of_tree key (Err status) is = tt
  of_lawful of_tree key (Ok answered) is = (is.good, is.sound)

  of_comes : (command : Option ToolkitInput) (outcome : ToolkitOutcome) → IsSomeAnd command (λ each. Comes card each outcome) → IsWell (on_toolkit card outcome)
  of_comes None outcome comes = absurd comes
  of_comes (Some command) outcome comes = toolkit_well leaves same card good command outcome comes (comes.brings good.kinds)

  of_toolkit : (command : Option ToolkitInput) (outcome : Result ToolkitOutcome StatusWord) → ComesTo card command outcome → Well (toolkit_tried card outcome)
  unfolding and_given
  of_toolkit command (Err status) comes = tt
  of_toolkit command (Ok outcome) comes = of_comes command outcome comes

  -- the applets are told of a STATUS
  polled_well : (answered : Answered) → IsWell answered → IsWell (then_polled answered)
  polled_well answered well =
      let state : CardState = answered.state in
      let outcome : ToolkitOutcome = coming_to state [] (polled (toolkit_of state)) in
      let comes : Comes state Status outcome = comes_by state (good_order state well.0) Status [] tt (polled_commits (toolkit_of state)) refl (tt, tt) in
      let later : IsWell (on_toolkit state outcome) = toolkit_well leaves same state well.0 Status outcome comes (tt, tt) in
      (later.0, All-append IsSoundCard answered.commits (states_passed state.persistent outcome) well.1 later.1)

  of_event : (is_event : Bool) (result : Result Answered StatusWord) → Well result → Well (and_given result (λ answered. Ok (event_told is_event answered)))
  unfolding and_given
  of_event is_event (Err status) well = tt
  of_event true (Ok answered) well = polled_well answered well
  of_event false (Ok answered) well = well

  carried_well : (bytes : List ℕ) (apdu : Apdu) → IsCommand bytes apdu → (instruction : Instruction) → Well (carried_out instruction card apdu)
  unfolding carried_out
  carried_well bytes apdu is (Toolkit command) = of_toolkit _ _ (outcome_comes installs sounds card ready apdu command (seen_by card))
  carried_well bytes apdu is instruction = of_lawful (is_of_tree instruction) (key_named bytes) _ (lawful card bytes apdu instruction good is refl)

  by_carried : (expected : Option ℕ) (result : Result Answered StatusWord) → Well result → IsWell (settled card (cut_result expected result))
  unfolding and_given
  by_carried expected (Err status) well = (good, All-nil IsSoundCard)
  by_carried expected (Ok answered) well = well

  pub answer_well : (knows : Instruction → Bool) (bytes : List ℕ) → has_toolkit knows ≡ true → AreBytes bytes → IsWell (answer_of knows card bytes)
  unfolding answer_of
  answer_well knows bytes runs are =
      of_running knows card bytes runs (λ result. IsWell (settled card result)) (all_so _ (λ status. (good, All-nil IsSoundCard)))
      (λ apdu instruction read. by_carried apdu.expected (carried_with true instruction card apdu) (of_event (is_status instruction) (carried_out instruction card apdu) (carried_well bytes apdu (command_is bytes apdu are read.read) instruction)))

  -- ---- what a fault leaves

  applet_left : (before after : List Registration) → All (HasApplet card.boxes) after → All (HasBox (boxes_left before after card.boxes)) after
  applet_left before after have = λ k d low.
      let row : Registration = slice_index_or after k d in
      let box : Option AppletState = slice_index_or card.boxes row.shelf None in
      let same : slice_index_or (boxes_left before after card.boxes) row.shelf None ≡ box =
      left_at before after card.boxes row.shelf ∙ stays_there (is_some (row_on before row.shelf)) (is_none (row_on after row.shelf)) box (row_there after k d low) in
      subst (λ (each : Option AppletState). IsSomeAnd each (λ mind. mind.kind ≡ row.kind)) (sym same) (have k d low)

  pub left_good : (knows : Instruction → Bool) (bytes : List ℕ) → has_toolkit knows ≡ true → AreBytes bytes → (left : CardState) → IsLeft card (passed_of knows card bytes) left → IsGood left
  left_good knows bytes runs are left is =
      let well : IsWell (answer_of knows card bytes) = answer_well knows bytes runs are in
      let goes = answer_goes installs sounds knows runs card ready bytes in
      let sound : All IsSoundCard (passed_of knows card bytes) = All-cons IsSoundCard card.persistent (answer_of knows card bytes).commits good.sound well.1 in
      let stands : All (CanWake card) (passed_of knows card bytes) = All-cons (CanWake card) card.persistent (answer_of knows card bytes).commits (wakes_now card ready) goes.states in
      let here : CanWake card is.persistent = All-contains (CanWake card) (passed_of knows card bytes) is.persistent stands is.passed in
      let boxes : List (Option AppletState) = boxes_left card.persistent.rows is.persistent.rows card.boxes in
      subst IsGood (sym is.woke)
      (woken_is_good is.persistent boxes (All-contains IsSoundCard (passed_of knows card bytes) is.persistent sound is.passed)
      (length-map (enumerate_from 0 card.boxes) (λ box. box_left card.persistent.rows is.persistent.rows box.0 box.1) ∙ length-enumerate_from 0 card.boxes ∙ good.shelves)
      (applet_left card.persistent.rows is.persistent.rows (here.applets good.boxes)) (kinds_left card.persistent.rows is.persistent.rows card.boxes good.kinds))
