-- What comes of what applets are told, by a command of the toolkit or by STATUS, by what the card is known.
use Rattle.std.proofs.Common.{◌≡◌, inl, ℕ, ◌+◌, ◌<◌, arith, false, List, [], ◌∷◌, length, map, Some, option_map, Contains, Result, Ok, Err, refl, sym, ◌∙◌, ap, subst, IsSomeAnd, IsOk}
use Rattle.std.proofs.lemmas.Bool.{false≢true}
use Rattle.std.proofs.lemmas.List.{length-map}
use Rattle.std.proofs.lemmas.List.Elements.{Contains-get_or}
use Rattle.uicc_types.specs.declared.answers.Answer.{Answer}
use Rattle.uicc_types.specs.declared.answers.StatusWord.{StatusWord}
use Rattle.uicc_types.specs.declared.answers.TheConstants.StatusWord.{DONE}
use Rattle.apdu_form.specs.Model.{Apdu}
use Rattle.store_form.specs.declared.store.StoreFault.{StoreFault}
use Rattle.card_state.specs.Memory.{held}
use Rattle.card_state.specs.Persistent.{Registration, Persistent}
use Rattle.card_state.specs.States.{rows_of}
use Rattle.file_model.specs.Chains.{and_given}
use Rattle.file_model.specs.declared.commands.FileCommand.TheVariants.{Status}
use Rattle.card_commits.specs.Laws.{IsTold, TablesTellStates}
use Rattle.card_commits.specs.Performing.{StopsAmong}
use Rattle.card_commits.specs.Writing.{all_written}
use Rattle.card_commits.proofs.WritesAllLemmas.{none_written}
use Rattle.toolkit_model.specs.Commands.{polled}
use Rattle.toolkit_model.specs.Passing.{passed_rows}
use Rattle.proactive_handler.specs.Steps.{Scene}
use Rattle.card_model.specs.Answers.{Answered, settled, carried_out, toolkit_tried, seen_by}
use Rattle.card_model.specs.Instructions.{is_of_tree}
use Rattle.card_model.specs.Runs.{IsLeft}
use Rattle.card_model.specs.States.{CardState}
use Rattle.card_model.specs.Toolkit.{ToolkitOutcome, toolkit_outcome, toolkit_of, coming_to, states_passed, with_rows}
use Rattle.card_model.specs.declared.instructions.CatCommand.{CatCommand}
use Rattle.card_model.specs.declared.instructions.CatCommand.TheVariants.{Fetch}
use Rattle.card_model.specs.declared.instructions.Instruction.{Instruction}
use Rattle.card_model.specs.declared.instructions.Instruction.TheVariants.{File, Toolkit}
use Rattle.cat_commands.specs.Cards.{AnswersSo}
use Rattle.cat_commands.specs.Carrying.{IsToolkitCutShort, Carries, Comes, state_at}
use Rattle.cat_commands.proofs.CardsLemmas.{answers_so, holds_so, counts_so, at_most_so}
use Rattle.card_core.specs.Acting.{ActsAlone, TellsApplets}
use Rattle.card_core.specs.AnyStore.{MovesStatus, MovesToolkit}
use Rattle.card_core.specs.Cards.{held_by, card_with, card_due, IsRunning}
use Rattle.card_core.specs.Known.{KnownBy, ByStore, ByTable, ByMemory, IsKnown, IsAnsweredBy, SaysSo, StandsBy, Yields}
use Rattle.card_core.specs.Moves.{StopsAt, HasRowsOf, polled_on}
use Rattle.card_core.specs.Parts.{CardParts}
use Rattle.card_core.specs.Writing.{HasWritten, StopsWriting}
use Rattle.card_core.proofs.HasToolkitLemmas.{scene_of, has_toolkit_of}
use Rattle.card_core.proofs.KnownLemmas.{told_by, finished, stopped_by}
use Rattle.card_core.proofs.StopsAtLemmas.{stops_between, stands_there}

-- ---- where a fault stopped a commit

module _ (card : CardState) (out : Answer) (old new : Scene) where
  short_stops : (outcome : ToolkitOutcome) → held old.memory ≡ Some card.persistent → IsToolkitCutShort outcome old new
      → StopsAt card.persistent (settled card (toolkit_tried card (Ok outcome))).commits old.memory.commits new.memory.commits (held new.memory)
  unfolding and_given
  short_stops outcome stood short =
      let long : length (states_passed card.persistent outcome) ≡ length (passed_rows outcome.passed.log) = length-map (passed_rows outcome.passed.log) (with_rows card.persistent outcome.next_sequence) in
      stops_between card.persistent (states_passed card.persistent outcome) old.memory.commits new.memory.commits (held new.memory) short.count (omega (arith, short.one_more, long)) short.commits
      (stands_there (state_at outcome short.count) (state_at outcome (short.count + 1)) (held old.memory) (held new.memory) card.persistent stood short.stands)

  stops_so : (tried : Result ToolkitOutcome StatusWord) (fault : StoreFault) → held old.memory ≡ Some card.persistent → Carries tried out old new (stopped_by fault)
      → StopsAt card.persistent (settled card (toolkit_tried card tried)).commits old.memory.commits new.memory.commits (held new.memory)
  stops_so (Err status) fault stood carries = absurd carries
  stops_so (Ok outcome) fault stood short = short_stops outcome stood short

  -- there was one to be stopped
  none_stopped : (tried : Result ToolkitOutcome StatusWord) (fault : StoreFault) → Carries tried out old new (stopped_by fault) → (settled card (toolkit_tried card tried)).commits ≡ [] → ⊥
  unfolding and_given
  none_stopped (Err status) fault carries none = absurd carries
  none_stopped (Ok outcome) fault short none =
      let long : length (states_passed card.persistent outcome) ≡ length (passed_rows outcome.passed.log) = length-map (passed_rows outcome.passed.log) (with_rows card.persistent outcome.next_sequence) in
      let empty : length (states_passed card.persistent outcome) ≡ 0 = ap length none in
      omega (arith, short.one_more, long, empty)

  -- the rows of the table are those of one of the states
  rows_back : (next : ℕ) (log : List (List Registration)) → map (λ (state : Persistent). state.rows) (map (with_rows card.persistent next) log) ≡ log
  rows_back next [] = refl
  rows_back next (rows ∷ log) = ap (λ (rest : List (List Registration)). rows ∷ rest) (rows_back next log)

  stopped_rows : (tried : Result ToolkitOutcome StatusWord) (fault : StoreFault) → rows_of old.memory.table ≡ card.persistent.rows → Carries tried out old new (stopped_by fault)
      → Contains (map (λ (state : Persistent). state.rows) (card.persistent ∷ (settled card (toolkit_tried card tried)).commits)) (rows_of new.memory.table)
  unfolding and_given
  stopped_rows (Err status) fault same carries = absurd carries
  stopped_rows (Ok outcome) fault same short =
      let log : List (List Registration) = passed_rows outcome.passed.log in
      let low : short.count < length (rows_of old.memory.table ∷ log) = omega (arith, short.one_more) in
      let all : map (λ (state : Persistent). state.rows) (card.persistent ∷ states_passed card.persistent outcome) ≡ rows_of old.memory.table ∷ log =
      ap (λ (first : List Registration). first ∷ map (λ (state : Persistent). state.rows) (states_passed card.persistent outcome)) (sym same)
      ∙ ap (λ (rest : List (List Registration)). rows_of old.memory.table ∷ rest) (rows_back outcome.next_sequence log) in
      subst (λ (lists : List (List Registration)). Contains lists (rows_of new.memory.table)) (sym all)
      (subst (Contains (rows_of old.memory.table ∷ log)) (sym short.rows_are) (Contains-get_or (rows_of old.memory.table ∷ log) short.count [] low))

-- ---- what it writes

module _ (card : CardState) (out : Answer) (old new : Scene) where
  written_so : (tried : Result ToolkitOutcome StatusWord) (done : Unit {0}) → Carries tried out old new (finished done) → new.memory.told ≡ option_map (all_written (settled card (toolkit_tried card tried)).changes) old.memory.told
  unfolding and_given
  written_so (Err status) done carries = ap (λ (now : Scene). now.memory.told) carries.stays ∙ none_written old.memory.told
  written_so (Ok outcome) done carries = carries.comes.writes

  partly_so : (tried : Result ToolkitOutcome StatusWord) (fault : StoreFault) → Carries tried out old new (stopped_by fault) → StopsAmong (settled card (toolkit_tried card tried)).changes old.memory new.memory
  unfolding and_given
  partly_so (Err status) fault carries = absurd carries
  partly_so (Ok outcome) fault short = short.writes

-- ---- what is tried so on a card

module _ (tell : TablesTellStates) (tried : CardState → Result ToolkitOutcome StatusWord) (instruction : Instruction) (beside : is_of_tree instruction ≡ false) (old new : CardParts) (running : IsRunning old) (out : Answer) where
  abbrev came_on : Persistent → Answered
  came_on state = settled (card_with false old state) (toolkit_tried (card_with false old state) (tried (card_with false old state)))

  told : (by : KnownBy) (state : Persistent) → IsKnown by old state → IsTold old.table state
  told by state known = told_by tell old running.mounted.agrees by state known

  -- once it was carried out

  module _ (done : Unit {0}) (channels : new.channels ≡ old.channels) (verified : new.verified ≡ old.verified)
      (carries : (state : Persistent) → IsTold old.table state → Carries (tried (card_with false old state)) out (scene_of old) (scene_of new) (finished done)) where
    so_on : (state : Persistent) → IsTold old.table state → AnswersSo (card_with false old state) (came_on state) out (scene_of new)
    so_on state told = answers_so (card_with false old state) out (scene_of old) (scene_of new) (has_toolkit_of old state told) (tried (card_with false old state)) done (carries state told)

    known_after : (by : KnownBy) (state : Persistent) → IsKnown by old state → IsAnsweredBy by instruction → IsKnown by new (came_on state).state.persistent
    known_after ByStore state known needs = holds_so (card_with false old state) (scene_of old) (scene_of new) known (tried (card_with false old state)) out done (carries state (told ByStore state known))
    known_after ByTable state known needs = (so_on state known).toolkit.told
    known_after ByMemory state known needs = absurd (false≢true (sym beside ∙ needs))

    pub tool_says : (by : KnownBy) (state : Persistent) → IsKnown by old state → SaysSo (came_on state) out
    tool_says by state known = (let so = so_on state (told by state known) in record { body = so.body; status = so.status })

    stands : (by : KnownBy) (state : Persistent) → IsKnown by old state → StandsBy by (finished done) old new (card_with false old state) (came_on state).commits
    stands ByStore state known = tt
    stands ByTable state known = tt
    stands ByMemory state known = tt

    pub tool_writes : (state : Persistent) → held_by old ≡ Some state → HasWritten (came_on state).changes old new
    tool_writes state held = written_so (card_with false old state) out (scene_of old) (scene_of new) (tried (card_with false old state)) done (carries state (told ByStore state held))

    pub tool_yields : (by : KnownBy) (state : Persistent) → IsKnown by old state → Yields {X = Unit {0}} (Ok done) by instruction old new (card_with false old state) (came_on state).state (came_on state).commits
    tool_yields by state known =
        let so = so_on state (told by state known) in
        record {
          left = λ needs. record {
            known = known_after by state known needs;
            channels = so.channels ∙ sym channels;
            verified = so.verified ∙ sym verified;
            session = so.toolkit.session_is;
            boxes = so.toolkit.boxes_are;
          };
          commits_so = λ counts. (counts_so (card_with false old state) out (scene_of old) (scene_of new) (tried (card_with false old state)) done (carries state (told by state known))).commits;
          calm = λ calm none. refl;
          stands = stands by state known;
        }

  -- once a fault stopped it

  module _ (fault : StoreFault) (carries : (state : Persistent) → IsTold old.table state → Carries (tried (card_with false old state)) out (scene_of old) (scene_of new) (stopped_by fault)) where
    calm_so : (by : KnownBy) (state : Persistent) → IsKnown by old state → (came_on state).commits ≡ [] → IsOk (stopped_by fault)
    calm_so by state known none = absurd (none_stopped (card_with false old state) out (scene_of old) (scene_of new) (tried (card_with false old state)) fault (carries state (told by state known)) none)

    pub tool_stops : (state : Persistent) → held_by old ≡ Some state → StopsAt state (came_on state).commits old.commits new.commits (held_by new)
    tool_stops state held = stops_so (card_with false old state) out (scene_of old) (scene_of new) (tried (card_with false old state)) fault held (carries state (told ByStore state held))

    pub tool_cut : (state : Persistent) → held_by old ≡ Some state → StopsWriting (came_on state).changes old new
    tool_cut state held = inl (partly_so (card_with false old state) out (scene_of old) (scene_of new) (tried (card_with false old state)) fault (carries state (told ByStore state held)))

    pub tool_rows : (state : Persistent) → IsTold old.table state → HasRowsOf (state ∷ (came_on state).commits) new
    tool_rows state told = stopped_rows (card_with false old state) out (scene_of old) (scene_of new) (tried (card_with false old state)) fault (sym told.rows) (carries state told)

    module _ (left : (state : Persistent) → held_by old ≡ Some state → IsSomeAnd (card_due new) (IsLeft (card_with false old state) (state ∷ (came_on state).commits))) where
      stood : (by : KnownBy) (state : Persistent) → IsKnown by old state → StandsBy by (stopped_by fault) old new (card_with false old state) (came_on state).commits
      stood ByStore state known = record { left = left state known; stops = tool_stops state known }
      stood ByTable state known = tt
      stood ByMemory state known = tt

      pub tool_stopped : (by : KnownBy) (state : Persistent) → IsKnown by old state → Yields {X = Unit {0}} (Err fault) by instruction old new (card_with false old state) (came_on state).state (came_on state).commits
      tool_stopped by state known = record {
        left = λ needs. tt;
        commits_so = λ counts. at_most_so (card_with false old state) out (scene_of old) (scene_of new) (Unit {0}) (tried (card_with false old state)) fault (carries state (told by state known));
        calm = λ calm. calm_so by state known;
        stands = stood by state known;
      }

-- ---- a command of the toolkit

abbrev pub tried_by : CatCommand → Apdu → CardState → Result ToolkitOutcome StatusWord
tried_by command apdu card = toolkit_outcome command card (seen_by card) apdu

module _ (tell : TablesTellStates) (command : CatCommand) (apdu : Apdu) (old new : CardParts) (running : IsRunning old) (out : Answer) (moves : MovesToolkit command apdu old new) where
  pub toolkit_act : (done : Unit {0}) → ((state : Persistent) → IsTold old.table state → Carries (tried_by command apdu (card_with false old state)) out (scene_of old) (scene_of new) (finished done))
      → ActsAlone (Ok done) (Toolkit command) apdu old new out
  unfolding carried_out
  toolkit_act done carries = record {
    says = λ by state known needs. tool_says tell (tried_by command apdu) (Toolkit command) refl old new running out done moves.channels moves.verified carries by state known;
    yields = tool_yields tell (tried_by command apdu) (Toolkit command) refl old new running out done moves.channels moves.verified carries;
    writes = tool_writes tell (tried_by command apdu) (Toolkit command) refl old new running out done moves.channels moves.verified carries;
    done = λ leaves. refl;
    denied = λ status refused. absurd refused;
    moves = moves;
  }

  pub toolkit_stops : (fault : StoreFault) → ((state : Persistent) → IsTold old.table state → Carries (tried_by command apdu (card_with false old state)) out (scene_of old) (scene_of new) (stopped_by fault))
      → ((state : Persistent) → held_by old ≡ Some state
      → IsSomeAnd (card_due new) (IsLeft (card_with false old state) (state ∷ (settled (card_with false old state) (toolkit_tried (card_with false old state) (tried_by command apdu (card_with false old state)))).commits)))
      → (command ≡ Fetch → ⊥) → ActsAlone (stopped_by fault) (Toolkit command) apdu old new out
  unfolding carried_out
  toolkit_stops fault carries left other = record {
    says = λ by state known needs. tt;
    yields = tool_stopped tell (tried_by command apdu) (Toolkit command) refl old new running out fault carries left;
    writes = tool_cut tell (tried_by command apdu) (Toolkit command) refl old new running out fault carries;
    done = λ leaves. absurd (other leaves);
    denied = λ status refused. absurd refused;
    moves = moves;
  }

-- ---- STATUS

abbrev pub polling : CardState → ToolkitOutcome
polling card = coming_to card [] (polled (toolkit_of card))

abbrev pub polled_by : CardState → Result ToolkitOutcome StatusWord
polled_by card = Ok (polling card)

-- an answer that stands for none
pub said : Answer
said = record { body = []; status = DONE }

pub polled_carries : {X : Type 0} (card : CardState) (old new : Scene) (result : Result X StoreFault) → Comes (polling card) old new result → Carries (polled_by card) said old new result
unfolding said
polled_carries card old new (Ok done) comes = record { body = refl; status_is = refl; comes = comes }
polled_carries card old new (Err fault) short = short

module _ (tell : TablesTellStates) (old new : CardParts) (running : IsRunning old) (moves : MovesStatus old new) where
  pub polled_act : (done : Unit {0}) → ((state : Persistent) → IsTold old.table state → Comes (polling (card_with false old state)) (scene_of old) (scene_of new) (finished done)) → TellsApplets (Ok done) old new
  unfolding and_given
  polled_act done comes = record {
    yields =
        tool_yields tell polled_by (File Status) refl old new running said done moves.channels moves.verified (λ state told. polled_carries (card_with false old state) (scene_of old) (scene_of new) (Ok done) (comes state told));
    writes =
        tool_writes tell polled_by (File Status) refl old new running said done moves.channels moves.verified (λ state told. polled_carries (card_with false old state) (scene_of old) (scene_of new) (Ok done) (comes state told));
    moves = moves;
  }

  pub polled_stops : (fault : StoreFault) → ((state : Persistent) → IsTold old.table state → Comes (polling (card_with false old state)) (scene_of old) (scene_of new) (stopped_by fault))
      → ((state : Persistent) → held_by old ≡ Some state → IsSomeAnd (card_due new) (IsLeft (card_with false old state) (state ∷ (polled_on (card_with false old state)).commits))) → TellsApplets (stopped_by fault) old new
  unfolding and_given
  polled_stops fault comes left = record {
    yields =
        tool_stopped tell polled_by (File Status) refl old new running said fault (λ state told. polled_carries {X = Unit {0}} (card_with false old state) (scene_of old) (scene_of new) (Err fault) (comes state told)) left;
    writes = tool_cut tell polled_by (File Status) refl old new running said fault (λ state told. polled_carries {X = Unit {0}} (card_with false old state) (scene_of old) (scene_of new) (Err fault) (comes state told));
    moves = moves;
  }
