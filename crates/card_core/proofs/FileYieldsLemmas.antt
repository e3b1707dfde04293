-- What a command on files comes to, by what its card is known.
use Rattle.std.proofs.Common.{◌≡◌, ℕ, ◌≤◌, false, List, [], ◌∷◌, length, Option, Some, None, refl, sym, ◌∙◌, ap, subst, IsSomeAnd, Contains, Result, Ok, Err, unwrap_or, slice_set}
use Rattle.std.proofs.lemmas.Bool.{false≢true}
use Rattle.std.proofs.lemmas.List.{set-get_or}
use Rattle.list_laws.proofs.IfSomeLemmas.{if_some_at}
use Rattle.uicc_types.specs.Counts.{raised_by}
use Rattle.uicc_types.specs.declared.answers.Answer.{Answer}
use Rattle.uicc_types.specs.declared.answers.StatusWord.{StatusWord}
use Rattle.apdu_form.specs.Classes.{channel_of}
use Rattle.apdu_form.specs.Model.{Apdu}
use Rattle.store_form.specs.declared.store.StoreFault.{StoreFault}
use Rattle.card_state.specs.declared.entries.Loaded.{Loaded}
use Rattle.card_state.specs.Changes.{Change}
use Rattle.card_state.specs.Persistent.{Persistent}
use Rattle.card_state.specs.States.{pins_of}
use Rattle.access_rules.specs.declared.rules.Verified.{Verified}
use Rattle.file_model.specs.Access.{keys_seen}
use Rattle.file_model.specs.Channels.{selected_on}
use Rattle.file_model.specs.Chains.{and_given}
use Rattle.file_model.specs.Commands.{file_outcome}
use Rattle.file_model.specs.Outcomes.{FileOutcome, settled_file, last_of}
use Rattle.file_model.specs.declared.commands.FileCommand.{FileCommand}
use Rattle.file_model.specs.declared.commands.FileCommand.TheVariants.{Select, Status, Contents}
use Rattle.file_model.specs.declared.selections.Selection.{Selection}
use Rattle.file_model.specs.declared.selections.TheConstants.Selection.{AT_START}
use Rattle.card_commits.specs.Laws.{IsTold, TablesTellStates}
use Rattle.card_commits.specs.Performing.{IsOutcome, IsStopped, Performs, WritesAll}
use Rattle.card_model.specs.Answers.{Answered, settled, carried_out, file_tried, selection_on, seen_by}
use Rattle.card_model.specs.States.{CardState}
use Rattle.card_model.specs.declared.instructions.Instruction.TheVariants.{File}
use Rattle.card_laws.specs.ToolkitLaws.{CommandsLeaveRows}
use Rattle.card_core.specs.Acting.{ActsAlone, ChangesNothing}
use Rattle.card_core.specs.AnyStore.{IsDenied, LeavesMemory, NeedsNoContents, RefusesByTable, MovesFiles, MovesItsOwn}
use Rattle.card_core.specs.Cards.{memory_of, held_by, card_with, IsRunning}
use Rattle.card_core.specs.Known.{KnownBy, ByStore, ByTable, ByMemory, IsKnown, IsAnsweredBy, IsCountedBy, IsCalmBy, MayBeBy, SaysSo, IsLeftAt}
use Rattle.card_core.specs.Laws.{TablesHaveRows}
use Rattle.card_core.specs.Parts.{CardParts}
use Rattle.card_core.specs.Serving.{TellsOfFiles}
use Rattle.card_core.specs.Writing.{HasWritten, StopsWriting}
use Rattle.card_core.proofs.ActsOnLemmas.{acts_done, acts_stopped}
use Rattle.card_core.proofs.IsLeftLemmas.{left_once}
use Rattle.card_core.proofs.IsRunningLemmas.{some_told, in_order}
use Rattle.card_core.proofs.KnownLemmas.{told_by, sees_by, finished, stopped_by}
use Rattle.card_core.proofs.MovesItsOwnLemmas.{status_kept}
use Rattle.card_core.proofs.SettledFileLemmas.{files_once}
use Rattle.card_core.proofs.StopsAtLemmas.{no_commits}
use Rattle.card_core.proofs.WritingLemmas.{written_at, stopped_at}

-- ---- what it is tried on

pub carried : (command : FileCommand) (card : CardState) (apdu : Apdu)
    → carried_out (File command) card apdu ≡ file_tried card apdu (file_outcome command card.persistent (seen_by card) (selection_on card (channel_of apdu.class)) apdu)
unfolding carried_out
carried command card apdu = refl

pub commits_are : (card : CardState) (apdu : Apdu) (selection : Selection) (tried : Result FileOutcome StatusWord) → (settled card (file_tried card apdu tried)).commits ≡ (settled_file selection tried).passed
unfolding and_given
commits_are card apdu selection (Ok outcome) = refl
commits_are card apdu selection (Err status) = refl

changes_are : (card : CardState) (apdu : Apdu) (selection : Selection) (tried : Result FileOutcome StatusWord) → (settled_file selection tried).changes ≡ (settled card (file_tried card apdu tried)).changes
unfolding and_given
changes_are card apdu selection (Ok outcome) = refl
changes_are card apdu selection (Err status) = refl

-- what was selected is put back
pub put_back : (channels : List (Option Selection)) (channel : ℕ) (selection : Selection) → selected_on channels channel ≡ Some selection → slice_set channels channel (Some selection) ≡ channels
put_back channels channel selection is = ap (slice_set channels channel) (sym is) ∙ set-get_or channels channel None

leaves_need : (command : FileCommand) → LeavesMemory (File command) → NeedsNoContents (File command)
leaves_need Select leaves = tt
leaves_need Status leaves = absurd leaves
leaves_need (Contents command) leaves = absurd leaves

pub files_move : {X : Type 0} (result : Result X StoreFault) (command : FileCommand) (apdu : Apdu) (old new : CardParts) → MovesFiles (channel_of apdu.class) old new → (command ≡ Status → ChangesNothing result old new) → MovesItsOwn (File command) apdu old new
files_move result Select apdu old new moves still = moves
files_move result Status apdu old new moves still = (let stays = still refl in status_kept old new stays.table stays.channels stays.verified stays.boxes)
files_move result (Contents command) apdu old new moves still = moves

counted_answered : (by : KnownBy) (command : FileCommand) → IsCountedBy by (File command) → IsAnsweredBy by (File command)
counted_answered ByStore command counted = tt
counted_answered ByTable command counted = counted
counted_answered ByMemory command counted = counted

-- ---- once it was carried out

-- The answer and the selection are those of the outcome, the state after it is known so, and it committed as often.
record IsFileAnswer (by : KnownBy) (old new : CardParts) (state : Persistent) (outcome : FileOutcome) (out : Answer) (next : Selection) : Type 0 where
  body : out.body ≡ outcome.body
  status : out.status ≡ outcome.status
  selected : next ≡ outcome.selection
  known : IsKnown by new (last_of state outcome.passed)
  commits : new.commits ≡ raised_by (length outcome.passed) old.commits

-- what a new card has besides what it holds
pub record HasSelected (old new : CardParts) (channel : ℕ) (next : Selection) : Type 0 where
  pub channels : new.channels ≡ slice_set old.channels channel (Some next)
  pub verified : new.verified ≡ old.verified
  pub session : new.session ≡ old.session
  pub boxes : new.boxes ≡ old.boxes

module _ (command : FileCommand) (apdu : Apdu) (old new : CardParts) (selection next : Selection) (there : selected_on old.channels (channel_of apdu.class) ≡ Some selection) (out : Answer) where
  file_answers : (by : KnownBy) (state : Persistent) (tried : Result FileOutcome StatusWord) → HasSelected old new (channel_of apdu.class) next → IsFileAnswer by old new state (settled_file selection tried) out next
      → SaysSo (settled (card_with false old state) (file_tried (card_with false old state) apdu tried)) out × MayBeBy by new (settled (card_with false old state) (file_tried (card_with false old state) apdu tried)).state
  unfolding and_given
  file_answers by state (Ok outcome) has is = (
    record { body = is.body; status = is.status },
    record {
      known = is.known;
      channels = sym (has.channels ∙ ap (λ (selected : Selection). slice_set old.channels (channel_of apdu.class) (Some selected)) is.selected);
      verified = sym has.verified;
      session = sym has.session;
      boxes = sym has.boxes;
    },
  )
  file_answers by state (Err status) has is = (
    record { body = is.body; status = is.status },
    record {
      known = is.known;
      channels = sym (has.channels ∙ ap (λ (selected : Selection). slice_set old.channels (channel_of apdu.class) (Some selected)) is.selected ∙ put_back old.channels (channel_of apdu.class) selection there);
      verified = sym has.verified;
      session = sym has.session;
      boxes = sym has.boxes;
    },
  )

  module _ (tell : TablesTellStates) (rows : TablesHaveRows) (running : IsRunning old) (table : Loaded) (same : table ≡ old.table) where
    abbrev seen : Verified
    seen = keys_seen (pins_of table) old.verified

    abbrev outcome_on : Persistent → FileOutcome
    outcome_on state = settled_file selection (file_outcome command state seen selection apdu)

    abbrev came_on : Persistent → Answered
    came_on state = settled (card_with false old state) (carried_out (File command) (card_with false old state) apdu)

    told : (by : KnownBy) (state : Persistent) → IsKnown by old state → IsTold old.table state
    told by state known = told_by tell old running.mounted.agrees by state known

    tried_is : (state : Persistent) → IsTold old.table state
        → settled (card_with false old state) (file_tried (card_with false old state) apdu (file_outcome command state seen selection apdu)) ≡ came_on state
    tried_is state told =
        let card : CardState = card_with false old state in
        ap (λ (tried : Result FileOutcome StatusWord). settled card (file_tried card apdu tried))
        (ap (λ (keys : Verified). file_outcome command state keys selection apdu) (sees_by old table same state told)
        ∙ ap (λ (found : Option Selection). file_outcome command state (seen_by card) (unwrap_or found AT_START) apdu) (sym there))
        ∙ ap (settled card) (sym (carried command card apdu))

    -- it passes what the card commits
    passed_is : (state : Persistent) → IsTold old.table state → (outcome_on state).passed ≡ (came_on state).commits
    passed_is state told =
        sym (commits_are (card_with false old state) apdu selection (file_outcome command state seen selection apdu)) ∙ ap (λ (each : Answered). each.commits) (tried_is state told)

    -- and changes what the card does
    changes_by : (state : Persistent) → held_by old ≡ Some state → (outcome_on state).changes ≡ (came_on state).changes
    changes_by state held =
        changes_are (card_with false old state) apdu selection (file_outcome command state seen selection apdu) ∙ ap (λ (each : Answered). each.changes) (tried_is state (told ByStore state held))

    module _ (moves : MovesItsOwn (File command) apdu old new) where
      module _ (done : Unit {0}) (has : HasSelected old new (channel_of apdu.class) next)
          (performs : Performs (finished done) (record (memory_of old) { table = table }) (memory_of new) out next outcome_on)
          (tells : TellsOfFiles (Ok done) command apdu old.verified (record (memory_of old) { table = table }) (memory_of new) selection next out)
          (writes : WritesAll (finished done) (record (memory_of old) { table = table }) (memory_of new) (λ state. (outcome_on state).changes)) where
        answered : (by : KnownBy) (state : Persistent) → IsKnown by old state → IsAnsweredBy by (File command) → IsFileAnswer by old new state (outcome_on state) out next
        answered ByStore state known needs =
            let is = if_some_at (held_by old) (λ each. IsOutcome each (outcome_on each) out next (record (memory_of old) { table = table }) (memory_of new)) state performs known in
            record { body = is.body; status = is.status; selected = is.selected; known = is.state_is; commits = is.commits }
        answered ByTable state known needs =
            let gives = tells.answers state needs (subst (λ (each : Loaded). IsTold each state) (sym same) known) in
            record {
              body = gives.1.body;
              status = gives.1.status;
              selected = gives.1.selected;
              known =
                  subst (λ (passed : List Persistent). IsTold new.table (last_of state passed)) (sym gives.1.passed) (subst (λ (each : Loaded). IsTold each state) (sym (gives.2 ∙ same)) known);
              commits = gives.3 ∙ ap (λ (passed : List Persistent). raised_by (length passed) old.commits) (sym gives.1.passed);
            }
        answered ByMemory state known needs = absurd (false≢true needs)

        answers_files : (by : KnownBy) (state : Persistent) → IsKnown by old state → IsAnsweredBy by (File command) → SaysSo (came_on state) out × MayBeBy by new (came_on state).state
        answers_files by state known needs =
            subst (λ (each : Answered). SaysSo each out × MayBeBy by new each.state) (tried_is state (told by state known)) (file_answers by state (file_outcome command state seen selection apdu) has (answered by state known needs))

        pub files_act : ((status : StatusWord) → RefusesByTable (File command) old apdu status → IsDenied status out old new) → ActsAlone (Ok done) (File command) apdu old new out
        files_act denied =
            acts_done (File command) apdu old new out moves done
            (λ state held. subst (λ (changes : List Change). HasWritten changes old new) (changes_by state held) (written_at done old new table (λ each. (outcome_on each).changes) state held writes)) answers_files
            (λ by state known counted.
            (answered by state known (counted_answered by command counted)).commits ∙ ap (λ (states : List Persistent). raised_by (length states) old.commits) (passed_is state (told by state known)))
            denied

      -- ---- once a fault stopped it

      module _ (fault : StoreFault) (law : CommandsLeaveRows) (stays_there : new.leaving ≡ None) (boxes : new.boxes ≡ old.boxes)
          (stopped : IsStopped (record (memory_of old) { table = table }) (memory_of new) (λ state. (outcome_on state).passed))
          (tells : TellsOfFiles (Err fault) command apdu old.verified (record (memory_of old) { table = table }) (memory_of new) selection next out)
          (writes : WritesAll (stopped_by fault) (record (memory_of old) { table = table }) (memory_of new) (λ state. (outcome_on state).changes)) where
        never : (state : Persistent) → IsTold old.table state → NeedsNoContents (File command) → ⊥
        never state told needs = false≢true (tells.answers state needs (subst (λ (each : Loaded). IsTold each state) (sym same) told)).0

        left_there : (state : Persistent) → held_by old ≡ Some state → IsLeftAt old new (card_with false old state) (came_on state).commits
        left_there state held =
            left_once law (File command) apdu refl old new state stays_there boxes (in_order rows old running state (told ByStore state held))
            (subst (λ (passed : List Persistent). length passed ≤ 1) (passed_is state (told ByStore state held)) (files_once state seen selection apdu command)) stopped.commits
            (subst (λ (passed : List Persistent). IsSomeAnd (held_by new) (Contains (state ∷ passed))) (passed_is state (told ByStore state held))
            (if_some_at (held_by old) (λ each. IsSomeAnd (held_by new) (Contains (each ∷ (outcome_on each).passed))) state stopped.passes held))

        calm : (by : KnownBy) (state : Persistent) → IsKnown by old state → IsCalmBy by (File command) → (came_on state).commits ≡ [] → ⊥
        calm ByStore state known is none = is
        calm ByTable state known needs none = never state known needs
        calm ByMemory state known of_tree none = false≢true of_tree

        pub files_stopped : ((status : StatusWord) → RefusesByTable (File command) old apdu status → ⊥) → ActsAlone (stopped_by fault) (File command) apdu old new out
        files_stopped denied =
            acts_stopped (File command) apdu old new out moves fault left_there
            (λ state held. subst (λ (changes : List Change). StopsWriting changes old new) (changes_by state held) (stopped_at fault old new table new.table (λ each. (outcome_on each).changes) state held writes)) (λ by state known counted. no_commits (length (came_on state).commits) old.commits new.commits stopped.commits) calm
            (λ leaves. (let some = some_told tell old.store_mark old.told old.table running.mounted.agrees in never some.0 some.1 (leaves_need command leaves))) denied
