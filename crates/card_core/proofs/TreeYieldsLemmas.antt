-- What a command that makes, deletes or resizes a file comes to, by what its card is known.
use Rattle.std.proofs.Common.{◌≡◌, ◌≤◌, false, List, [], ◌∷◌, length, Option, Some, None, refl, sym, ◌∙◌, ap, subst, IsSomeAnd, Contains, Result, Ok, Err, IsOk}
use Rattle.std.proofs.lemmas.Bool.{false≢true}
use Rattle.list_laws.proofs.IfSomeLemmas.{if_some_at}
use Rattle.uicc_types.specs.Counts.{raised_by}
use Rattle.uicc_types.specs.declared.answers.Answer.{Answer}
use Rattle.uicc_types.specs.declared.answers.StatusWord.{StatusWord}
use Rattle.apdu_form.specs.Classes.{channel_of}
use Rattle.apdu_form.specs.Model.{Apdu}
use Rattle.store_form.specs.declared.store.StoreFault.{StoreFault}
use Rattle.card_state.specs.declared.entries.Loaded.{Loaded}
use Rattle.card_state.specs.Changes.{Change}
use Rattle.card_state.specs.Persistent.{Persistent}
use Rattle.card_state.specs.Standing.{Stands}
use Rattle.card_state.specs.States.{pins_of}
use Rattle.access_rules.specs.declared.rules.Verified.{Verified}
use Rattle.file_model.specs.Access.{keys_seen}
use Rattle.file_model.specs.Chains.{and_given}
use Rattle.file_model.specs.Creating.{created}
use Rattle.file_model.specs.Deleting.{deleted}
use Rattle.file_model.specs.Outcomes.{last_of}
use Rattle.file_model.specs.Resizing.{resized}
use Rattle.file_model.specs.TreeCommands.{tree_outcome}
use Rattle.file_model.specs.TreeOutcomes.{TreeOutcome, settled_tree}
use Rattle.file_model.specs.declared.selections.Selection.{Selection}
use Rattle.file_model.specs.declared.tree_commands.TreeCommand.{TreeCommand}
use Rattle.file_model.specs.declared.tree_commands.TreeCommand.TheVariants.{Create, Delete, Resize}
use Rattle.card_commits.specs.Laws.{IsTold, TablesTellStates}
use Rattle.record_commands.specs.Tables.{HasOtherFiles}
use Rattle.file_admin.specs.Outcomes.{IsTreeOutcome, PerformsTree, AnswersTree, CommitsTree, IfNothingPasses, passed_by, changes_by, tree_status_of}
use Rattle.card_model.specs.Answers.{Answered, settled, carried_out, tree_tried, seen_by}
use Rattle.card_model.specs.States.{CardState}
use Rattle.card_model.specs.declared.instructions.Instruction.TheVariants.{Tree}
use Rattle.card_laws.specs.ToolkitLaws.{CommandsLeaveRows}
use Rattle.card_core.specs.Acting.{ActsAlone}
use Rattle.card_core.specs.AnyStore.{MovesTree}
use Rattle.card_core.specs.Cards.{memory_of, held_by, card_with, IsRunning}
use Rattle.card_core.specs.Known.{KnownBy, ByStore, ByTable, ByMemory, IsKnown, IsAnsweredBy, IsCountedBy, IsCalmBy, MayBeBy, SaysSo, IsLeftAt}
use Rattle.card_core.specs.Laws.{TablesHaveRows}
use Rattle.card_core.specs.Parts.{CardParts}
use Rattle.card_core.specs.Serving.{WritesOnTree}
use Rattle.card_core.specs.Writing.{HasWritten, StopsWriting}
use Rattle.card_core.proofs.ActsOnLemmas.{acts_done, acts_stopped}
use Rattle.card_core.proofs.IsLeftLemmas.{left_once}
use Rattle.card_core.proofs.IsRunningLemmas.{in_order}
use Rattle.card_core.proofs.KnownLemmas.{told_by, sees_by, finished, stopped_by}
use Rattle.card_core.proofs.SettledFileLemmas.{trees_once}
use Rattle.card_core.proofs.StopsAtLemmas.{no_commits}
use Rattle.card_core.proofs.WritingLemmas.{tree_written, tree_cut}

-- ---- what it is tried on

carried_tree : (command : TreeCommand) (card : CardState) (apdu : Apdu)
    → carried_out (Tree command) card apdu ≡ tree_tried card (tree_outcome command card.persistent (seen_by card) card.channels (channel_of apdu.class) apdu)
unfolding carried_out
carried_tree command card apdu = refl

commits_are : (card : CardState) (came : Result TreeOutcome StatusWord) → passed_by card.channels came ≡ (settled card (tree_tried card came)).commits
unfolding and_given
commits_are card (Ok outcome) = refl
commits_are card (Err status) = refl

changes_are : (card : CardState) (came : Result TreeOutcome StatusWord) → changes_by card.channels came ≡ (settled card (tree_tried card came)).changes
unfolding and_given
changes_are card (Ok outcome) = refl
changes_are card (Err status) = refl

-- ---- what it comes to

-- The status and what is selected are those of the outcome, and the state after it is known so.
record IsTreeDone (by : KnownBy) (old new : CardParts) (state : Persistent) (came : Result TreeOutcome StatusWord) (out : Answer) : Type 0 where
  body : out.body ≡ []
  status : out.status ≡ tree_status_of came
  channels : new.channels ≡ (settled_tree old.channels came).channels
  known : IsKnown by new (last_of state (passed_by old.channels came))

-- what a new card has besides what it holds and what is selected
pub record HasBesides (old new : CardParts) : Type 0 where
  pub verified : new.verified ≡ old.verified
  pub session : new.session ≡ old.session
  pub boxes : new.boxes ≡ old.boxes

module _ (command : TreeCommand) (apdu : Apdu) (old new : CardParts) (out : Answer) where
  tree_answers : (by : KnownBy) (state : Persistent) (came : Result TreeOutcome StatusWord) → HasBesides old new → IsTreeDone by old new state came out
      → SaysSo (settled (card_with false old state) (tree_tried (card_with false old state) came)) out × MayBeBy by new (settled (card_with false old state) (tree_tried (card_with false old state) came)).state
  unfolding and_given
  tree_answers by state (Ok outcome) has is = (
    record { body = is.body; status = is.status },
    record { known = is.known; channels = sym is.channels; verified = sym has.verified; session = sym has.session; boxes = sym has.boxes },
  )
  tree_answers by state (Err status) has is = (
    record { body = is.body; status = is.status },
    record { known = is.known; channels = sym is.channels; verified = sym has.verified; session = sym has.session; boxes = sym has.boxes },
  )

  abbrev came_on : Persistent → Answered
  came_on state = settled (card_with false old state) (carried_out (Tree command) (card_with false old state) apdu)

  module _ (tell : TablesTellStates) (running : IsRunning old) (table : Loaded) (same : table ≡ old.table) (moves : MovesTree old new) where
    abbrev meaning : Persistent → Result TreeOutcome StatusWord
    meaning state = tree_outcome command state (keys_seen (pins_of table) old.verified) old.channels (channel_of apdu.class) apdu

    tried_is : (state : Persistent) → IsTold old.table state → settled (card_with false old state) (tree_tried (card_with false old state) (meaning state)) ≡ came_on state
    tried_is state told =
        let card : CardState = card_with false old state in
        ap (λ (seen : Verified). settled card (tree_tried card (tree_outcome command state seen old.channels (channel_of apdu.class) apdu))) (sees_by old table same state told) ∙ ap (settled card) (sym (carried_tree command card apdu))

    told : (by : KnownBy) (state : Persistent) → IsKnown by old state → IsTold old.table state
    told by state known = told_by tell old running.mounted.agrees by state known

    -- it passes what the card commits
    passed_is : (state : Persistent) → IsTold old.table state → passed_by old.channels (meaning state) ≡ (came_on state).commits
    passed_is state told = commits_are (card_with false old state) (meaning state) ∙ ap (λ (each : Answered). each.commits) (tried_is state told)

    -- and changes what the card does
    abbrev changes_on : Persistent → List Change
    changes_on state = changes_by old.channels (meaning state)

    changes_is : (state : Persistent) → held_by old ≡ Some state → changes_on state ≡ (came_on state).changes
    changes_is state held = changes_are (card_with false old state) (meaning state) ∙ ap (λ (each : Answered). each.changes) (tried_is state (told ByStore state held))

    over : (state : Persistent) (known : IsKnown ByMemory old state) → Stands known.store_mark known.content table state
    over state known = subst (λ (each : Loaded). Stands known.store_mark known.content each state) (sym same) known.stands

    module _ (done : Unit {0}) (has : HasBesides old new) (body : out.body ≡ [])
        (performs : PerformsTree (finished done) (record (memory_of old) { table = table }) (memory_of new) out old.channels new.channels meaning)
        (tells : AnswersTree table new.table out.status old.channels new.channels meaning)
        (commits : CommitsTree (Ok done) (record (memory_of old) { table = table }) (memory_of new) old.channels meaning)
        (writes : WritesOnTree (finished done) (record (memory_of old) { table = table }) (memory_of new) changes_on) where
      held_outcome : (state : Persistent) → held_by old ≡ Some state → IsTreeOutcome state (meaning state) old.channels out new.channels (record (memory_of old) { table = table }) (memory_of new)
      held_outcome state held =
          if_some_at (held_by old) (λ each. IsTreeOutcome each (meaning each) old.channels out new.channels (record (memory_of old) { table = table }) (memory_of new)) state performs held

      answered : (by : KnownBy) (state : Persistent) → IsKnown by old state → IsAnsweredBy by (Tree command) → IsTreeDone by old new state (meaning state) out
      answered ByStore state known needs = (let is = held_outcome state known in record { body = body; status = is.status; channels = is.channels; known = is.state_is })
      answered ByTable state known needs = absurd needs
      answered ByMemory state known needs =
          let is = tells known.store_mark known.content state (over state known) in
          record { body = body; status = is.status_is; channels = is.channels; known = record { store_mark = known.store_mark; content = is.content; stands = is.stands } }

      counted : (by : KnownBy) (state : Persistent) → IsKnown by old state → IsCountedBy by (Tree command) → new.commits ≡ raised_by (length (passed_by old.channels (meaning state))) old.commits
      counted ByStore state known counts = (held_outcome state known).commits
      counted ByTable state known counts = absurd counts
      counted ByMemory state known counts = commits known.store_mark known.content state (over state known)

      answers_trees : (by : KnownBy) (state : Persistent) → IsKnown by old state → IsAnsweredBy by (Tree command) → SaysSo (came_on state) out × MayBeBy by new (came_on state).state
      answers_trees by state known needs =
          subst (λ (each : Answered). SaysSo each out × MayBeBy by new each.state) (tried_is state (told by state known)) (tree_answers by state (meaning state) has (answered by state known needs))

      pub trees_act : ActsAlone (Ok done) (Tree command) apdu old new out
      trees_act =
          acts_done (Tree command) apdu old new out moves done
          (λ state held. subst (λ (changes : List Change). HasWritten changes old new) (changes_is state held) (tree_written done old new table changes_on state held writes)) answers_trees
          (λ by state known counts. counted by state known counts ∙ ap (λ (states : List Persistent). raised_by (length states) old.commits) (passed_is state (told by state known))) (λ status refused. absurd refused)

    -- ---- once a fault stopped it

    module _ (rows : TablesHaveRows) (law : CommandsLeaveRows) (fault : StoreFault) (stays_there : new.leaving ≡ None)
        (performs : PerformsTree (stopped_by fault) (record (memory_of old) { table = table }) (memory_of new) out old.channels new.channels meaning) (none_done : new.commits ≡ old.commits)
        (calm : IfNothingPasses table old.channels meaning (IsOk (stopped_by fault)))
        (writes : WritesOnTree (stopped_by fault) (record (memory_of old) { table = table }) (memory_of new) changes_on) where
      left_there : (state : Persistent) → held_by old ≡ Some state → IsLeftAt old new (card_with false old state) (came_on state).commits
      left_there state held =
          left_once law (Tree command) apdu refl old new state stays_there moves.boxes (in_order rows old running state (told ByStore state held))
          (subst (λ (passed : List Persistent). length passed ≤ 1) (passed_is state (told ByStore state held)) (trees_once state (keys_seen (pins_of table) old.verified) old.channels (channel_of apdu.class) apdu command)) none_done
          (subst (λ (passed : List Persistent). IsSomeAnd (held_by new) (Contains (state ∷ passed))) (passed_is state (told ByStore state held))
          (if_some_at (held_by old) (λ each. IsSomeAnd (held_by new) (Contains (each ∷ passed_by old.channels (meaning each)))) state performs held))

      never : (by : KnownBy) (state : Persistent) → IsKnown by old state → IsCalmBy by (Tree command) → (came_on state).commits ≡ [] → ⊥
      never ByStore state known is none = is
      never ByTable state known is none = is
      never ByMemory state known of_tree none = false≢true (calm known.store_mark known.content state (over state known) (passed_is state (told ByMemory state known) ∙ none))

      pub trees_stopped : ActsAlone (stopped_by fault) (Tree command) apdu old new out
      trees_stopped =
          acts_stopped (Tree command) apdu old new out moves fault left_there
          (λ state held.
          subst (λ (changes : List Change). StopsWriting changes old new) (changes_is state held) (tree_cut fault old new table changes_on state running.mounted.agrees same none_done held writes)) (λ by state known counts. no_commits (length (came_on state).commits) old.commits new.commits none_done) never (λ leaves. leaves) (λ status refused. refused)

-- ---- what it is tried with

module _ (Told : (Persistent → Result TreeOutcome StatusWord) → Type 0) (command : TreeCommand) (before : List (Option Selection)) (seen keys : Verified) (apdu : Apdu) (same : keys ≡ seen) where
  told_alike : (kind : TreeCommand) → command ≡ kind → Told (λ state. tree_outcome kind state keys before (channel_of apdu.class) apdu) → Told (λ state. tree_outcome command state seen before (channel_of apdu.class) apdu)
  told_alike kind is told =
      subst (λ (each : TreeCommand). Told (λ state. tree_outcome each state seen before (channel_of apdu.class) apdu)) (sym is) (subst (λ (each : Verified). Told (λ state. tree_outcome kind state each before (channel_of apdu.class) apdu)) same told)

  pub told_created : command ≡ Create → Told (λ state. created state keys before (channel_of apdu.class) apdu) → Told (λ state. tree_outcome command state seen before (channel_of apdu.class) apdu)
  unfolding tree_outcome
  told_created is told = told_alike Create is told

  pub told_deleted : command ≡ Delete → Told (λ state. deleted state keys before (channel_of apdu.class) apdu) → Told (λ state. tree_outcome command state seen before (channel_of apdu.class) apdu)
  unfolding tree_outcome
  told_deleted is told = told_alike Delete is told

  pub told_resized : command ≡ Resize → Told (λ state. resized state keys before (channel_of apdu.class) apdu) → Told (λ state. tree_outcome command state seen before (channel_of apdu.class) apdu)
  unfolding tree_outcome
  told_resized is told = told_alike Resize is told

-- ---- what it leaves as it was

pub tree_moved : (old new : CardParts) (table : Loaded) → table ≡ old.table → HasOtherFiles table new.table → new.verified ≡ old.verified → new.session ≡ old.session → new.boxes ≡ old.boxes → MovesTree old new
tree_moved old new table same others verified session boxes = record {
  table = subst (λ (each : Loaded). HasOtherFiles each new.table) same others;
  verified = verified;
  session = session;
  boxes = boxes;
}
