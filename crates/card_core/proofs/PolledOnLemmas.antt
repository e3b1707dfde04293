-- What a fault leaves that stops telling the applets of STATUS.
use Rattle.std.proofs.Common.{◌≡◌, inl, false, ◌∷◌, Some, None, Result, Ok, Err, refl, ap, subst, All, IsSomeAnd, length}
use Rattle.std.proofs.lemmas.Bool.{false≢true}
use Rattle.list_laws.proofs.MapLemmas.{all_unmapped}
use Rattle.uicc_types.specs.declared.answers.StatusWord.{StatusWord}
use Rattle.card_state.specs.Persistent.{Persistent}
use Rattle.card_state.specs.StateLaws.{RowsAreEntries}
use Rattle.card_commits.specs.Laws.{IsTold}
use Rattle.toolkit_model.specs.Passing.{passed_rows}
use Rattle.proactive_handler.specs.Boxes.{kinds_of}
use Rattle.card_model.specs.Runs.{IsLeft}
use Rattle.card_model.specs.States.{CardState}
use Rattle.card_model.specs.Toolkit.{ToolkitOutcome, states_passed, with_rows}
use Rattle.card_model.specs.declared.instructions.CatCommand.TheVariants.{TerminalProfile}
use Rattle.cat_commands.specs.Carrying.{IsToolkitCutShort}
use Rattle.cat_commands.specs.Deleting.{LeavesUnregistered}
use Rattle.card_laws.specs.Moving.{HaveFixed, HasOrder}
use Rattle.card_laws.specs.ToolkitLaws.{TellingLeavesRows}
use Rattle.card_core.specs.Cards.{held_by, card_with, card_due, IsRunning}
use Rattle.card_core.specs.Laws.{TablesHaveRows}
use Rattle.card_core.specs.Moves.{polled_on}
use Rattle.card_core.specs.Parts.{CardParts}
use Rattle.card_core.proofs.HasToolkitLemmas.{scene_of, is_delete}
use Rattle.card_core.proofs.IsRunningLemmas.{Boxed, in_order}
use Rattle.card_core.proofs.IsToolkitCutShortLemmas.{short_left}
use Rattle.card_core.proofs.PutBackLemmas.{nothing}
use Rattle.card_core.proofs.ToolkitYieldsLemmas.{polling, polled_by}

pub polled_left : RowsAreEntries → TellingLeavesRows → (old new : CardParts) → kinds_of new.boxes ≡ kinds_of old.boxes → LeavesUnregistered old.table new.table old.boxes new.boxes → new.leaving ≡ None → length new.boxes ≡ length old.boxes
    → (state : Persistent) → IsTold old.table state → held_by old ≡ Some state → HasOrder (card_with false old state) → IsToolkitCutShort (polling (card_with false old state)) (scene_of old) (scene_of new)
    → IsSomeAnd (card_due new) (IsLeft (card_with false old state) (state ∷ (polled_on (card_with false old state)).commits))
polled_left entries telling old new kinds others stays long state told held ready short =
    let card : CardState = card_with false old state in
    short_left entries TerminalProfile nothing old new kinds others (inl (stays, refl)) long card (polling card) told refl held
    (all_unmapped (λ (each : Persistent). HaveFixed state.rows each.rows) (with_rows state (polling card).next_sequence) (passed_rows (polling card).passed.log) (telling card ready).fixed)
    (λ deletes. absurd (false≢true (ap is_delete deletes))) short

outcome_or : ToolkitOutcome → Result ToolkitOutcome StatusWord → ToolkitOutcome
outcome_or other (Ok outcome) = outcome
outcome_or other (Err status) = other

pub polled_boxed : TablesHaveRows → TellingLeavesRows → (old : CardParts) → IsRunning old → (state : Persistent) → IsTold old.table state → Boxed old state → (outcome : ToolkitOutcome) → polled_by (card_with false old state) ≡ Ok outcome
    → All (Boxed old) (states_passed state outcome)
unfolding outcome_or
polled_boxed sound telling old running state told boxed outcome is =
    subst (λ (each : ToolkitOutcome). All (Boxed old) (states_passed state each)) (ap (outcome_or outcome) is) ((telling (card_with false old state) (in_order sound old running state told)).boxes boxed)
