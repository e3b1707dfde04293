-- DELETE, as it is to each card that it may come to.
use Rattle.std.proofs.Common.{◌≡◌, sym, ap, ◌∙◌, subst, ℕ, ◌<◌, Bool, true, List, [], Ok, Err}
use Rattle.list_laws.proofs.MapLemmas.{mapped_too}
use Rattle.uicc_types.specs.declared.answers.StatusWord.{StatusWord}
use Rattle.apdu_form.specs.Model.{Apdu}
use Rattle.card_state.specs.declared.entries.Loaded.{Loaded}
use Rattle.card_state.specs.Persistent.{Registration}
use Rattle.card_state.specs.StateLaws.{RowsComeFromEntries, StatesAreOfTables}
use Rattle.card_state.specs.States.{rows_of}
use Rattle.access_rules.specs.declared.rules.Verified.{Verified}
use Rattle.card_commits.specs.Entries.{HasRowOn}
use Rattle.toolkit_model.specs.Sessions.{Sent, SessionState}
use Rattle.toolkit_model.specs.Orderly.{asks, IsRegistered}
use Rattle.toolkit_model.specs.Driving.{is_idle}
use Rattle.toolkit_model.specs.Commands.{delete_carried}
use Rattle.proactive_handler.specs.Steps.{Scene}
use Rattle.card_model.specs.States.{CardState}
use Rattle.card_model.specs.Toolkit.{toolkit_of, coming_to, applet_deleted}
use Rattle.cat_commands.specs.Carrying.{HasToolkit}
use Rattle.cat_commands.specs.Deleting.{MayGo}
use Rattle.cat_commands.specs.Trying.{delete_tried}
use Rattle.cat_commands.proofs.DeletingLemmas.{IsIdleRow, IsAllowed, may_go, has_row}
use Rattle.cat_commands.proofs.TryingLemmas.{delete_refused, delete_goes}

module _ (card : CardState) (old : Scene) (has : HasToolkit old card) (seen : Verified) (apdu : Apdu) where
  card_tried : delete_tried card.persistent.rows (is_idle (asks card.session) apdu.p2) seen apdu ≡ delete_tried (rows_of old.memory.table) (is_idle (asks old.session) apdu.p2) seen apdu
  card_tried =
      ap (λ (rows : List Registration). delete_tried rows (is_idle (asks card.session) apdu.p2) seen apdu) has.told.rows
      ∙ ap (λ (s : SessionState). delete_tried (rows_of old.memory.table) (is_idle (asks s) apdu.p2) seen apdu) has.session_is

  pub delete_not : (status : StatusWord) → delete_tried (rows_of old.memory.table) (is_idle (asks old.session) apdu.p2) seen apdu ≡ Err status → applet_deleted card seen apdu ≡ Err status
  delete_not status is = delete_refused card seen apdu status (card_tried ∙ is)

  pub delete_at : IsAllowed (rows_of old.memory.table) (is_idle (asks old.session) apdu.p2) seen apdu → applet_deleted card seen apdu ≡ Ok (coming_to card [] (delete_carried apdu.p2 (toolkit_of card)))
  delete_at allowed =
      delete_goes card seen apdu allowed.row (card_tried ∙ allowed.goes)
      ∙ ap (λ (n : ℕ). Ok (coming_to card [] (delete_carried n (toolkit_of card)))) (may_go (rows_of old.memory.table) (is_idle (asks old.session) apdu.p2) seen apdu allowed.row allowed.goes).on_it

row_at : RowsComeFromEntries → StatesAreOfTables → (table : Loaded) (idle : Bool) (seen : Verified) (apdu : Apdu) → IsAllowed (rows_of table) idle seen apdu → (shelf : ℕ) → shelf ≡ apdu.p2 → HasRowOn table shelf
row_at come tables table idle seen apdu allowed shelf same =
    subst (HasRowOn table) (sym same) (has_row come tables table idle apdu.p2 allowed.row (may_go (rows_of table) idle seen apdu allowed.row allowed.goes))

module _ (rows : List Registration) (asked : List Sent) (seen : Verified) (apdu : Apdu) (allowed : IsAllowed rows (is_idle asked apdu.p2) seen apdu) (shelf : ℕ) (same : shelf ≡ apdu.p2) where
  may : IsIdleRow rows (is_idle asked apdu.p2) apdu.p2 allowed.row
  may = may_go rows (is_idle asked apdu.p2) seen apdu allowed.row allowed.goes

  low_at : shelf < 32
  low_at = subst (λ (n : ℕ). n < 32) (sym same) may.low

  idle_at : is_idle asked shelf ≡ true
  idle_at = ap (is_idle asked) same ∙ may.is_idle

  pub registered_at : IsRegistered rows shelf × (is_idle asked shelf ≡ true)
  registered_at = (subst (IsRegistered rows) (may.on_it ∙ sym same) (mapped_too (λ (row : Registration). row.shelf) rows allowed.row may.there), idle_at)

pub may_go_at : RowsComeFromEntries → StatesAreOfTables → (now : Scene) (seen : Verified) (apdu : Apdu) → IsAllowed (rows_of now.memory.table) (is_idle (asks now.session) apdu.p2) seen apdu → (shelf : ℕ) → shelf ≡ apdu.p2 → MayGo now shelf
may_go_at come tables now seen apdu allowed shelf same = record {
  low = low_at (rows_of now.memory.table) (asks now.session) seen apdu allowed shelf same;
  row = row_at come tables now.memory.table (is_idle (asks now.session) apdu.p2) seen apdu allowed shelf same;
  idle = idle_at (rows_of now.memory.table) (asks now.session) seen apdu allowed shelf same;
}
