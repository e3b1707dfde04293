-- INSTALL, as it is to each card that it may come to.
use Rattle.std.proofs.Common.{◌≡◌, sym, ap, ◌∙◌, subst, ℕ, ◌+◌, ◌<◌, ◌≤◌, true, false, List, [], Option, Some, All, IfSome, Result, Ok, Err, IsErr}
use Rattle.uicc_types.specs.declared.answers.StatusWord.{StatusWord}
use Rattle.apdu_form.specs.Model.{Apdu}
use Rattle.store_form.specs.declared.store.StoreFault.{StoreFault}
use Rattle.card_state.specs.declared.entries.Row.{Row}
use Rattle.card_state.specs.declared.entries.Loaded.{Loaded}
use Rattle.card_state.specs.Memory.{Memory, Keeps}
use Rattle.card_state.specs.Persistent.{Registration}
use Rattle.card_state.specs.Sections.{with_row}
use Rattle.card_state.specs.StateLaws.{StatesAreOfTables}
use Rattle.card_state.specs.States.{registration_of, rows_of, state_of}
use Rattle.card_state.specs.AppletKinds.{IsAppletKind}
use Rattle.access_rules.specs.declared.rules.Verified.{Verified}
use Rattle.card_commits.specs.Rows.{MayInstall}
use Rattle.card_commits.proofs.KeepsLemmas.{keeps_done}
use Rattle.applet_trait.specs.Minds.{AppletState, kind_on}
use Rattle.toolkit_model.specs.Sound.{InstalledRowsAreSound}
use Rattle.toolkit_model.specs.Passing.{ToolkitState}
use Rattle.toolkit_model.specs.Registry.{is_taken, without_row, installed_row}
use Rattle.toolkit_model.specs.Steps.{AreRows, Install, IsAccepted}
use Rattle.toolkit_model.specs.Commands.{installed}
use Rattle.toolkit_model.proofs.InstallationsAreAcceptedLemmas.{installations_accepted}
use Rattle.event_dispatch.proofs.InstallationsAreFollowedLemmas.{installations_followed}
use Rattle.event_dispatch.specs.Indexes.{StandsFor}
use Rattle.applet_registry.specs.Rows.{IsAdmitted}
use Rattle.proactive_handler.specs.Scenes.{KeepsScene}
use Rattle.proactive_handler.proofs.ScenesLemmas.{scene_then}
use Rattle.proactive_handler.specs.Steps.{Scene, toolkit}
use Rattle.card_model.specs.States.{CardState}
use Rattle.card_model.specs.Toolkit.{ToolkitOutcome, applet_installed, kind_in}
use Rattle.cat_commands.specs.Carrying.{HasToolkit, IsToolkitCutShort, Comes}
use Rattle.cat_commands.specs.Registering.{IsInstallable, with_next}
use Rattle.cat_commands.specs.Trying.{install_tried}
use Rattle.cat_commands.proofs.InstallTriedLemmas.{tried_same, is_tried, low_shelf, kind_there, may_install}
use Rattle.cat_commands.proofs.CarriesLemmas.{toolkit_is}
use Rattle.cat_commands.proofs.TryingLemmas.{install_refused, install_goes}

pub cut_err : {X : Type 0} (outcome : ToolkitOutcome) (old new : Scene) (r : Result X StoreFault) → IsErr r → IsToolkitCutShort outcome old new → Comes outcome old new r
cut_err outcome old new (Ok result) err cut = cc err
cut_err outcome old new (Err fault) err cut = cut

-- what is kept of a memory hangs on nothing that its table says of the next sequence number
pub keeps_beside : {T U : Type 0} (old new : Memory) (next : ℕ) (value : T) (other : U) → Keeps old new (Ok value) → Keeps (record old { table = record old.table { next = next } }) new (Ok other)
keeps_beside old new next value other keeps =
    let done = keeps_done old new value other keeps in
    record { mounted = done.mounted; told = done.told; size = done.size; mark = done.mark; recoveries = done.recoveries; cause = done.cause }

-- the row is registered, and then the command ends
pub keeps_installed : {T U : Type 0} (old mid new : Scene) (value : T) (result : Result U StoreFault) → KeepsScene (with_next mid.memory.table.next old) mid (Ok value) → KeepsScene mid new result → KeepsScene (with_next new.memory.table.next old) new result
keeps_installed old mid new value result before after =
    subst (λ (n : ℕ). KeepsScene (with_next n old) new result) (sym (ap (λ (t : Loaded). t.next) after.table))
    (scene_then (with_next mid.memory.table.next old) mid new value result before after)

pub rows_and_next : (old new : Loaded) (rows : List Row) (next : ℕ) → new ≡ record old { rows = rows; next = next } → new ≡ record old { rows = new.rows; next = new.next }
rows_and_next old new rows next is = is ∙ (λ i. record old { rows = (sym (ap (λ (t : Loaded). t.rows) is)) i; next = (sym (ap (λ (t : Loaded). t.next) is)) i })

pub index_with : (rows new : List Registration) (row : Registration) (shelf : ℕ) (index later : List (List ℕ)) → row.shelf ≡ shelf → AreRows rows → AreRows new → is_taken rows row ≡ false → new ≡ with_row rows row → StandsFor index rows
    → (AreRows new → StandsFor index (without_row new shelf) → StandsFor later new) → StandsFor later new
index_with rows new row shelf index later on_it are are_new free is stands follows =
    let same : without_row new shelf ≡ rows = ap (λ (n : ℕ). without_row new n) (sym on_it) ∙ ap (λ (r : List Registration). without_row r row.shelf) is ∙ installations_followed rows row are free in
    follows are_new (subst (StandsFor index) (sym same) stands)

-- ---- what was tried

module _ (table : Loaded) (minds : List (Option AppletState)) (tables : StatesAreOfTables) (seen : Verified) (apdu : Apdu) where
  abbrev pub tried_here : Result Registration StatusWord
  tried_here = install_tried (state_of table []) (kind_on minds apdu.p2) seen apdu

  module _ (card : CardState) (old : Scene) (has : HasToolkit old card) (table_is : old.memory.table ≡ table) (minds_are : old.minds ≡ minds) where
    card_tried : install_tried card.persistent (kind_in card apdu.p2) seen apdu ≡ tried_here
    card_tried =
        let here = tables table [] in
        tried_same card.persistent (state_of table []) (has.told.rows ∙ ap rows_of table_is ∙ sym here.rows) (has.told.next ∙ ap (λ (t : Loaded). t.next) table_is ∙ sym here.next) (has.told.wide ∙ ap (λ (t : Loaded). t.wide) table_is ∙ sym here.wide)
        (kind_in card apdu.p2) seen apdu
        ∙ ap (λ (m : List (Option AppletState)). install_tried (state_of table []) (kind_on m apdu.p2) seen apdu) (has.boxes_are ∙ minds_are)

    pub install_not : (status : StatusWord) → tried_here ≡ Err status → applet_installed card seen apdu ≡ Err status
    install_not status is = install_refused card seen apdu status (card_tried ∙ is)

    pub install_at : (shelf : ℕ) (row : Row) → shelf ≡ apdu.p2 → tried_here ≡ Ok (registration_of apdu.p2 row)
        → applet_installed card seen apdu ≡ Ok (record { body = []; passed = installed (registration_of shelf row) (toolkit old); next_sequence = old.memory.table.next + 1 })
    install_at shelf row same is =
        install_goes card seen apdu (registration_of apdu.p2 row) (card_tried ∙ is)
        ∙ ap (λ (s : ToolkitState). Ok (record { body = []; passed = installed (registration_of apdu.p2 row) s; next_sequence = card.persistent.next_sequence + 1 })) (toolkit_is card old has)
        ∙ ap (λ (n : ℕ). Ok (record { body = []; passed = installed (registration_of apdu.p2 row) (toolkit old); next_sequence = n + 1 })) has.told.next
        ∙ ap (λ (n : ℕ). Ok (record { body = []; passed = installed (registration_of n row) (toolkit old); next_sequence = old.memory.table.next + 1 })) (sym same)

  module _ (row : Row) (is : tried_here ≡ Ok (registration_of apdu.p2 row)) (shelf : ℕ) (same : shelf ≡ apdu.p2) (sound : InstalledRowsAreSound) (known : IfSome (kind_on minds apdu.p2) IsAppletKind) where
    low_at : shelf < 32
    low_at = subst (λ (n : ℕ). n < 32) (sym same) (low_shelf tables sound table (kind_on minds apdu.p2) seen apdu row known is)

    kind_at : kind_on minds shelf ≡ Some row.kind
    kind_at = subst (λ (n : ℕ). kind_on minds n ≡ Some row.kind) (sym same) (kind_there tables sound table (kind_on minds apdu.p2) seen apdu row known is)

    may_at : All (λ other. other.sequence < table.next) (rows_of table) → row.used ≡ true → row.events < 4096 → IsAdmitted table apdu.p2 row → MayInstall table shelf row
    may_at below used events admitted = subst (λ (n : ℕ). MayInstall table n row) (sym same) (may_install tables sound table (kind_on minds apdu.p2) seen apdu row known is below used events admitted)

    free_at : IsAdmitted table apdu.p2 row → is_taken (rows_of table) (registration_of shelf row) ≡ false
    free_at admitted = subst (λ (n : ℕ). is_taken (rows_of table) (registration_of n row) ≡ false) (sym same) admitted.free

    pub installable_at : (now : Scene) → now.memory.table ≡ table → now.minds ≡ minds → All (λ other. other.sequence < table.next) (rows_of table) → row.used ≡ true → row.events < 4096 → IsAdmitted table apdu.p2 row → IsInstallable now shelf row
    installable_at now table_is minds_are below used events admitted = record {
      low = low_at;
      row_is = subst (λ (t : Loaded). MayInstall t shelf row) (sym table_is) (may_at below used events admitted);
      free = subst (λ (t : Loaded). is_taken (rows_of t) (registration_of shelf row) ≡ false) (sym table_is) (free_at admitted);
      kind = subst (λ (m : List (Option AppletState)). kind_on m shelf ≡ Some row.kind) (sym minds_are) kind_at;
    }

    pub accepted_at : (state : ToolkitState) → state.rows ≡ rows_of table → state.minds ≡ minds → AreRows state.rows → All (λ other. other.sequence < table.next) (rows_of table) → IsAccepted (Install (registration_of shelf row)) state
    accepted_at state rows_are minds_are are below =
        let here = tables table [] in
        let tried = is_tried (state_of table []) (kind_on minds apdu.p2) seen apdu (registration_of apdu.p2 row) is in
        let less : All (λ other. other.sequence < (state_of table []).next_sequence) state.rows =
        subst (λ (n : ℕ). All (λ other. other.sequence < n) state.rows) (sym here.next) (subst (λ (r : List Registration). All (λ other. other.sequence < table.next) r) (sym rows_are) below) in
        subst (λ (n : ℕ). IsAccepted (Install (registration_of n row)) state) (sym same)
        (installations_accepted (state_of table []) state apdu.p2 apdu.p1 apdu.body (registration_of apdu.p2 row) (here.rows ∙ sym rows_are) are less
        (subst (λ (m : List (Option AppletState)). installed_row (state_of table []) (kind_on m apdu.p2) apdu.p2 apdu.p1 apdu.body ≡ Ok (registration_of apdu.p2 row)) (sym minds_are) tried.row_is))
