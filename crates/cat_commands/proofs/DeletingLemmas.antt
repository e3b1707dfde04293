-- A row that goes, and what goes with it.
use Rattle.std.proofs.Common.{◌≡◌, refl, sym, ap, ◌∙◌, subst, ⊎_elim, inl, inr, ℕ, zero, suc, ◌<◌, Bool, true, false, List, [], ◌∷◌, map, Option, Some, None, arith, ◌≢◌, ◌⊎◌, ◌==◌, ◌&&◌, not, nat_le, option_map, AllPairs, Contains, slice_set, Result, Ok, Err, IsErr, eqb-true}
use Rattle.std.proofs.lemmas.Bool.Decides.{nat_tests}
use Rattle.std.proofs.lemmas.List.{map-set, get_or-set_other}
use Rattle.list_laws.proofs.FindLemmas.{find_Some}
use Rattle.uicc_types.specs.declared.answers.StatusWord.{StatusWord}
use Rattle.uicc_types.specs.declared.answers.TheConstants.StatusWord.{WRONG_LENGTH, WRONG_PARAMETERS, SECURITY_NOT_SATISFIED}
use Rattle.uicc_types.specs.Counts.{raised}
use Rattle.apdu_form.specs.Model.{Apdu}
use Rattle.store_form.specs.declared.store.StoreFault.{StoreFault}
use Rattle.card_state.specs.Changes.{TakeRow}
use Rattle.card_state.specs.Memory.{held}
use Rattle.card_state.specs.declared.entries.Loaded.{Loaded}
use Rattle.card_state.specs.Persistent.{Registration, Persistent}
use Rattle.card_state.specs.StateLaws.{RowsComeFromEntries, StatesAreOfTables}
use Rattle.card_state.specs.States.{rows_of}
use Rattle.access_rules.specs.declared.rules.Verified.{Verified}
use Rattle.file_model.specs.Chains.{refused_if}
use Rattle.apdu_form.specs.Fields.{has_no_data}
use Rattle.card_commits.specs.Entries.{HasRowOn}
use Rattle.card_commits.specs.Rows.{without_row_on, rows_alone}
use Rattle.card_commits.specs.Writing.{written}
use Rattle.card_commits.proofs.WritesAllLemmas.{one_written}
use Rattle.timer_table.specs.Timers.{without}
use Rattle.applet_trait.specs.Minds.{AppletState}
use Rattle.toolkit_model.specs.Passing.{ToolkitState}
use Rattle.toolkit_model.specs.declared.faults.RowFault.TheVariants.{NoRow, NotIdle}
use Rattle.toolkit_model.specs.Registry.{unless_missing, faulty_if, is_on, row_on, without_row, deleted_row}
use Rattle.toolkit_model.specs.Running.{mind_on, with_mind}
use Rattle.toolkit_model.specs.Driving.{driven}
use Rattle.toolkit_model.specs.Commands.{unregistering, delete_carried}
use Rattle.event_dispatch.proofs.CommitsLemmas.{deletes_row}
use Rattle.proactive_handler.specs.Acts.{with_these_rows}
use Rattle.proactive_handler.specs.Runs.{StopsIn}
use Rattle.proactive_handler.specs.Boxes.{kinds_of}
use Rattle.proactive_handler.proofs.StopsAtLemmas.{both_done, second_stops}
use Rattle.proactive_handler.specs.Moved.{HasRowsOf}
use Rattle.proactive_handler.proofs.MovedLemmas.{stands_still}
use Rattle.proactive_handler.proofs.CountingLemmas.{counts_one}
use Rattle.proactive_handler.proofs.WrittenLemmas.{stops_first}
use Rattle.proactive_handler.specs.Steps.{Scene, toolkit, IsDone, MovesTo}
use Rattle.card_model.specs.Toolkit.{has_shelf, row_or_status}
use Rattle.cat_commands.specs.Deleting.{HasNoRow, HasLost}
use Rattle.cat_commands.specs.Trying.{delete_tried, allowed}
use Rattle.cat_commands.proofs.StopsAtLemmas.{step_stops}
use Rattle.cat_commands.proofs.HasNoRowLemmas.{gone_rows, driven_lacks, kinds_without}
use Rattle.cat_commands.proofs.TriggersLemmas.{contained_has}

-- ---- the row that may go

-- it is there, on this shelf, and its applet is idle
pub record IsIdleRow (rows : List Registration) (idle : Bool) (shelf : ℕ) (row : Registration) : Type 0 where
  pub there : Contains rows row
  pub on_it : row.shelf ≡ shelf
  pub is_idle : idle ≡ true
  pub low : shelf < 32

is_low : (shelf : ℕ) → nat_le shelf 31 ≡ true → shelf < 32
is_low shelf is = grind (arith, nat_tests, is)

found_goes : (rows : List Registration) (idle : Bool) (shelf : ℕ) (row : Registration) (found : Option Registration) → row_on rows shelf ≡ found → nat_le shelf 31 ≡ true
    → row_or_status (unless_missing found NoRow (λ r. faulty_if (not idle) NotIdle (Ok r))) ≡ Ok row → IsIdleRow rows idle shelf row
found_goes rows idle shelf row None is low goes = cc goes
found_goes rows true shelf row (Some other) is low goes =
    let same : other ≡ row = cc goes in
    let found = find_Some (is_on shelf) rows row (is ∙ ap (λ (r : Registration). Some r) same) in
    record { there = found.0; on_it = eqb-true row.shelf shelf found.1; is_idle = refl; low = is_low shelf low }
found_goes rows false shelf row (Some other) is low goes = cc goes

tests_goes : (a b c d : Bool) (rows : List Registration) (idle : Bool) (shelf : ℕ) (row : Registration) → nat_le shelf 31 ≡ b
    → refused_if (not (a && b)) WRONG_PARAMETERS (refused_if c WRONG_LENGTH (refused_if d SECURITY_NOT_SATISFIED (row_or_status (deleted_row rows shelf idle)))) ≡ Ok row → IsIdleRow rows idle shelf row
unfolding refused_if
tests_goes true true false false rows idle shelf row low goes = found_goes rows idle shelf row (row_on rows shelf) refl low goes
tests_goes true true false true rows idle shelf row low goes = cc goes
tests_goes true true true d rows idle shelf row low goes = cc goes
tests_goes true false c d rows idle shelf row low goes = cc goes
tests_goes false b c d rows idle shelf row low goes = cc goes

module _ (rows : List Registration) (idle : Bool) (seen : Verified) (apdu : Apdu) where
  pub may_go : (row : Registration) → delete_tried rows idle seen apdu ≡ Ok row → IsIdleRow rows idle apdu.p2 row
  unfolding delete_tried
  may_go row goes = tests_goes (apdu.p1 == 0x00) (has_shelf apdu) (not (has_no_data apdu)) (not seen.adm1) rows idle apdu.p2 row refl goes

  -- what was allowed
  pub record IsAllowed : Type 0 where
    pub row : Registration
    pub goes : delete_tried rows idle seen apdu ≡ Ok row

  allowed_by : (tried : Result Registration StatusWord) → delete_tried rows idle seen apdu ≡ tried → (done : Unit) → allowed tried ≡ Ok done → IsAllowed
  allowed_by (Ok row) is done so = record { row = row; goes = is }
  allowed_by (Err status) is done so = cc so

  pub is_allowed : (done : Unit) → allowed (delete_tried rows idle seen apdu) ≡ Ok done → IsAllowed
  is_allowed done so = allowed_by (delete_tried rows idle seen apdu) refl done so

  denied_by : (tried : Result Registration StatusWord) (status : StatusWord) → allowed tried ≡ Err status → tried ≡ Err status
  denied_by (Ok row) status so = cc so
  denied_by (Err other) status so = let same : other ≡ status = cc so in ap (λ (s : StatusWord). Err s) same

  pub is_denied : (status : StatusWord) → allowed (delete_tried rows idle seen apdu) ≡ Err status → delete_tried rows idle seen apdu ≡ Err status
  is_denied status so = denied_by (delete_tried rows idle seen apdu) status so

pub has_row : RowsComeFromEntries → StatesAreOfTables → (table : Loaded) (idle : Bool) (shelf : ℕ) (row : Registration) → IsIdleRow (rows_of table) idle shelf row → HasRowOn table shelf
has_row come tables table idle shelf row may = subst (HasRowOn table) may.on_it (contained_has come tables table row may.there)

-- ---- the commit

without_held : (shelf : ℕ) (rows : List Registration) (stood : Option Persistent) → AllPairs (λ a b. a.shelf < b.shelf) rows → HasRowsOf stood rows → option_map (without_row_on shelf) stood ≡ option_map (with_these_rows (without_row rows shelf)) stood
without_held shelf rows None ascend has = refl
without_held shelf rows (Some state) ascend has =
    let same : state.rows ≡ rows = has state refl in
    ap (λ (r : List Registration). Some (with_these_rows r state))
    (deletes_row state shelf (subst (AllPairs (λ (a b : Registration). a.shelf < b.shelf)) (sym same) ascend) ∙ ap (λ (r : List Registration). without_row r shelf) same)

module _ (shelf : ℕ) (old : Scene) (ascend : AllPairs (λ a b. a.shelf < b.shelf) (rows_of old.memory.table)) (has : HasRowsOf (held old.memory) (rows_of old.memory.table)) where
  -- a fault stopped it
  pub stays_registered : {X : Type 0} (new : Scene) (r : Result X StoreFault) → IsErr r → rows_of new.memory.table ≡ rows_of old.memory.table
      → (held new.memory ≡ held old.memory) ⊎ (held new.memory ≡ option_map (without_row_on shelf) (held old.memory)) → new.memory.commits ≡ old.memory.commits
      → (new.memory.told ≡ old.memory.told) ⊎ (new.memory.told ≡ option_map (written (TakeRow shelf)) old.memory.told) → MovesTo (unregistering shelf (toolkit old)) old new r
  stays_registered new (Ok result) err rows stands none put = cc err
  stays_registered new (Err fault) err rows stands none put = record {
    rows = record {
      place = 0;
      one_more = omega arith;
      table_is = sym rows;
      stands = ⊎_elim {C = (held new.memory ≡ option_map (with_these_rows (rows_of old.memory.table)) (held old.memory)) ⊎ (held new.memory ≡ option_map (with_these_rows (without_row (rows_of old.memory.table) shelf)) (held old.memory))}
          (λ before. inl (before ∙ stands_still (held old.memory) (rows_of old.memory.table) has)) (λ behind. inr (behind ∙ without_held shelf (rows_of old.memory.table) (held old.memory) ascend has)) stands;
      commits = none;
    };
    writes = stops_first (TakeRow shelf) [] old.memory new.memory put none;
  }

  pub goes : (new : Scene) → rows_of new.memory.table ≡ without_row (rows_of old.memory.table) shelf → new.session ≡ record old.session { timers = map (without (record { 0 = shelf })) old.session.timers } → new.minds ≡ with_mind old.minds shelf None
      → held new.memory ≡ option_map (without_row_on shelf) (held old.memory) → new.memory.commits ≡ raised old.memory.commits
      → new.memory.told ≡ option_map (written (TakeRow shelf)) old.memory.told → IsDone (unregistering shelf (toolkit old)) old new
  goes new rows session minds stands once put = record {
    state_is = λ i. let each : ToolkitState = record { rows = rows i; session = session i; minds = minds i } in each;
    stands = stands ∙ without_held shelf (rows_of old.memory.table) (held old.memory) ascend has;
    last_is = refl;
    counts = counts_one (without_row (rows_of old.memory.table) shelf) old.memory new.memory once;
    writes = put ∙ one_written (TakeRow shelf) old.memory.told;
  }

-- the rows of the table, as a card's commit leaves them
pub rows_without : (old new : Loaded) (shelf : ℕ) → AllPairs (λ a b. a.shelf < b.shelf) (rows_of old) → rows_of new ≡ (without_row_on shelf (rows_alone old)).rows → rows_of new ≡ without_row (rows_of old) shelf
rows_without old new shelf ascend is = is ∙ deletes_row (rows_alone old) shelf ascend

-- ---- and then the end of the command

module _ (shelf : ℕ) (old mid : Scene) where
  pub removed_stops : {X : Type 0} (r : Result X StoreFault) → IsErr r → StopsIn (unregistering shelf (toolkit old)).log old.memory mid.memory → MovesTo (delete_carried shelf (toolkit old)) old mid r
  unfolding delete_carried
  removed_stops r err stop = step_stops (unregistering shelf (toolkit old)) driven old mid r err stop

  pub removed_done : (new : Scene) → IsDone (unregistering shelf (toolkit old)) old mid → IsDone (driven (toolkit mid)) mid new → IsDone (delete_carried shelf (toolkit old)) old new
  unfolding delete_carried
  removed_done new done last = both_done (unregistering shelf (toolkit old)) driven old mid new done last

  -- a fault stopped the end, whatever became of the minds
  pub removed_then_stops : (new : Scene) → IsDone (unregistering shelf (toolkit old)) old mid → StopsIn (driven (toolkit mid)).log mid.memory new.memory
      → StopsIn (delete_carried shelf (toolkit old)).log old.memory new.memory
  unfolding delete_carried
  removed_then_stops new done stop = second_stops (unregistering shelf (toolkit old)) driven old mid new done stop

-- ---- the boxes, where a fault stopped it

kind_again : (minds : List (Option AppletState)) (shelf : ℕ) → slice_set (slice_set (kinds_of minds) shelf None) shelf (option_map (λ mind. mind.kind) (mind_on minds shelf)) ≡ kinds_of minds
kind_again [] shelf = refl
kind_again (mind ∷ minds) zero = refl
kind_again (mind ∷ minds) (suc shelf) = ap (λ (kinds : List (Option ℕ)). option_map (λ (m : AppletState). m.kind) mind ∷ kinds) (kind_again minds shelf)

-- the box that was taken out is put back
pub kinds_again : (shelf : ℕ) (old mid new again : List (Option AppletState)) (box : Option AppletState) → mid ≡ with_mind old shelf None → kinds_of new ≡ kinds_of mid → box ≡ mind_on old shelf → again ≡ with_mind new shelf box → kinds_of again ≡ kinds_of old
kinds_again shelf old mid new again box gone kinds taken is =
    let kind : Option AppletState → Option ℕ = option_map (λ (mind : AppletState). mind.kind) in
    ap kinds_of is ∙ map-set kind new shelf box
    ∙ ap (λ (all : List (Option ℕ)). slice_set all shelf (kind box)) (kinds ∙ kinds_without old mid shelf gone)
    ∙ ap (λ (b : Option AppletState). slice_set (slice_set (kinds_of old) shelf None) shelf (kind b)) taken
    ∙ kind_again old shelf

pub others_again : (shelf other : ℕ) (old mid new again : List (Option AppletState)) (box : Option AppletState) → other ≢ shelf → mid ≡ with_mind old shelf None → mind_on new other ≡ mind_on mid other → again ≡ with_mind new shelf box
    → mind_on again other ≡ mind_on old other
others_again shelf other old mid new again box apart gone same is =
    ap (λ (minds : List (Option AppletState)). mind_on minds other) is ∙ get_or-set_other new shelf other box None apart
    ∙ same
    ∙ ap (λ (minds : List (Option AppletState)). mind_on minds other) gone ∙ get_or-set_other old shelf other None None apart

-- once it is done
pub has_lost : (shelf : ℕ) (old mid new : Scene) → IsDone (unregistering shelf (toolkit old)) old mid → IsDone (driven (toolkit mid)) mid new → kinds_of new.minds ≡ kinds_of mid.minds → HasLost shelf old new
has_lost shelf old mid new done ended kinds =
    let lacks : HasNoRow (rows_of mid.memory.table) shelf =
    subst (λ (rows : List Registration). HasNoRow rows shelf) (sym (ap (λ (s : ToolkitState). s.rows) done.state_is)) (gone_rows shelf (rows_of old.memory.table)) in record {
      boxes = kinds ∙ kinds_without old.minds mid.minds shelf (ap (λ (s : ToolkitState). s.minds) done.state_is);
      row = subst (λ (rows : List Registration). HasNoRow rows shelf) (sym (ap (λ (s : ToolkitState). s.rows) ended.state_is)) (driven_lacks shelf (toolkit mid) lacks);
    }
