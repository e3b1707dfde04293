-- The commit of a new row, and then the end of the command.
use Rattle.std.proofs.Common.{◌≡◌, refl, sym, ap, ◌∙◌, subst, ⊎_elim, inl, inr, ℕ, zero, suc, ◌+◌, ◌<◌, List, [], ◌∷◌, ◌++◌, map, Option, Some, None, arith, ◌⊎◌, length, slice_index_or, option_map, true, Result, Ok, Err, IsErr, Contains, filter, nat_lt}
use Rattle.std.proofs.lemmas.List.Elements.{Contains-append_left, Contains-append_right}
use Rattle.std.specs.List.{last_or}
use Rattle.std.proofs.lemmas.List.{length-map}
use Rattle.uicc_types.specs.Counts.{raised, raised_by}
use Rattle.store_form.specs.declared.store.StoreFault.{StoreFault}
use Rattle.card_state.specs.declared.entries.Row.{Row}
use Rattle.card_state.specs.declared.entries.Loaded.{Loaded}
use Rattle.card_state.specs.Changes.{AddRow}
use Rattle.card_state.specs.Memory.{Memory, held}
use Rattle.card_state.specs.Persistent.{Registration, Persistent}
use Rattle.card_state.specs.Sections.{with_row}
use Rattle.card_state.specs.States.{registration_of, rows_of, pins_of}
use Rattle.file_model.specs.Files.{descriptors_of, descriptors_in}
use Rattle.file_model.specs.Outcomes.{last_of}
use Rattle.card_commits.specs.Laws.{IsTold}
use Rattle.card_commits.specs.Entries.{with_row_at}
use Rattle.card_commits.specs.Rows.{with_row_installed, rows_alone}
use Rattle.card_commits.specs.Writing.{written}
use Rattle.card_commits.proofs.WritesAllLemmas.{one_written}
use Rattle.applet_trait.specs.Minds.{AppletState, fresh, kind_on}
use Rattle.toolkit_model.specs.Passing.{ToolkitState, Happening, Passed, passed_rows}
use Rattle.toolkit_model.specs.Changes.{entry_of}
use Rattle.toolkit_model.proofs.EventsOfLemmas.{events_back}
use Rattle.toolkit_model.specs.Running.{mind_on, with_mind}
use Rattle.toolkit_model.specs.Driving.{driven}
use Rattle.toolkit_model.specs.Commands.{registering, installed}
use Rattle.event_dispatch.proofs.CommitsLemmas.{installs_row}
use Rattle.proactive_handler.specs.Boxes.{kinds_of}
use Rattle.proactive_handler.proofs.MovedLemmas.{kinds_stay}
use Rattle.proactive_handler.specs.Counting.{Counts}
use Rattle.proactive_handler.specs.Written.{IsWritten, IsPartlyWritten}
use Rattle.proactive_handler.proofs.CountingLemmas.{counts_one, counts_then}
use Rattle.proactive_handler.proofs.WrittenLemmas.{writes_then, stops_first, partly_first, partly_then}
use Rattle.proactive_handler.specs.Steps.{Scene, toolkit, MovesTo}
use Rattle.card_model.specs.Toolkit.{ToolkitOutcome, with_rows}
use Rattle.cat_commands.specs.Carrying.{state_at, last_state, HasCome, IsToolkitCutShort, Comes}
use Rattle.cat_commands.specs.Registering.{IsRegistered, IsNotRegistered, Registers}
use Rattle.cat_commands.proofs.ComesLemmas.{Tells, moves_come}

-- ---- the commit

-- the applet on the shelf is there, of this kind
mind_there : (o : Option AppletState) (kind : ℕ) (kept : List ℕ) → option_map (λ mind. mind.kind) o ≡ Some kind → option_map (λ (mind : AppletState). fresh mind.kind kept) o ≡ Some (fresh kind kept)
mind_there None kind kept is = cc is
mind_there (Some mind) kind kept is = ap (λ (k : Option ℕ). option_map (λ (n : ℕ). fresh n kept) k) is

pub wakes : (minds new : List (Option AppletState)) (shelf kind : ℕ) (kept bytes : List ℕ) → kind_on minds shelf ≡ Some kind → bytes ≡ kept
    → new ≡ with_mind minds shelf (option_map (λ mind. fresh mind.kind bytes) (mind_on minds shelf)) → new ≡ with_mind minds shelf (Some (fresh kind kept))
wakes minds new shelf kind kept bytes there same is =
    is ∙ ap (with_mind minds shelf) (mind_there (mind_on minds shelf) kind bytes there) ∙ ap (λ (b : List ℕ). with_mind minds shelf (Some (fresh kind b))) same

same_kinds : (minds : List (Option AppletState)) (shelf kind : ℕ) (kept : List ℕ) (o : Option AppletState) → mind_on minds shelf ≡ o → option_map (λ mind. mind.kind) o ≡ Some kind
    → kinds_of (with_mind minds shelf (Some (fresh kind kept))) ≡ kinds_of minds
same_kinds minds shelf kind kept None there is = cc is
same_kinds minds shelf kind kept (Some mind) there is = let same : kind ≡ mind.kind = cc is in kinds_stay minds shelf mind (fresh kind kept) there same

pub wakes_kind : (minds new : List (Option AppletState)) (shelf kind : ℕ) (kept bytes : List ℕ) → kind_on minds shelf ≡ Some kind → bytes ≡ kept
    → new ≡ with_mind minds shelf (option_map (λ mind. fresh mind.kind bytes) (mind_on minds shelf)) → kinds_of new ≡ kinds_of minds
wakes_kind minds new shelf kind kept bytes there same is = ap kinds_of (wakes minds new shelf kind kept bytes there same is) ∙ same_kinds minds shelf kind kept (mind_on minds shelf) refl there

-- the entry of its registration is the row
entry_back : (shelf : ℕ) (row : Row) → row.used ≡ true → row.events < 4096 → row ≡ entry_of (registration_of shelf row)
entry_back shelf row used low = λ i. let each : Row = record { used = used i; kind = row.kind; priority = row.priority; sequence = row.sequence; events = sym (events_back row.events low) i; text = row.text; kept = row.kept } in each

entry_written : (shelf : ℕ) (row : Row) → row.used ≡ true → row.events < 4096 → (told : Option (List ℕ)) → option_map (written (AddRow shelf row)) told ≡ option_map (written (AddRow shelf (entry_of (registration_of shelf row)))) told
entry_written shelf row used low told = ap (λ (entry : Row). option_map (written (AddRow shelf entry)) told) (entry_back shelf row used low)

module _ (old new : Scene) (shelf : ℕ) (row : Row) (table : new.memory.table ≡ record (with_row_at old.memory.table shelf row) { next = old.memory.table.next + 1 })
    (rows : rows_of new.memory.table ≡ (with_row_installed (registration_of shelf row) (rows_alone old.memory.table)).rows) where
  pub rows_with : rows_of new.memory.table ≡ with_row (rows_of old.memory.table) (registration_of shelf row)
  rows_with = rows ∙ installs_row (rows_alone old.memory.table) (registration_of shelf row)

  told_with : (state : Persistent) → IsTold old.memory.table state → IsTold new.memory.table (with_row_installed (registration_of shelf row) state)
  unfolding descriptors_of descriptors_in pins_of
  told_with state told = record {
    files = told.files ∙ sym (ap descriptors_of table);
    pins = told.pins ∙ sym (ap pins_of table);
    rows = installs_row state (registration_of shelf row) ∙ ap (λ (r : List Registration). with_row r (registration_of shelf row)) told.rows ∙ sym rows_with;
    next = ap (λ (n : ℕ). n + 1) told.next ∙ sym (ap (λ (t : Loaded). t.next) table);
    wide = told.wide ∙ sym (ap (λ (t : Loaded). t.wide) table);
  }

  pub registered_so : new.session ≡ old.session → new.minds ≡ with_mind old.minds shelf (Some (fresh row.kind row.kept)) → held new.memory ≡ option_map (with_row_installed (registration_of shelf row)) (held old.memory)
      → new.memory.commits ≡ raised old.memory.commits → row.used ≡ true → row.events < 4096 → new.memory.told ≡ option_map (written (AddRow shelf row)) old.memory.told → IsRegistered (registration_of shelf row) old new
  registered_so session minds stands once used low put = record {
    toolkit_is = λ i. let each : ToolkitState = record { rows = rows_with i; session = session i; minds = minds i } in each;
    next = ap (λ (t : Loaded). t.next) table;
    stands = stands;
    tells = told_with;
    commits = once;
    writes = put ∙ entry_written shelf row used low old.memory.told ∙ one_written (AddRow shelf (entry_of (registration_of shelf row))) old.memory.told;
  }

-- a fault stopped it
pub registered_not : {X : Type 0} (old new : Scene) (shelf : ℕ) (row : Row) (r : Result X StoreFault) → IsErr r → new.memory.table ≡ old.memory.table
    → (held new.memory ≡ held old.memory) ⊎ (held new.memory ≡ option_map (with_row_installed (registration_of shelf row)) (held old.memory)) → new.memory.commits ≡ old.memory.commits → row.used ≡ true → row.events < 4096
    → (new.memory.told ≡ old.memory.told) ⊎ (new.memory.told ≡ option_map (written (AddRow shelf row)) old.memory.told) → Registers (registration_of shelf row) old new r
registered_not old new shelf row (Ok result) err stays stands none used low put = cc err
registered_not old new shelf row (Err fault) err stays stands none used low put = record {
  stays = stays;
  stands = stands;
  commits = none;
  writes = stops_first (AddRow shelf (entry_of (registration_of shelf row))) [] old.memory new.memory
      (⊎_elim {C = (new.memory.told ≡ old.memory.told) ⊎ (new.memory.told ≡ option_map (written (AddRow shelf (entry_of (registration_of shelf row)))) old.memory.told)} inl (λ after. inr (after ∙ entry_written shelf row used low old.memory.told)) put) none;
}

-- ---- what a card comes to

module _ (row : Registration) (old : Scene) (tells : Tells old) where
  step : Passed
  step = registering row (toolkit old)

  abbrev pub outcome : ToolkitOutcome
  outcome = record { body = []; passed = installed row (toolkit old); next_sequence = old.memory.table.next + 1 }

  -- a state with the row, in the words of what a card comes to
  with_it : (state : Persistent) → IsTold old.memory.table state → with_row_installed row state ≡ with_rows state (old.memory.table.next + 1) (with_row (rows_of old.memory.table) row)
  with_it state told =
      ap (λ (r : List Registration). with_rows state (state.next_sequence + 1) r) (installs_row state row ∙ ap (λ (r : List Registration). with_row r row) told.rows)
      ∙ ap (λ (n : ℕ). with_rows state (n + 1) (with_row (rows_of old.memory.table) row)) told.next

  passed_is : passed_rows outcome.passed.log ≡ with_row (rows_of old.memory.table) row ∷ passed_rows (driven step.state).log
  unfolding installed step
  passed_is = refl

  log_then : outcome.passed.log ≡ (registering row (toolkit old)).log ++ (driven (registering row (toolkit old)).state).log
  unfolding installed
  log_then = refl

  first_at : (state : Persistent) → state_at outcome 1 state ≡ with_rows state (old.memory.table.next + 1) (with_row (rows_of old.memory.table) row)
  first_at state = ap (λ (p : List (List Registration)). slice_index_or (state ∷ map (with_rows state (old.memory.table.next + 1)) p) 1 state) passed_is

  same_held : (stood : Option Persistent) → stood ≡ option_map (state_at outcome 0) stood
  same_held None = refl
  same_held (Some state) = refl

  one_held : (stood : Option Persistent) → ((state : Persistent) → stood ≡ Some state → IsTold old.memory.table state) → option_map (with_row_installed row) stood ≡ option_map (state_at outcome 1) stood
  one_held None told = refl
  one_held (Some state) told = ap (λ (s : Persistent). Some s) (with_it state (told state refl) ∙ sym (first_at state))

  -- a fault stopped the commit
  pub not_installed : (new : Scene) → IsNotRegistered row old new → IsToolkitCutShort outcome old new
  not_installed new stopped = record {
    count = 0;
    one_more = subst (λ (p : List (List Registration)). 0 < length p) (sym passed_is) (omega arith);
    rows_are = ap rows_of stopped.stays;
    stands = ⊎_elim {C = ((held new.memory) ≡ option_map (state_at outcome 0) (held old.memory)) ⊎ ((held new.memory) ≡ option_map (state_at outcome 1) (held old.memory))}
        (λ before. inl (before ∙ same_held (held old.memory))) (λ behind. inr (behind ∙ one_held (held old.memory) tells)) stopped.stands;
    commits = stopped.commits;
    writes = subst (λ (log : List Happening). IsPartlyWritten log old.memory new.memory) (sym log_then)
        (partly_first (registering row (toolkit old)).log (driven (registering row (toolkit old)).state).log old.memory new.memory stopped.writes);
  }

  module _ (mid : Scene) (is : IsRegistered row old mid) where
    -- the end of the command, from there
    abbrev ending : ToolkitOutcome
    ending = record { body = []; passed = driven (toolkit mid); next_sequence = mid.memory.table.next }

    mid_is : toolkit mid ≡ step.state
    unfolding step
    mid_is = is.toolkit_is

    log_is : passed_rows outcome.passed.log ≡ with_row (rows_of old.memory.table) row ∷ passed_rows ending.passed.log
    log_is = passed_is ∙ ap (λ (s : ToolkitState). with_row (rows_of old.memory.table) row ∷ passed_rows (driven s).log) (sym mid_is)

    state_is : outcome.passed.state ≡ ending.passed.state
    unfolding installed step
    state_is = ap (λ (s : ToolkitState). (driven s).state) (sym mid_is)

    mid_rows : rows_of mid.memory.table ≡ with_row (rows_of old.memory.table) row
    mid_rows = ap (λ (s : ToolkitState). s.rows) is.toolkit_is

    states_are : (state : Persistent) → IsTold old.memory.table state
        → map (with_rows state (old.memory.table.next + 1)) (passed_rows outcome.passed.log) ≡ with_row_installed row state ∷ map (with_rows (with_row_installed row state) ending.next_sequence) (passed_rows ending.passed.log)
    states_are state told =
        ap (map (with_rows state (old.memory.table.next + 1))) log_is
        ∙ ap (λ (s : Persistent). s ∷ map (with_rows state (old.memory.table.next + 1)) (passed_rows ending.passed.log)) (sym (with_it state told))
        ∙ ap (λ (n : ℕ). with_row_installed row state ∷ map (with_rows state n) (passed_rows ending.passed.log)) (sym is.next)

    last_same : (state : Persistent) → IsTold old.memory.table state → last_state outcome state ≡ last_state ending (with_row_installed row state)
    last_same state told = ap (last_of state) (states_are state told)

    at_same : (state : Persistent) (count : ℕ) → IsTold old.memory.table state → count < length (with_row_installed row state ∷ map (with_rows (with_row_installed row state) ending.next_sequence) (passed_rows ending.passed.log))
        → state_at outcome (count + 1) state ≡ state_at ending count (with_row_installed row state)
    at_same state count told low =
        let one_more : count + 1 ≡ suc count = omega arith in
        ap (λ (n : ℕ). state_at outcome n state) one_more ∙ ap (λ (states : List Persistent). slice_index_or states count state) (states_are state told)
        ∙ other_default (with_row_installed row state ∷ map (with_rows (with_row_installed row state) ending.next_sequence) (passed_rows ending.passed.log)) count state (with_row_installed row state) low
      where
        other_default : {X : Type 0} (xs : List X) (k : ℕ) (a b : X) → k < length xs → slice_index_or xs k a ≡ slice_index_or xs k b
        other_default [] k a b low = absurd (omega (arith, low))
        other_default (x ∷ xs) zero a b low = refl
        other_default (x ∷ xs) (suc k) a b low = other_default xs k a b (omega (arith, low))

    -- the commit of the row, and those of the ending
    then_counts : (last : Memory) → Counts (passed_rows ending.passed.log) mid.memory last → Counts (passed_rows outcome.passed.log) old.memory last
    then_counts last rest =
        subst (λ (passed : List (List Registration)). Counts passed old.memory last) (sym log_is)
        (counts_then (with_row (rows_of old.memory.table) row ∷ []) (passed_rows ending.passed.log) old.memory mid.memory last (counts_one (with_row (rows_of old.memory.table) row) old.memory mid.memory is.commits) rest)

    held_last : (stood middle later : Option Persistent) → ((state : Persistent) → stood ≡ Some state → IsTold old.memory.table state) → middle ≡ option_map (with_row_installed row) stood → later ≡ option_map (last_state ending) middle
        → later ≡ option_map (last_state outcome) stood
    held_last None middle later told first then = then ∙ ap (option_map (last_state ending)) first
    held_last (Some state) middle later told first then = then ∙ ap (option_map (last_state ending)) first ∙ ap (λ (s : Persistent). Some s) (sym (last_same state (told state refl)))

    done_installed : (new : Scene) → HasCome ending mid new → HasCome outcome old new
    done_installed new comes = record {
      toolkit_is = comes.toolkit_is ∙ sym state_is;
      next = comes.next ∙ is.next;
      stands = held_last (held old.memory) (held mid.memory) (held new.memory) tells is.stands comes.stands;
      tells = λ state told. subst (IsTold new.memory.table) (sym (last_same state told)) (comes.tells (with_row_installed row state) (is.tells state told));
      last_is = ap (last_or (Some (rows_of old.memory.table))) log_is ∙ sym (ap (λ (r : List Registration). last_or (Some r) (passed_rows ending.passed.log)) mid_rows) ∙ comes.last_is ∙ sym (ap (λ (s : ToolkitState). Some s.rows) state_is);
      counts = then_counts new.memory comes.counts;
      writes = subst (λ (log : List Happening). IsWritten log old.memory new.memory) (sym log_then)
          (writes_then (registering row (toolkit old)).log (driven (registering row (toolkit old)).state).log old.memory mid.memory new.memory is.writes
          (subst (λ (s : ToolkitState). IsWritten (driven s).log mid.memory new.memory) is.toolkit_is comes.writes));
    }

    held_at : (stood middle later : Option Persistent) (count : ℕ) → ((state : Persistent) → stood ≡ Some state → IsTold old.memory.table state)
        → ((state : Persistent) → count < length (with_row_installed row state ∷ map (with_rows (with_row_installed row state) ending.next_sequence) (passed_rows ending.passed.log)))
        → middle ≡ option_map (with_row_installed row) stood → later ≡ option_map (state_at ending count) middle → later ≡ option_map (state_at outcome (count + 1)) stood
    held_at None middle later count told low first then = then ∙ ap (option_map (state_at ending count)) first
    held_at (Some state) middle later count told low first then = then ∙ ap (option_map (state_at ending count)) first ∙ ap (λ (s : Persistent). Some s) (sym (at_same state count (told state refl) (low state)))

    stop_installed : (new : Scene) → IsToolkitCutShort ending mid new → IsToolkitCutShort outcome old new
    stop_installed new short =
        let many : length (passed_rows outcome.passed.log) ≡ suc (length (passed_rows ending.passed.log)) = ap length log_is in
        let long : (state : Persistent) → length (map (with_rows (with_row_installed row state) ending.next_sequence) (passed_rows ending.passed.log)) ≡ length (passed_rows ending.passed.log) =
        λ state. length-map (passed_rows ending.passed.log) (with_rows (with_row_installed row state) ending.next_sequence) in
        let one : suc short.count ≡ short.count + 1 = omega arith in
        record {
          count = short.count + 1;
          one_more = omega (arith, short.one_more, many);
          rows_are = short.rows_are ∙ ap (λ (r : List Registration). slice_index_or (r ∷ passed_rows ending.passed.log) short.count []) mid_rows ∙ rows_later short.count;
          stands = ⊎_elim {C = ((held new.memory) ≡ option_map (state_at outcome (short.count + 1)) (held old.memory)) ⊎ ((held new.memory) ≡ option_map (state_at outcome (short.count + 1 + 1)) (held old.memory))}
              (λ before. inl (held_at (held old.memory) (held mid.memory) (held new.memory) short.count tells (λ state. omega (arith, short.one_more, long state)) is.stands before))
              (λ behind. inr (held_at (held old.memory) (held mid.memory) (held new.memory) (short.count + 1) tells (λ state. omega (arith, short.one_more, long state)) is.stands behind))
              short.stands;
          commits = short.commits ∙ ap (raised_by short.count) is.commits ∙ ap (λ (n : ℕ). raised_by n old.memory.commits) one;
          writes = subst (λ (log : List Happening). IsPartlyWritten log old.memory new.memory) (sym log_then)
              (partly_then (registering row (toolkit old)).log (driven (registering row (toolkit old)).state).log old.memory mid.memory new.memory is.writes is.commits
              (subst (λ (s : ToolkitState). IsPartlyWritten (driven s).log mid.memory new.memory) is.toolkit_is short.writes));
        }
      where
        rows_later : (count : ℕ) → slice_index_or (with_row (rows_of old.memory.table) row ∷ passed_rows ending.passed.log) count [] ≡ slice_index_or (rows_of old.memory.table ∷ passed_rows outcome.passed.log) (count + 1) []
        rows_later count =
            let one_more : count + 1 ≡ suc count = omega arith in
            ap (λ (p : List (List Registration)). slice_index_or p count []) (sym log_is) ∙ sym (ap (λ (n : ℕ). slice_index_or (rows_of old.memory.table ∷ passed_rows outcome.passed.log) n []) one_more)

    pub then_installed : {X : Type 0} (new : Scene) (r : Result X StoreFault) → Tells mid → new.memory.table ≡ record mid.memory.table { rows = new.memory.table.rows } → MovesTo (driven (toolkit mid)) mid new r → Comes outcome old new r
    then_installed {X} new (Ok result) told table moves = done_installed new (moves_come ending mid new refl told {X = X} (Ok result) table moves)
    then_installed {X} new (Err fault) told table moves = stop_installed new (moves_come ending mid new refl told {X = X} (Err fault) table moves)

-- the row that comes in is there
pub with_row_has : (rows : List Registration) (row : Registration) → Contains (with_row rows row) row
with_row_has rows row =
    Contains-append_left (filter (λ each. nat_lt each.shelf row.shelf) rows ++ row ∷ []) (filter (λ each. nat_lt row.shelf each.shelf) rows) row
    (Contains-append_right (filter (λ each. nat_lt each.shelf row.shelf) rows) (row ∷ []) row (0, omega arith, refl))
