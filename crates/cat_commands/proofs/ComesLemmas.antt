-- What a step of the toolkit over a card's memory is to a card, whatever card it may be.
use Rattle.std.proofs.Common.{◌≡◌, refl, sym, ap, ◌∙◌, subst, ⊎_elim, inl, inr, ℕ, zero, suc, ◌+◌, ◌<◌, List, [], ◌∷◌, map, Option, Some, None, arith, ◌⊎◌, length, slice_index_or, option_map, Result, Ok, Err}
use Rattle.std.specs.List.{last_or}
use Rattle.std.proofs.lemmas.List.{get_or-map}
use Rattle.store_form.specs.declared.store.StoreFault.{StoreFault}
use Rattle.card_state.specs.declared.entries.Row.{Row}
use Rattle.card_state.specs.declared.entries.Loaded.{Loaded}
use Rattle.card_state.specs.Memory.{held}
use Rattle.card_state.specs.Persistent.{Registration, Persistent}
use Rattle.card_state.specs.States.{rows_of, pins_of}
use Rattle.file_model.specs.Files.{descriptors_of, descriptors_in}
use Rattle.file_model.specs.Outcomes.{last_of}
use Rattle.card_commits.specs.Laws.{IsTold}
use Rattle.toolkit_model.specs.Passing.{ToolkitState, passed_rows}
use Rattle.proactive_handler.specs.Acts.{with_these_rows}
use Rattle.proactive_handler.specs.Runs.{StopsIn}
use Rattle.proactive_handler.specs.Steps.{Scene, IsDone, MovesTo}
use Rattle.card_model.specs.Toolkit.{ToolkitOutcome, with_rows}
use Rattle.cat_commands.specs.Carrying.{state_at, last_state, HasCome, IsToolkitCutShort, Comes}

-- the table of a scene tells of what its store stands for
abbrev pub Tells : Scene → Type 0
Tells now = (state : Persistent) → held now.memory ≡ Some state → IsTold now.memory.table state

-- ---- states with other rows

module _ (state : Persistent) (next : ℕ) where
  last_with : (rows : List Registration) (passed : List (List Registration)) (final : List Registration) → last_or (Some rows) passed ≡ Some final
      → last_of (with_rows state next rows) (map (with_rows state next) passed) ≡ with_rows state next final
  last_with rows [] final is = let same : rows ≡ final = cc is in ap (with_rows state next) same
  last_with rows (later ∷ passed) final is = last_with later passed final is

  module _ (rows : List Registration) (rows_are : state.rows ≡ rows) (next_is : state.next_sequence ≡ next) where
    with_own : with_rows state next rows ≡ state
    with_own = ap (λ (r : List Registration). with_rows state next r) (sym rows_are) ∙ ap (λ (n : ℕ). with_rows state n state.rows) (sym next_is)

    pub last_is : (passed : List (List Registration)) (final : List Registration) → last_or (Some rows) passed ≡ Some final → last_of state (map (with_rows state next) passed) ≡ with_rows state next final
    last_is passed final is =
        subst (λ (s : Persistent). last_of s (map (with_rows state next) passed) ≡ with_rows state next final) with_own (last_with rows passed final is)

    pub these_are : (final : List Registration) → with_these_rows final state ≡ with_rows state next final
    these_are final = ap (λ (n : ℕ). with_rows state n final) next_is

    pub at_is : (passed : List (List Registration)) (count : ℕ) → count < length (rows ∷ passed)
        → slice_index_or (state ∷ map (with_rows state next) passed) count state ≡ with_these_rows (slice_index_or (rows ∷ passed) count []) state
    at_is passed zero low = ap (λ (r : List Registration). with_these_rows r state) rows_are
    at_is passed (suc count) low =
        get_or-map (with_rows state next) passed count [] state (omega (arith, low)) ∙ sym (these_are (slice_index_or passed count []))

-- ---- a table with other rows tells of a state with them

told_again : (old new : Loaded) (all : List Row) (state : Persistent) → new ≡ record old { rows = all } → IsTold old state → IsTold new (with_rows state state.next_sequence (rows_of new))
unfolding descriptors_of descriptors_in pins_of
told_again old new all state is told =
    let so : IsTold (record old { rows = all }) (with_rows state state.next_sequence (rows_of (record old { rows = all }))) =
    record { files = told.files; pins = told.pins; rows = refl; next = told.next; wide = told.wide } in
    subst (λ (t : Loaded). IsTold t (with_rows state state.next_sequence (rows_of t))) (sym is) so

-- ---- a step that makes no row

module _ (outcome : ToolkitOutcome) (old new : Scene) (next_is : outcome.next_sequence ≡ old.memory.table.next) (tells : Tells old) where
  stands_last : (stood later : Option Persistent) → ((state : Persistent) → stood ≡ Some state → IsTold old.memory.table state)
      → last_or (Some (rows_of old.memory.table)) (passed_rows outcome.passed.log) ≡ Some outcome.passed.state.rows
      → later ≡ option_map (with_these_rows outcome.passed.state.rows) stood → later ≡ option_map (last_state outcome) stood
  stands_last None later told last is = is
  stands_last (Some state) later told last is =
      let here : IsTold old.memory.table state = told state refl in
      is ∙ ap (λ (s : Persistent). Some s)
      (these_are state outcome.next_sequence (rows_of old.memory.table) here.rows (here.next ∙ sym next_is) outcome.passed.state.rows
      ∙ sym (last_is state outcome.next_sequence (rows_of old.memory.table) here.rows (here.next ∙ sym next_is) (passed_rows outcome.passed.log) outcome.passed.state.rows last))

  done_comes : new.memory.table ≡ record old.memory.table { rows = new.memory.table.rows } → IsDone outcome.passed old new → HasCome outcome old new
  done_comes table done = record {
    toolkit_is = done.state_is;
    next = ap (λ (t : Loaded). t.next) table ∙ sym next_is;
    stands = stands_last (held old.memory) (held new.memory) tells done.last_is done.stands;
    tells = λ state here.
        let rows_is : rows_of new.memory.table ≡ outcome.passed.state.rows = ap (λ (s : ToolkitState). s.rows) done.state_is in
        let again : IsTold new.memory.table (with_rows state state.next_sequence (rows_of new.memory.table)) =
        told_again old.memory.table new.memory.table new.memory.table.rows state table here in
        let last = last_is state outcome.next_sequence (rows_of old.memory.table) here.rows (here.next ∙ sym next_is) (passed_rows outcome.passed.log) outcome.passed.state.rows done.last_is in
        subst (IsTold new.memory.table)
        (ap (λ (r : List Registration). with_rows state state.next_sequence r) rows_is ∙ ap (λ (n : ℕ). with_rows state n outcome.passed.state.rows) (here.next ∙ sym next_is) ∙ sym last) again;
    last_is = done.last_is;
    counts = done.counts;
    writes = done.writes;
  }

  stands_at : (stood later : Option Persistent) (count : ℕ) → ((state : Persistent) → stood ≡ Some state → IsTold old.memory.table state)
      → count < length (rows_of old.memory.table ∷ passed_rows outcome.passed.log)
      → later ≡ option_map (with_these_rows (slice_index_or (rows_of old.memory.table ∷ passed_rows outcome.passed.log) count [])) stood → later ≡ option_map (state_at outcome count) stood
  stands_at None later count told low is = is
  stands_at (Some state) later count told low is =
      let here : IsTold old.memory.table state = told state refl in
      is ∙ ap (λ (s : Persistent). Some s)
      (sym (at_is state outcome.next_sequence (rows_of old.memory.table) here.rows (here.next ∙ sym next_is) (passed_rows outcome.passed.log) count low))

  pub stop_comes : StopsIn outcome.passed.log old.memory new.memory → IsToolkitCutShort outcome old new
  stop_comes stop = record {
    count = stop.rows.place;
    one_more = omega (arith, stop.rows.one_more);
    rows_are = sym stop.rows.table_is;
    stands = ⊎_elim {C = (held new.memory ≡ option_map (state_at outcome stop.rows.place) (held old.memory)) ⊎ (held new.memory ≡ option_map (state_at outcome (stop.rows.place + 1)) (held old.memory))}
        (λ before. inl (stands_at (held old.memory) (held new.memory) stop.rows.place tells (omega (arith, stop.rows.one_more)) before))
        (λ behind. inr (stands_at (held old.memory) (held new.memory) (stop.rows.place + 1) tells stop.rows.one_more behind))
        stop.rows.stands;
    commits = stop.rows.commits;
    writes = stop.writes;
  }

  pub moves_come : {X : Type 0} (r : Result X StoreFault) → new.memory.table ≡ record old.memory.table { rows = new.memory.table.rows } → MovesTo outcome.passed old new r → Comes outcome old new r
  moves_come (Ok result) table moves = done_comes table moves
  moves_come (Err fault) table moves = stop_comes moves
