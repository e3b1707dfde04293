-- One step after the other, and the rows that they pass.
use Rattle.std.proofs.Common.{◌≡◌, refl, sym, ap, ◌∙◌, subst, ⊎_elim, inl, inr, ℕ, suc, ◌+◌, List, [], ◌∷◌, ◌++◌, Option, Some, None, arith, ◌⊎◌, length, slice_index_or, option_map, Result, Ok, Err}
use Rattle.std.specs.List.{last_or}
use Rattle.std.proofs.lemmas.List.{get_or-append-add, get_or_append_left, length-append}
use Rattle.std.proofs.lemmas.List.Elements.{filter_map-append}
use Rattle.uicc_types.specs.Counts.{raised, raised_by}
use Rattle.store_form.specs.declared.store.StoreFault.{StoreFault}
use Rattle.card_state.specs.Memory.{Memory, held}
use Rattle.card_state.specs.Persistent.{Registration, Persistent}
use Rattle.card_state.specs.States.{rows_of}
use Rattle.toolkit_model.specs.Passing.{ToolkitState, Happening, Passed, noting, before, rows_in, passed_rows}
use Rattle.proactive_handler.specs.Acts.{with_these_rows}
use Rattle.proactive_handler.specs.Counting.{Counts}
use Rattle.proactive_handler.specs.Written.{IsPartlyWritten}
use Rattle.proactive_handler.proofs.CountingLemmas.{counts_then}
use Rattle.proactive_handler.specs.Runs.{StopsAt, StopsIn}
use Rattle.proactive_handler.specs.Steps.{Scene, toolkit, IsDone, MovesTo}
use Rattle.proactive_handler.proofs.WrittenLemmas.{writes_then, partly_first, partly_then}

-- ---- the last of a list

pub last_append : {X : Type 0} (o : Option X) (xs ys : List X) → last_or o (xs ++ ys) ≡ last_or (last_or o xs) ys
last_append {X} o [] ys = refl
last_append {X} o (x ∷ xs) ys = last_append (Some x) xs ys

pub passed_append : (first second : List Happening) → passed_rows (first ++ second) ≡ passed_rows first ++ passed_rows second
passed_append first second = filter_map-append rows_in first second

-- ---- states with some rows

-- one change of the rows after the other
pub stands_then : (old mid new : Option Persistent) (rows after : List Registration) → mid ≡ option_map (with_these_rows rows) old → new ≡ option_map (with_these_rows after) mid → new ≡ option_map (with_these_rows after) old
stands_then None mid new rows after first second = second ∙ ap (option_map (with_these_rows after)) first
stands_then (Some state) mid new rows after first second = second ∙ ap (option_map (with_these_rows after)) first

-- ---- where a fault stopped some commits

-- others would have come after
pub stops_before : (passed : List (List Registration)) (old new : Memory) → StopsAt passed old new → (more : List (List Registration)) → StopsAt (passed ++ more) old new
stops_before passed old new stop more =
    let here = get_or_append_left passed more [] stop.place (omega (arith, stop.one_more)) in
    let next = get_or_append_left passed more [] (stop.place + 1) stop.one_more in record {
      place = stop.place;
      one_more = omega (arith, stop.one_more, length-append passed more);
      table_is = here ∙ stop.table_is;
      stands = ⊎_elim {C = (held new ≡ option_map (with_these_rows (slice_index_or (passed ++ more) stop.place [])) (held old)) ⊎ (held new ≡ option_map (with_these_rows (slice_index_or (passed ++ more) (stop.place + 1) [])) (held old))}
          (λ before. inl (before ∙ ap (λ (r : List Registration). option_map (with_these_rows r) (held old)) (sym here)))
          (λ behind. inr (behind ∙ ap (λ (r : List Registration). option_map (with_these_rows r) (held old)) (sym next)))
          stop.stands;
      commits = stop.commits;
    }

-- the memory after one more commit, by its count
abbrev after_one : Memory → Memory
after_one memory = record memory { commits = raised memory.commits }

-- one came before
stops_behind : (passed : List (List Registration)) (rows : List Registration) (old new : Memory) → StopsAt passed (after_one old) new → StopsAt (rows ∷ passed) old new
stops_behind passed rows old new stop =
    let here = get_or-append-add (rows ∷ []) passed stop.place [] in
    let one_more : 1 + stop.place + 1 ≡ 1 + (stop.place + 1) = omega arith in
    let next = ap (λ (n : ℕ). slice_index_or (rows ∷ passed) n []) one_more ∙ get_or-append-add (rows ∷ []) passed (stop.place + 1) [] in
    let one : suc stop.place ≡ 1 + stop.place = omega arith in record {
      place = 1 + stop.place;
      one_more = omega (arith, stop.one_more);
      table_is = here ∙ stop.table_is;
      stands = ⊎_elim {C = (held new ≡ option_map (with_these_rows (slice_index_or (rows ∷ passed) (1 + stop.place) [])) (held old)) ⊎ (held new ≡ option_map (with_these_rows (slice_index_or (rows ∷ passed) (1 + stop.place + 1) [])) (held old))}
          (λ before. inl (before ∙ ap (λ (r : List Registration). option_map (with_these_rows r) (held old)) (sym here)))
          (λ behind. inr (behind ∙ ap (λ (r : List Registration). option_map (with_these_rows r) (held old)) (sym next)))
          stop.stands;
      commits = stop.commits ∙ ap (λ (n : ℕ). raised_by n old.commits) one;
    }

-- the store stood for other rows before
stops_since : (passed : List (List Registration)) (rows : List Registration) (old mid new : Memory) → held mid ≡ option_map (with_these_rows rows) (held old) → mid.commits ≡ old.commits → StopsAt passed mid new → StopsAt passed old new
stops_since passed rows old mid new is counted stop = record {
  place = stop.place;
  one_more = stop.one_more;
  table_is = stop.table_is;
  stands = ⊎_elim {C = (held new ≡ option_map (with_these_rows (slice_index_or passed stop.place [])) (held old)) ⊎ (held new ≡ option_map (with_these_rows (slice_index_or passed (stop.place + 1) [])) (held old))}
      (λ before. inl (stands_then (held old) (held mid) (held new) rows (slice_index_or passed stop.place []) is before))
      (λ behind. inr (stands_then (held old) (held mid) (held new) rows (slice_index_or passed (stop.place + 1) []) is behind))
      stop.stands;
  commits = stop.commits ∙ ap (raised_by stop.place) counted;
}

-- after all commits of one list, in the next
pub stops_later : (first : List (List Registration)) (rows after : List Registration) (more : List (List Registration)) (old mid new : Memory) → last_or (Some rows) first ≡ Some after
    → held mid ≡ option_map (with_these_rows after) (held old) → mid.commits ≡ raised_by (length first) old.commits → StopsAt (after ∷ more) mid new → StopsAt (rows ∷ first ++ more) old new
stops_later [] rows after more old mid new last is counted stop =
    let same : rows ≡ after = cc last in
    subst (λ (r : List Registration). StopsAt (r ∷ more) old new) (sym same) (stops_since (after ∷ more) after old mid new is counted stop)
stops_later (next ∷ first) rows after more old mid new last is counted stop =
    stops_behind (next ∷ first ++ more) rows old new (stops_later first next after more (after_one old) mid new last is counted stop)

-- ---- steps

module _ (first : Passed) (next : ToolkitState → Passed) (old mid new : Scene) where
  rows_both : (second : Passed) → passed_rows (noting first.log second).log ≡ passed_rows first.log ++ passed_rows second.log
  rows_both second = passed_append first.log second.log

  pub both_done : IsDone first old mid → IsDone (next (toolkit mid)) mid new → IsDone (before first next) old new
  both_done one two =
      let second : IsDone (next first.state) mid new = subst (λ (s : ToolkitState). IsDone (next s) mid new) one.state_is two in
      record {
        state_is = second.state_is;
        stands = stands_then (held old.memory) (held mid.memory) (held new.memory) first.state.rows (next first.state).state.rows one.stands second.stands;
        last_is = ap (last_or (Some (rows_of old.memory.table))) (rows_both (next first.state)) ∙ last_append (Some (rows_of old.memory.table)) (passed_rows first.log) (passed_rows (next first.state).log)
            ∙ ap (λ (o : Option (List Registration)). last_or o (passed_rows (next first.state).log)) (one.last_is ∙ sym (ap (λ (s : ToolkitState). Some s.rows) one.state_is))
            ∙ second.last_is;
        counts = subst (λ (rows : List (List Registration)). Counts rows old.memory new.memory) (sym (rows_both (next first.state)))
            (counts_then (passed_rows first.log) (passed_rows (next first.state).log) old.memory mid.memory new.memory one.counts second.counts);
        writes = writes_then first.log (next first.state).log old.memory mid.memory new.memory one.writes second.writes;
      }

  -- a fault stopped the first
  pub first_stops : StopsIn first.log old.memory mid.memory → StopsIn (before first next).log old.memory mid.memory
  first_stops stop = record {
    rows = subst (λ (rows : List (List Registration)). StopsAt (rows_of old.memory.table ∷ rows) old.memory mid.memory) (sym (rows_both (next first.state)))
        (stops_before (rows_of old.memory.table ∷ passed_rows first.log) old.memory mid.memory stop.rows (passed_rows (next first.state).log));
    writes = partly_first first.log (next first.state).log old.memory mid.memory stop.writes;
  }

  -- a fault stopped the second
  pub second_stops : IsDone first old mid → StopsIn (next (toolkit mid)).log mid.memory new.memory
      → StopsIn (before first next).log old.memory new.memory
  second_stops one stop =
      let so : StopsAt (first.state.rows ∷ passed_rows (next first.state).log) mid.memory new.memory =
      subst (λ (s : ToolkitState). StopsAt (s.rows ∷ passed_rows (next s).log) mid.memory new.memory) one.state_is stop.rows in
      let written : IsPartlyWritten (next first.state).log mid.memory new.memory = subst (λ (s : ToolkitState). IsPartlyWritten (next s).log mid.memory new.memory) one.state_is stop.writes in
      record {
        rows = subst (λ (rows : List (List Registration)). StopsAt (rows_of old.memory.table ∷ rows) old.memory new.memory) (sym (rows_both (next first.state)))
            (stops_later (passed_rows first.log) (rows_of old.memory.table) first.state.rows (passed_rows (next first.state).log) old.memory mid.memory new.memory one.last_is one.stands one.counts.commits so);
        writes = partly_then first.log (next first.state).log old.memory mid.memory new.memory one.writes one.counts.commits written;
      }

  -- first one step, and then what came of the next
  pub then_moves : {X : Type 0} (r : Result X StoreFault) → IsDone first old mid → MovesTo (next (toolkit mid)) mid new r → MovesTo (before first next) old new r
  then_moves (Ok result) one two = both_done one two
  then_moves (Err fault) one stop = second_stops one stop
