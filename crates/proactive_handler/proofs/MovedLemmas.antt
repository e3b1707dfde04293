-- What came of a step, one thing at a time; and steps that commit nothing.
use Rattle.std.proofs.Common.{◌≡◌, refl, sym, ap, ◌∙◌, subst, ℕ, zero, suc, set, ◌<◌, List, [], ◌∷◌, ◌++◌, map, Option, Some, None, length, get_or, slice_index_or, filter_map, option_map, OnOk, IfOk, Result, Ok, Err}
use Rattle.std.specs.Option.{option_or}
use Rattle.std.specs.List.{last_or}
use Rattle.std.proofs.lemmas.List.{map-set, get_or-map}
use Rattle.std.proofs.lemmas.List.Elements.{filter_map-append}
use Rattle.uicc_types.specs.Counts.{raised_by}
use Rattle.store_form.specs.declared.store.StoreFault.{StoreFault}
use Rattle.card_state.specs.declared.entries.Loaded.{Loaded}
use Rattle.card_state.specs.Memory.{Memory, held}
use Rattle.card_state.specs.Persistent.{Registration, Persistent}
use Rattle.card_state.specs.Standing.{standing, Agrees}
use Rattle.card_state.specs.States.{rows_of}
use Rattle.card_commits.specs.Laws.{TablesTellStates}
use Rattle.applet_trait.specs.Minds.{AppletState, minds_of}
use Rattle.toolkit_model.specs.Passing.{Happening, Passed, noting, ShelfTurn, turn_in, turns, passed_rows}
use Rattle.toolkit_model.specs.Commands.{answer_in, last_answer}
use Rattle.proactive_handler.specs.Acts.{with_these_rows}
use Rattle.proactive_handler.specs.Counting.{Counts}
use Rattle.proactive_handler.proofs.CountingLemmas.{counts_none}
use Rattle.proactive_handler.proofs.WrittenLemmas.{writes_none, writes_then, partly_then}
use Rattle.proactive_handler.specs.Written.{IsWritten}
use Rattle.proactive_handler.specs.Runs.{StopsAt, StopsIn}
use Rattle.proactive_handler.specs.Steps.{Scene, toolkit, IsDone, MovesTo}
use Rattle.proactive_handler.specs.Boxes.{kinds_of}
use Rattle.proactive_handler.proofs.StopsAtLemmas.{last_append, passed_append}
use Rattle.proactive_handler.specs.Moved.{HasRowsOf}

module _ {X : Type 0} (passed : Passed) (old new : Scene) where
  pub on_done : (r : Result X StoreFault) (P : Type 0) → MovesTo passed old new r → (IsDone passed old new → P) → OnOk r P
  on_done (Ok result) P moves then_so = then_so moves
  on_done (Err fault) P moves then_so = cc

  pub if_done : (r : Result X StoreFault) (P : X → Type 0) → MovesTo passed old new r → (IsDone passed old new → (x : X) → P x) → IfOk r P
  if_done (Ok result) P moves then_so = then_so moves result
  if_done (Err fault) P moves then_so = cc

-- ---- the state that a store stands for has the rows of its table

pub has_rows : TablesTellStates → (mark : ℕ) (told : Option (List ℕ)) (table : Loaded) → Agrees mark told table → HasRowsOf (standing mark told) (rows_of table)
has_rows tell mark told table agrees = λ state is. (tell mark told table state agrees is).rows

pub stands_still : (stood : Option Persistent) (rows : List Registration) → HasRowsOf stood rows → stood ≡ option_map (with_these_rows rows) stood
stands_still None rows has = refl
stands_still (Some state) rows has = ap (λ (r : List Registration). Some (with_these_rows r state)) (has state refl)

-- ---- a step that commits nothing

pub still_done : (passed : Passed) (old new : Scene) → HasRowsOf (held old.memory) (rows_of old.memory.table) → passed_rows passed.log ≡ [] → passed.state.rows ≡ rows_of old.memory.table → toolkit new ≡ passed.state → new.memory ≡ old.memory → IsDone passed old new
still_done passed old new has nothing rows state same = record {
  state_is = state;
  stands = ap (λ (m : Memory). held m) same ∙ stands_still (held old.memory) (rows_of old.memory.table) has ∙ ap (λ (r : List Registration). option_map (with_these_rows r) (held old.memory)) (sym rows);
  last_is = ap (last_or (Some (rows_of old.memory.table))) nothing ∙ ap (λ (r : List Registration). Some r) (sym rows);
  counts = subst (λ (p : List (List Registration)). Counts p old.memory new.memory) (sym nothing) (counts_none old.memory new.memory same);
  writes = writes_none passed.log old.memory new.memory nothing same;
}

-- ---- the last answer to call control

or_some : {X : Type 0} (o p : Option X) (x : X) → option_or (option_or o (Some x)) p ≡ option_or o (Some x)
or_some None p x = refl
or_some (Some y) p x = refl

pub last_is_or : {X : Type 0} (xs : List X) (o : Option X) → last_or o xs ≡ option_or (last_or None xs) o
last_is_or {X} [] o = refl
last_is_or {X} (x ∷ xs) o =
    last_is_or xs (Some x) ∙ sym (or_some (last_or None xs) o x) ∙ ap (λ (later : Option X). option_or later o) (sym (last_is_or xs (Some x)))

pub answer_both : (first second : List Happening) → last_answer (first ++ second) ≡ option_or (last_answer second) (last_answer first)
answer_both first second =
    ap (λ (all : List ShelfTurn). last_or None (filter_map answer_in all)) (filter_map-append turn_in first second)
    ∙ ap (last_or None) (filter_map-append answer_in (turns first) (turns second))
    ∙ last_append None (filter_map answer_in (turns first)) (filter_map answer_in (turns second))
    ∙ last_is_or (filter_map answer_in (turns second)) (last_answer first)

-- ---- boxes

pub kinds_stay : (minds : List (Option AppletState)) (shelf : ℕ) (mind new : AppletState) → slice_index_or minds shelf None ≡ Some mind → new.kind ≡ mind.kind
    → map (option_map (λ (m : AppletState). m.kind)) (set minds shelf (Some new)) ≡ map (option_map (λ (m : AppletState). m.kind)) minds
kinds_stay [] shelf mind new is same = refl
kinds_stay (first ∷ others) zero mind new is same =
    ap (λ (kind : Option ℕ). kind ∷ map (option_map (λ (m : AppletState). m.kind)) others) (ap (λ (k : ℕ). Some k) same ∙ sym (ap (option_map (λ (m : AppletState). m.kind)) is))
kinds_stay (first ∷ others) (suc shelf) mind new is same =
    ap (λ (kinds : List (Option ℕ)). option_map (λ (m : AppletState). m.kind) first ∷ kinds) (kinds_stay others shelf mind new is same)

module _ {B : Type 0} (mind : B → AppletState) (boxes : List (Option B)) (place shelf : ℕ) (place_is : place ≡ shelf) (low : place < length boxes) (box : Option B) where
  in_place : (found : Option B) → get_or boxes place box ≡ found → slice_index_or (minds_of mind boxes) shelf None ≡ option_map mind found
  in_place found is =
      ap (λ (n : ℕ). slice_index_or (minds_of mind boxes) n None) (sym place_is) ∙ get_or-map (option_map mind) boxes place box None low ∙ ap (option_map mind) is

  pub mind_there : (applet : B) → get_or boxes place box ≡ Some applet → slice_index_or (minds_of mind boxes) shelf None ≡ Some (mind applet)
  mind_there applet is = in_place (Some applet) is

  pub none_there : get_or boxes place box ≡ None → slice_index_or (minds_of mind boxes) shelf None ≡ None
  none_there is = in_place None is

  pub put_back : (applet : B) → set (minds_of mind boxes) shelf (Some (mind applet)) ≡ minds_of mind (set boxes place (Some applet))
  put_back applet = ap (λ (n : ℕ). set (minds_of mind boxes) n (Some (mind applet))) (sym place_is) ∙ sym (map-set (option_map mind) boxes place (Some applet))

  pub same_kinds : (old new : B) → get_or boxes place box ≡ Some old → (mind new).kind ≡ (mind old).kind → kinds_of (minds_of mind (set boxes place (Some new))) ≡ kinds_of (minds_of mind boxes)
  same_kinds old new is kind =
      ap kinds_of (sym (put_back new)) ∙ kinds_stay (minds_of mind boxes) shelf (mind old) (mind new) (mind_there old is) kind

-- ---- steps that begin elsewhere, and what is noted before them

pub since_moves : {X : Type 0} (passed : Passed) (old early new : Scene) (r : Result X StoreFault) → early.memory ≡ old.memory → MovesTo passed early new r → MovesTo passed old new r
since_moves passed old early new (Ok result) same done = record {
  state_is = done.state_is;
  stands = done.stands ∙ ap (λ (m : Memory). option_map (with_these_rows passed.state.rows) (held m)) same;
  last_is = ap (λ (m : Memory). last_or (Some (rows_of m.table)) (passed_rows passed.log)) (sym same) ∙ done.last_is;
  counts = subst (λ (m : Memory). Counts (passed_rows passed.log) m new.memory) same done.counts;
  writes = subst (λ (m : Memory). IsWritten passed.log m new.memory) same done.writes;
}
since_moves passed old early new (Err fault) same stop = subst (λ (m : Memory). StopsIn passed.log m new.memory) same stop

pub noted_moves : {X : Type 0} (log : List Happening) (passed : Passed) (old new : Scene) (r : Result X StoreFault) → passed_rows log ≡ [] → MovesTo passed old new r → MovesTo (noting log passed) old new r
noted_moves log passed old new (Ok result) none done =
    let rows = passed_append log passed.log ∙ ap (λ (rows : List (List Registration)). rows ++ passed_rows passed.log) none in record {
      state_is = done.state_is;
      stands = done.stands;
      last_is = ap (last_or (Some (rows_of old.memory.table))) rows ∙ done.last_is;
      counts = subst (λ (rows : List (List Registration)). Counts rows old.memory new.memory) (sym rows) done.counts;
      writes = writes_then log passed.log old.memory old.memory new.memory (writes_none log old.memory old.memory none refl) done.writes;
    }
noted_moves log passed old new (Err fault) none stop = record {
  rows = subst (λ (rows : List (List Registration)). StopsAt (rows_of old.memory.table ∷ rows) old.memory new.memory)
      (sym (passed_append log passed.log ∙ ap (λ (rows : List (List Registration)). rows ++ passed_rows passed.log) none)) stop.rows;
  writes = partly_then log passed.log old.memory old.memory new.memory (writes_none log old.memory old.memory none refl)
      (ap (λ (rows : List (List Registration)). raised_by (length rows) old.memory.commits) (sym none)) stop.writes;
}
