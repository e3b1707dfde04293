-- Whose boxes a step leaves as they were, and what of it came to pass before a fault.
use Rattle.std.proofs.Common.{◌≡◌, sym, ap, ◌∙◌, subst, ℕ, List, [], ◌∷◌, ◌++◌, length, ◌≢◌, All, Option, Result, Ok, Err, IsErr, append_assoc}
use Rattle.std.proofs.lemmas.List.Elements.{filter_map-append}
use Rattle.list_laws.proofs.ContainsLemmas.{front_of, back_of}
use Rattle.uicc_types.specs.Counts.{raised_by}
use Rattle.store_form.specs.declared.store.StoreFault.{StoreFault}
use Rattle.card_state.specs.Memory.{Memory}
use Rattle.card_state.specs.Persistent.{Registration}
use Rattle.toolkit_model.specs.Passing.{ToolkitState, ShelfTurn, Happening, Committed, Passed, noting, before, turn_in, turns, passed_rows}
use Rattle.proactive_handler.specs.Boxes.{IsSameBox}
use Rattle.proactive_handler.proofs.CountingLemmas.{raised_then}
use Rattle.proactive_handler.proofs.StopsAtLemmas.{passed_append}
use Rattle.proactive_handler.specs.Steps.{Scene, toolkit, IsDone}
use Rattle.proactive_handler.specs.Reached.{HasNoTurn, StopsBehind, TurnsTo}

-- ---- no turn in one part and in the other

module _ (shelf : ℕ) (first second : List Happening) (none : HasNoTurn shelf (first ++ second)) where
  both : All (λ (turn : ShelfTurn). turn.shelf ≢ shelf) (turns first ++ turns second)
  both = subst (All (λ (turn : ShelfTurn). turn.shelf ≢ shelf)) (filter_map-append turn_in first second) none

  pub no_first : HasNoTurn shelf first
  no_first = front_of (λ (turn : ShelfTurn). turn.shelf ≢ shelf) (turns first) (turns second) both

  pub no_later : HasNoTurn shelf second
  no_later = back_of (λ (turn : ShelfTurn). turn.shelf ≢ shelf) (turns first) (turns second) both

-- ---- one step after the other

module _ {B : Type 0} (first : Passed) (next : ToolkitState → Passed) (old mid new : Scene) (cast between left : List (Option B)) where
  -- a fault stopped the first
  pub first_reached : StopsBehind first.log old mid cast between → StopsBehind (before first next).log old mid cast between
  first_reached stop = record {
    reached = stop.reached;
    change = stop.change;
    rows = stop.rows;
    rest = stop.rest ++ (next first.state).log;
    split = ap (λ (log : List Happening). log ++ (next first.state).log) stop.split ∙ append_assoc stop.reached (Committed stop.change stop.rows ∷ stop.rest) (next first.state).log;
    commits = stop.commits;
    untold = stop.untold;
  }

  module _ (one : IsDone first old mid) (leaves : (shelf : ℕ) → HasNoTurn shelf first.log → IsSameBox shelf cast between) where
    pub both_leave : ((shelf : ℕ) → HasNoTurn shelf (next (toolkit mid)).log → IsSameBox shelf between left) → (shelf : ℕ) → HasNoTurn shelf (before first next).log → IsSameBox shelf cast left
    both_leave later shelf none =
        let so = subst (λ (s : ToolkitState). HasNoTurn shelf (next s).log → IsSameBox shelf between left) one.state_is (later shelf) in
        so (no_later shelf first.log (next first.state).log none) ∙ leaves shelf (no_first shelf first.log (next first.state).log none)

    pub second_reached : StopsBehind (next (toolkit mid)).log mid new between left → StopsBehind (before first next).log old new cast left
    second_reached later =
        let stop : StopsBehind (next first.state).log mid new between left = subst (λ (s : ToolkitState). StopsBehind (next s).log mid new between left) one.state_is later in
        record {
          reached = first.log ++ stop.reached;
          change = stop.change;
          rows = stop.rows;
          rest = stop.rest;
          split = ap (λ (log : List Happening). first.log ++ log) stop.split ∙ sym (append_assoc first.log stop.reached (Committed stop.change stop.rows ∷ stop.rest));
          commits = stop.commits ∙ ap (raised_by (length (passed_rows stop.reached))) one.counts.commits
              ∙ raised_then (passed_rows first.log) (passed_rows stop.reached) old.memory.commits
              ∙ ap (λ (rows : List (List Registration)). raised_by (length rows) old.memory.commits) (sym (passed_append first.log stop.reached));
          untold = λ shelf none. stop.untold shelf (no_later shelf first.log stop.reached none) ∙ leaves shelf (no_first shelf first.log stop.reached none);
        }

    -- first one step, and then what came of the next
    pub then_turns : {X : Type 0} (r : Result X StoreFault) → TurnsTo (next (toolkit mid)) mid new between left r → TurnsTo (before first next) old new cast left r
    then_turns (Ok result) later = both_leave later
    then_turns (Err fault) later = second_reached later

-- the first of two was stopped, by a fault that is passed on
pub first_turns : {X B : Type 0} (first : Passed) (next : ToolkitState → Passed) (old mid : Scene) (cast between : List (Option B)) (r : Result X StoreFault) → IsErr r → StopsBehind first.log old mid cast between → TurnsTo (before first next) old mid cast between r
first_turns first next old mid cast between (Ok x) err stop = cc err
first_turns first next old mid cast between (Err fault) err stop = first_reached first next old mid mid cast between between stop

-- ---- steps that begin elsewhere, and what is noted before them

module _ {X B : Type 0} (cast left : List (Option B)) where
  pub since_turns : (passed : Passed) (old early new : Scene) (r : Result X StoreFault) → early.memory ≡ old.memory → TurnsTo passed early new cast left r → TurnsTo passed old new cast left r
  since_turns passed old early new (Ok result) same leaves = leaves
  since_turns passed old early new (Err fault) same stop = record {
    reached = stop.reached;
    change = stop.change;
    rows = stop.rows;
    rest = stop.rest;
    split = stop.split;
    commits = stop.commits ∙ ap (λ (m : Memory). raised_by (length (passed_rows stop.reached)) m.commits) same;
    untold = stop.untold;
  }

  pub noted_turns : (log : List Happening) (passed : Passed) (old new : Scene) (r : Result X StoreFault) → passed_rows log ≡ [] → TurnsTo passed old new cast left r → TurnsTo (noting log passed) old new cast left r
  noted_turns log passed old new (Ok result) nothing leaves = λ shelf none. leaves shelf (no_later shelf log passed.log none)
  noted_turns log passed old new (Err fault) nothing stop =
      let rows = passed_append log stop.reached ∙ ap (λ (rows : List (List Registration)). rows ++ passed_rows stop.reached) nothing in record {
        reached = log ++ stop.reached;
        change = stop.change;
        rows = stop.rows;
        rest = stop.rest;
        split = ap (λ (after : List Happening). log ++ after) stop.split ∙ sym (append_assoc log stop.reached (Committed stop.change stop.rows ∷ stop.rest));
        commits = stop.commits ∙ ap (λ (passed : List (List Registration)). raised_by (length passed) old.memory.commits) (sym rows);
        untold = λ shelf none. stop.untold shelf (no_later shelf log stop.reached none);
      }
