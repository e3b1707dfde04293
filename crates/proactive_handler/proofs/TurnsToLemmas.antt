-- The run of an applet begins with a turn of its own, and so does what came to pass of it before a fault.
use Rattle.std.proofs.Common.{◌≡◌, refl, sym, ap, ◌∙◌, subst, ℕ, zero, suc, Bool, ◌<◌, List, [], ◌∷◌, ◌++◌, length, Option, Some, arith, ◌≢◌, is_some, Result, Ok, Err}
use Rattle.std.proofs.lemmas.List.Elements.{All-head}
use Rattle.uicc_types.specs.Counts.{raised_by}
use Rattle.store_form.specs.declared.store.StoreFault.{StoreFault}
use Rattle.card_state.specs.Changes.{Change}
use Rattle.card_state.specs.Persistent.{Registration}
use Rattle.applet_trait.specs.declared.stimuli.Stimulus.{Stimulus}
use Rattle.applet_trait.specs.Minds.{AppletState}
use Rattle.applet_trait.specs.Turns.{act}
use Rattle.toolkit_model.specs.Passing.{ToolkitState, ShelfTurn, Happening, Woke, Fetched, Responded, Given, Turned, Committed, turns, passed_rows}
use Rattle.toolkit_model.specs.Running.{Setting, Works, carried, admitted, committed, going_on, run_on, setting_of, works_of, mind_on, run_of_mind, run_of_row}
use Rattle.proactive_handler.specs.Boxes.{IsSameBox}
use Rattle.proactive_handler.specs.Reached.{HasNoTurn, TurnsTo}
use Rattle.proactive_handler.specs.Steps.{Scene, toolkit, MovesTo}

-- ---- where the commit of a fault stands in a log

record Parts (log : List Happening) (place : ℕ) : Type 0 where
  reached : List Happening
  change : Change
  rows : List Registration
  rest : List Happening
  split : log ≡ reached ++ Committed change rows ∷ rest
  long : length (passed_rows reached) ≡ place

behind_one : (happening : Happening) (log : List Happening) (place : ℕ) → ((reached : List Happening) → passed_rows (happening ∷ reached) ≡ passed_rows reached) → Parts log place → Parts (happening ∷ log) place
behind_one happening log place same parts = record {
  reached = happening ∷ parts.reached;
  change = parts.change;
  rows = parts.rows;
  rest = parts.rest;
  split = ap (λ (later : List Happening). happening ∷ later) parts.split;
  long = ap length (same parts.reached) ∙ parts.long;
}

parts_of : (log : List Happening) (place : ℕ) → place < length (passed_rows log) → Parts log place
parts_of [] place low = absurd (omega (arith, low))
parts_of (Committed change rows ∷ log) zero low = record { reached = []; change = change; rows = rows; rest = log; split = refl; long = refl }
parts_of (Committed change rows ∷ log) (suc place) low =
    let parts = parts_of log place (omega (arith, low)) in record {
      reached = Committed change rows ∷ parts.reached;
      change = parts.change;
      rows = parts.rows;
      rest = parts.rest;
      split = ap (λ (later : List Happening). Committed change rows ∷ later) parts.split;
      long = ap (λ (n : ℕ). suc n) parts.long;
    }
parts_of (Woke ∷ log) place low = behind_one Woke log place (λ reached. refl) (parts_of log place low)
parts_of (Fetched out ∷ log) place low = behind_one (Fetched out) log place (λ reached. refl) (parts_of log place low)
parts_of (Responded out reply ∷ log) place low = behind_one (Responded out reply) log place (λ reached. refl) (parts_of log place low)
parts_of (Given trigger ∷ log) place low = behind_one (Given trigger) log place (λ reached. refl) (parts_of log place low)
parts_of (Turned turn ∷ log) place low = behind_one (Turned turn) log place (λ reached. refl) (parts_of log place low)

-- ---- it begins with a turn of this applet

record Begins (shelf : ℕ) (log : List Happening) : Type 0 where
  turn : ShelfTurn
  rest : List Happening
  is : log ≡ Turned turn ∷ rest
  shelf_is : turn.shelf ≡ shelf

run_begins : (fuel : ℕ) (at : Setting) (stimulus : Stimulus) (works : Works) → Begins at.shelf (run_on (suc fuel) at stimulus works).log
unfolding run_on
run_begins fuel at stimulus works =
    let made = act works.mind stimulus in
    let turned : Works = record works { mind = made.next } in
    let done = carried at made.does turned in
    let sent = admitted at turned.timers made.does in record {
      turn = record { shelf = at.shelf; stimulus = stimulus; act = made.does; is_admitted = is_some sent };
      rest = committed at made.does done ++ (going_on done.works sent (run_on fuel at) done.tells).log;
      is = refl;
      shelf_is = refl;
    }

row_begins : (shelf : ℕ) (stimulus : Stimulus) (is_resumed : Bool) (state : ToolkitState) (mind : AppletState) → mind_on state.minds shelf ≡ Some mind → Begins shelf (run_of_row shelf stimulus is_resumed state).log
unfolding run_of_row
row_begins shelf stimulus is_resumed state mind is =
    subst (λ (o : Option AppletState). Begins shelf (run_of_mind shelf stimulus is_resumed state o).log) (sym is) (run_begins 31 (setting_of shelf stimulus state) stimulus (works_of mind state))

-- an applet without a turn in it is another one
other_turn : (shelf other : ℕ) (log : List Happening) → Begins shelf log → HasNoTurn other log → shelf ≢ other
other_turn shelf other log begins none same =
    All-head (λ (turn : ShelfTurn). turn.shelf ≢ other) begins.turn (turns begins.rest) (subst (HasNoTurn other) begins.is none) (begins.shelf_is ∙ same)

-- what is before a commit begins as the whole
reached_begins : (shelf : ℕ) (log reached rest : List Happening) (change : Change) (rows : List Registration) → log ≡ reached ++ Committed change rows ∷ rest → Begins shelf log → Begins shelf reached
reached_begins shelf log [] rest change rows split begins = cc (split, begins.is)
reached_begins shelf log (happening ∷ reached) rest change rows split begins = record { turn = begins.turn; rest = reached; is = ap (λ (h : Happening). h ∷ reached) (cc (split, begins.is)); shelf_is = begins.shelf_is }

-- the run leaves all other boxes as they were
pub run_turns : {X B : Type 0} (shelf : ℕ) (stimulus : Stimulus) (is_resumed : Bool) (old new : Scene) (cast left : List (Option B)) (mind : AppletState) → mind_on old.minds shelf ≡ Some mind → ((other : ℕ) → shelf ≢ other → IsSameBox other cast left)
    → (r : Result X StoreFault) → MovesTo (run_of_row shelf stimulus is_resumed (toolkit old)) old new r → TurnsTo (run_of_row shelf stimulus is_resumed (toolkit old)) old new cast left r
run_turns shelf stimulus is_resumed old new cast left mind is same (Ok result) moves =
    λ other none. same other (other_turn shelf other (run_of_row shelf stimulus is_resumed (toolkit old)).log (row_begins shelf stimulus is_resumed (toolkit old) mind is) none)
run_turns shelf stimulus is_resumed old new cast left mind is same (Err fault) stop =
    let log = (run_of_row shelf stimulus is_resumed (toolkit old)).log in
    let parts = parts_of log stop.rows.place (omega (arith, stop.rows.one_more)) in
    let begins = reached_begins shelf log parts.reached parts.rest parts.change parts.rows parts.split (row_begins shelf stimulus is_resumed (toolkit old) mind is) in record {
      reached = parts.reached;
      change = parts.change;
      rows = parts.rows;
      rest = parts.rest;
      split = parts.split;
      commits = stop.rows.commits ∙ ap (λ (n : ℕ). raised_by n old.memory.commits) (sym parts.long);
      untold = λ other none. same other (other_turn shelf other parts.reached begins none);
    }
