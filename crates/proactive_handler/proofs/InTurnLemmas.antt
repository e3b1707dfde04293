-- An event for one applet after the other.
use Rattle.std.proofs.Common.{◌≡◌, refl, sym, ap, ◌∙◌, subst, ℕ, Bool, true, false, List, [], ◌∷◌, ◌++◌, map, length, cond, Option, None, arith, ◌≢◌, All, AllPairs, Result, Ok, Err, IsErr}
use Rattle.std.proofs.lemmas.List.Elements.{All-head, All-map, All-tail, All-weaker}
use Rattle.std.specs.Option.{option_or}
use Rattle.list_laws.proofs.AllPairsLemmas.{pairs_head, pairs_tail}
use Rattle.uicc_types.specs.declared.identifiers.Shelf.{Shelf}
use Rattle.store_form.specs.declared.store.StoreFault.{StoreFault}
use Rattle.card_state.specs.declared.entries.Loaded.{Loaded}
use Rattle.card_state.specs.Memory.{held}
use Rattle.card_state.specs.States.{rows_of}
use Rattle.card_commits.specs.Entries.{HasRowOn}
use Rattle.applet_trait.specs.declared.stimuli.Stimulus.TheVariants.{Event}
use Rattle.toolkit_model.specs.Sessions.{SessionState}
use Rattle.toolkit_model.specs.Orderly.{asks}
use Rattle.toolkit_model.specs.Passing.{ToolkitState, Happening, Given, Passed, unmoved, noting, in_turn, passed_rows}
use Rattle.toolkit_model.specs.Running.{run_of_row}
use Rattle.toolkit_model.specs.Commands.{last_answer}
use Rattle.toolkit_model.specs.Driving.{is_idle, with_session, told_if, given_if, trigger_for, told_one, given_one}
use Rattle.proactive_handler.specs.Boxes.{IsSameBox}
use Rattle.proactive_handler.specs.Serving.{HasPlaces, triggered_one}
use Rattle.proactive_handler.specs.Steps.{Scene, toolkit, IsDone, MovesTo}
use Rattle.proactive_handler.specs.Runs.{StopsIn}
use Rattle.proactive_handler.proofs.StopsAtLemmas.{first_stops, second_stops, both_done}
use Rattle.proactive_handler.specs.Reached.{Tells, StopsBehind, TurnsTo, HasNoTurn}
use Rattle.proactive_handler.proofs.ReachedLemmas.{noted_turns, first_reached, second_reached, both_leave}
use Rattle.proactive_handler.specs.Moved.{HasRowsOf}
use Rattle.proactive_handler.proofs.MovedLemmas.{still_done, noted_moves, answer_both}

module _ (code : ℕ) (body : List ℕ) (shelf : ℕ) (state : ToolkitState) where
  abbrev pub noted_first : Bool → List Happening
  noted_first kept = cond kept (Given (trigger_for code body shelf) ∷ []) []

  abbrev pub run : Passed
  run = run_of_row shelf (Event code body) false state

  idle_is : (kept : Bool) → is_idle (asks state.session) shelf ≡ true → triggered_one kept code body shelf state ≡ noting (noted_first kept) run
  unfolding given_one told_one
  idle_is true idle = ap (λ (b : Bool). noting (Given (trigger_for code body shelf) ∷ []) (given_if b (trigger_for code body shelf) state)) idle
  idle_is false idle = ap (λ (b : Bool). told_if b (trigger_for code body shelf) state) idle

  no_rows : (kept : Bool) → passed_rows (noted_first kept) ≡ []
  no_rows true = refl
  no_rows false = refl

  no_answer : (kept : Bool) → last_answer (noting (noted_first kept) run).log ≡ last_answer run.log
  no_answer true = refl
  no_answer false = refl

  pub idle_moves : {X : Type 0} (kept : Bool) (old new : Scene) (r : Result X StoreFault) → is_idle (asks state.session) shelf ≡ true → MovesTo run old new r → MovesTo (triggered_one kept code body shelf state) old new r
  idle_moves kept old new r idle moves = subst (λ (p : Passed). MovesTo p old new r) (sym (idle_is kept idle)) (noted_moves (noted_first kept) run old new r (no_rows kept) moves)

  pub idle_answers : (kept : Bool) (answer : Option Bool) → is_idle (asks state.session) shelf ≡ true → answer ≡ last_answer run.log → answer ≡ last_answer (triggered_one kept code body shelf state).log
  idle_answers kept answer idle is = is ∙ sym (no_answer kept) ∙ sym (ap (λ (p : Passed). last_answer p.log) (idle_is kept idle))

  pub idle_turns : {X B : Type 0} (kept : Bool) (old new : Scene) (cast left : List (Option B)) (r : Result X StoreFault) → is_idle (asks state.session) shelf ≡ true → TurnsTo run old new cast left r → TurnsTo (triggered_one kept code body shelf state) old new cast left r
  idle_turns kept old new cast left r idle leaves =
      subst (λ (p : Passed). TurnsTo p old new cast left r) (sym (idle_is kept idle)) (noted_turns cast left (noted_first kept) run old new r (no_rows kept) leaves)

  -- it waits for an answer
  abbrev pub missed : Bool → SessionState
  missed kept = cond kept (record state.session { late = state.session.late ++ trigger_for code body shelf ∷ [] }) state.session

  busy_is : (kept : Bool) → is_idle (asks state.session) shelf ≡ false → triggered_one kept code body shelf state ≡ record { state = with_session state (missed kept); log = noted_first kept }
  unfolding given_one told_one
  busy_is true busy = ap (λ (b : Bool). noting (Given (trigger_for code body shelf) ∷ []) (given_if b (trigger_for code body shelf) state)) busy
  busy_is false busy = ap (λ (b : Bool). told_if b (trigger_for code body shelf) state) busy

  none_told : (kept : Bool) → last_answer (noted_first kept) ≡ None
  none_told true = refl
  none_told false = refl

  pub busy_done : (kept : Bool) (old new : Scene) → HasRowsOf (held old.memory) (rows_of old.memory.table) → toolkit old ≡ state → is_idle (asks state.session) shelf ≡ false → toolkit new ≡ with_session state (missed kept) → new.memory ≡ old.memory
      → IsDone (triggered_one kept code body shelf state) old new
  busy_done kept old new has is busy after same =
      let so = busy_is kept busy in
      still_done (triggered_one kept code body shelf state) old new has
      (ap (λ (p : Passed). passed_rows p.log) so ∙ no_rows kept) (ap (λ (p : Passed). p.state.rows) so ∙ sym (ap (λ (s : ToolkitState). s.rows) is)) (after ∙ sym (ap (λ (p : Passed). p.state) so)) same

  pub busy_answers : (kept : Bool) → is_idle (asks state.session) shelf ≡ false → None ≡ last_answer (triggered_one kept code body shelf state).log
  busy_answers kept busy = sym (ap (λ (p : Passed). last_answer p.log) (busy_is kept busy) ∙ none_told kept)

-- ---- one after the other

module _ {X : Type 0} (step : X → ToolkitState → Passed) (x : X) (others all : List X) (is : all ≡ x ∷ others) (old mid : Scene) where
  pub turn_stops : {Y : Type 0} (r : Result Y StoreFault) → IsErr r → StopsIn (step x (toolkit old)).log old.memory mid.memory → MovesTo (in_turn step all (toolkit old)) old mid r
  turn_stops (Ok y) err stop = cc err
  turn_stops (Err fault) err stop =
      subst (λ (xs : List X). StopsIn (in_turn step xs (toolkit old)).log old.memory mid.memory) (sym is) (first_stops (step x (toolkit old)) (in_turn step others) old mid mid stop)

  pub turns_stop : {Y : Type 0} (new : Scene) (r : Result Y StoreFault) → IsErr r → IsDone (step x (toolkit old)) old mid → StopsIn (in_turn step others (toolkit mid)).log mid.memory new.memory
      → MovesTo (in_turn step all (toolkit old)) old new r
  turns_stop new (Ok y) err done stop = cc err
  turns_stop new (Err fault) err done stop =
      subst (λ (xs : List X). StopsIn (in_turn step xs (toolkit old)).log old.memory new.memory) (sym is) (second_stops (step x (toolkit old)) (in_turn step others) old mid new done stop)

  pub turns_done : (new : Scene) → IsDone (step x (toolkit old)) old mid → IsDone (in_turn step others (toolkit mid)) mid new → IsDone (in_turn step all (toolkit old)) old new
  turns_done new one two = subst (λ (xs : List X). IsDone (in_turn step xs (toolkit old)) old new) (sym is) (both_done (step x (toolkit old)) (in_turn step others) old mid new one two)

  pub turns_answer : (first later answer : Option Bool) → answer ≡ option_or later first → IsDone (step x (toolkit old)) old mid → first ≡ last_answer (step x (toolkit old)).log → later ≡ last_answer (in_turn step others (toolkit mid)).log
      → answer ≡ last_answer (in_turn step all (toolkit old)).log
  turns_answer first later answer so done first_is later_is =
      let second : later ≡ last_answer (in_turn step others (step x (toolkit old)).state).log = later_is ∙ ap (λ (s : ToolkitState). last_answer (in_turn step others s).log) done.state_is in
      so ∙ ap (λ (o : Option Bool). option_or o first) second ∙ ap (option_or (last_answer (in_turn step others (step x (toolkit old)).state).log)) first_is
      ∙ sym (answer_both (step x (toolkit old)).log (in_turn step others (step x (toolkit old)).state).log) ∙ sym (ap (λ (xs : List X). last_answer (in_turn step xs (toolkit old)).log) is)

-- ---- whose boxes are as they were

module _ {X B : Type 0} (step : X → ToolkitState → Passed) (x : X) (others all : List X) (is : all ≡ x ∷ others) (old mid : Scene) (cast between : List (Option B)) where
  pub turn_leaves : {Y : Type 0} (r : Result Y StoreFault) → IsErr r → StopsBehind (step x (toolkit old)).log old mid cast between → TurnsTo (in_turn step all (toolkit old)) old mid cast between r
  turn_leaves (Ok y) err stop = cc err
  turn_leaves (Err fault) err stop =
      subst (λ (xs : List X). StopsBehind (in_turn step xs (toolkit old)).log old mid cast between) (sym is) (first_reached (step x (toolkit old)) (in_turn step others) old mid mid cast between between stop)

  module _ (new : Scene) (left : List (Option B)) (done : IsDone (step x (toolkit old)) old mid) (leaves : (shelf : ℕ) → HasNoTurn shelf (step x (toolkit old)).log → IsSameBox shelf cast between) where
    pub turns_leave : {Y : Type 0} (r : Result Y StoreFault) → IsErr r → StopsBehind (in_turn step others (toolkit mid)).log mid new between left → TurnsTo (in_turn step all (toolkit old)) old new cast left r
    turns_leave (Ok y) err stop = cc err
    turns_leave (Err fault) err stop =
        subst (λ (xs : List X). StopsBehind (in_turn step xs (toolkit old)).log old new cast left) (sym is) (second_reached (step x (toolkit old)) (in_turn step others) old mid new cast between left done leaves stop)

    pub turns_left : ((shelf : ℕ) → HasNoTurn shelf (in_turn step others (toolkit mid)).log → IsSameBox shelf between left) → (shelf : ℕ) → HasNoTurn shelf (in_turn step all (toolkit old)).log → IsSameBox shelf cast left
    turns_left later =
        subst (λ (xs : List X). (shelf : ℕ) → HasNoTurn shelf (in_turn step xs (toolkit old)).log → IsSameBox shelf cast left) (sym is) (both_leave (step x (toolkit old)) (in_turn step others) old mid new cast between left done leaves later)

pub nobody_done : {X : Type 0} (step : X → ToolkitState → Passed) (all : List X) (old : Scene) → all ≡ [] → HasRowsOf (held old.memory) (rows_of old.memory.table) → IsDone (in_turn step all (toolkit old)) old old
nobody_done {X} step all old is has = subst (λ (xs : List X). IsDone (in_turn step xs (toolkit old)) old old) (sym is) (still_done (unmoved (toolkit old)) old old has refl refl refl refl)

pub nobody_answers : {X : Type 0} (step : X → ToolkitState → Passed) (all : List X) (old : Scene) → all ≡ [] → None ≡ last_answer (in_turn step all (toolkit old)).log
nobody_answers {X} step all old is = sym (ap (λ (xs : List X). last_answer (in_turn step xs (toolkit old)).log) is)

-- a fault stopped it
pub stopped_tells : {B : Type 0} (step : ToolkitState → Passed) (old new : Scene) (cast left : List (Option B)) (r : Result (Option Bool) StoreFault) → IsErr r → MovesTo (step (toolkit old)) old new r → TurnsTo (step (toolkit old)) old new cast left r
    → Tells step old new cast left r
stopped_tells step old new cast left (Ok answer) err moves leaves = cc err
stopped_tells step old new cast left (Err fault) err moves leaves = record { moves = moves; answer = tt; turns = leaves }

pub nobody_leaves : {X B : Type 0} (step : X → ToolkitState → Passed) (all : List X) (old : Scene) → all ≡ [] → (cast : List (Option B)) (shelf : ℕ) → HasNoTurn shelf (in_turn step all (toolkit old)).log → IsSameBox shelf cast cast
nobody_leaves step all old is cast shelf none = refl

pub none_of : {X Y : Type 0} (f : X → Y) (xs : List X) → length xs ≡ 0 → map f xs ≡ []
none_of f [] is = refl
none_of f (x ∷ xs) is = absurd (omega (arith, is))

-- ---- what the others need, once the first was told

module _ (all others : List Shelf) (first : Shelf) (is : all ≡ first ∷ others) where
  pub rows_later : (old new : Loaded) → ((other : ℕ) → HasRowOn old other → HasRowOn new other) → All (λ (s : Shelf). HasRowOn old s.0) all → All (λ (s : Shelf). HasRowOn new s.0) others
  rows_later old new stay rows =
      All-weaker (λ (s : Shelf). HasRowOn old s.0) (λ (s : Shelf). HasRowOn new s.0) (λ s. stay s.0) others
      (All-tail (λ (s : Shelf). HasRowOn old s.0) first others (subst (All (λ (s : Shelf). HasRowOn old s.0)) is rows))

  pub apart_later : AllPairs (λ (a b : Shelf). a.0 ≢ b.0) all → AllPairs (λ (a b : Shelf). a.0 ≢ b.0) others
  apart_later apart = pairs_tail (λ (a b : Shelf). a.0 ≢ b.0) first others (subst (AllPairs (λ (a b : Shelf). a.0 ≢ b.0)) is apart)

  pub first_apart : AllPairs (λ (a b : Shelf). a.0 ≢ b.0) all → All (λ (other : ℕ). first.0 ≢ other) (map (λ (s : Shelf). s.0) others)
  first_apart apart =
      All-map (λ (other : ℕ). first.0 ≢ other) (λ (s : Shelf). s.0) others (pairs_head (λ (a b : Shelf). a.0 ≢ b.0) first others (subst (AllPairs (λ (a b : Shelf). a.0 ≢ b.0)) is apart))

  pub room_later : (kept : Bool) (session left : SessionState) → (kept ≡ true → HasPlaces session (map (λ (s : Shelf). s.0) all)) → (HasPlaces session (first.0 ∷ map (λ (s : Shelf). s.0) others) → HasPlaces left (map (λ (s : Shelf). s.0) others))
      → kept ≡ true → HasPlaces left (map (λ (s : Shelf). s.0) others)
  room_later kept session left room more holds = more (subst (λ (xs : List Shelf). HasPlaces session (map (λ (s : Shelf). s.0) xs)) is (room holds))

  pub not_first : (other : ℕ) → All (λ (s : Shelf). s.0 ≢ other) all → first.0 ≢ other
  not_first other apart = All-head (λ (s : Shelf). s.0 ≢ other) first others (subst (All (λ (s : Shelf). s.0 ≢ other)) is apart)

  pub not_later : (other : ℕ) → All (λ (s : Shelf). s.0 ≢ other) all → All (λ (s : Shelf). s.0 ≢ other) others
  not_later other apart = All-tail (λ (s : Shelf). s.0 ≢ other) first others (subst (All (λ (s : Shelf). s.0 ≢ other)) is apart)
