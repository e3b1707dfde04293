-- The response to the command that was fetched, for the applet that sent it.
use Rattle.std.proofs.Common.{◌≡◌, refl, sym, ap, ◌∙◌, subst, ℕ, true, List, [], ◌∷◌, Option, Some, None, IfSome, Result, Ok, Err, IsErr}
use Rattle.store_form.specs.declared.store.StoreFault.{StoreFault}
use Rattle.card_state.specs.Memory.{held}
use Rattle.card_state.specs.States.{rows_of}
use Rattle.toolkit_commands.specs.declared.responses.Response.{Response as Reply}
use Rattle.applet_trait.specs.declared.stimuli.Stimulus.TheVariants.{Response}
use Rattle.toolkit_model.specs.Sessions.{Outstanding, SessionState}
use Rattle.toolkit_model.specs.Passing.{ToolkitState, Responded, Passed, noting, before, passed_rows}
use Rattle.toolkit_model.specs.Running.{run_of_row}
use Rattle.toolkit_model.specs.Commands.{unanswered, resumed, with_nothing_out, answered, responded}
use Rattle.toolkit_model.specs.Driving.{driven}
use Rattle.toolkit_model.proofs.AsksLemmas.{run_late}
use Rattle.proactive_handler.specs.Runs.{StopsIn}
use Rattle.proactive_handler.specs.Steps.{toolkit, Scene, IsDone, MovesTo}
use Rattle.proactive_handler.proofs.StopsAtLemmas.{first_stops, then_moves}
use Rattle.proactive_handler.specs.Boxes.{IsSameBox}
use Rattle.proactive_handler.specs.Reached.{HasNoTurn, StopsBehind, TurnsTo}
use Rattle.proactive_handler.proofs.ReachedLemmas.{then_turns, since_turns, noted_turns, first_turns}
use Rattle.proactive_handler.specs.Moved.{HasRowsOf}
use Rattle.proactive_handler.proofs.MovedLemmas.{still_done, since_moves, noted_moves}
use Rattle.proactive_handler.proofs.IsSessionServedLemmas.{IsAwaited, gone}

answered_is : (out : Outstanding) (reply : Reply) (state : ToolkitState) (owner : Option ℕ) → out.owner ≡ owner → answered out reply state ≡ noting (Responded out reply ∷ []) (resumed owner reply (with_nothing_out state))
unfolding answered
answered_is out reply state owner is = ap (λ (o : Option ℕ). noting (Responded out reply ∷ []) (resumed o reply (with_nothing_out state))) is

resumed_late : (owner : Option ℕ) (reply : Reply) (state : ToolkitState) → (resumed owner reply state).state.session.late ≡ state.session.late
resumed_late None reply state = refl
resumed_late (Some shelf) reply state = run_late shelf (Response reply.result reply.item reply.text) true state

-- a response leaves what is late
pub answered_late : (out : Outstanding) (reply : Reply) (state : ToolkitState) → (answered out reply state).state.session.late ≡ state.session.late
answered_late out reply state = ap (λ (p : Passed). p.state.session.late) (answered_is out reply state out.owner refl) ∙ resumed_late out.owner reply (with_nothing_out state)

module _ (session : SessionState) (waits : IsAwaited session) where
  -- what holds of the command that waited for the answer
  pub of_awaited : (P : Outstanding → Type 0) → P waits.out → IfSome (unanswered session) P
  of_awaited P holds = subst (λ (o : Option Outstanding). IfSome o P) (sym waits.unanswered_is) holds

  pub awaited_of : (P : Outstanding → Type 0) → IfSome (unanswered session) P → P waits.out
  awaited_of P holds = subst (λ (o : Option Outstanding). IfSome o P) waits.unanswered_is holds

module _ (old : Scene) (waits : IsAwaited old.session) (left : SessionState) (reply : Reply) (is : left ≡ gone old.session) where
  abbrev early : Scene
  early = record old { session = left }

  pub owner_moves : {X : Type 0} (new : Scene) (r : Result X StoreFault) (shelf : ℕ) (text : List ℕ) → text ≡ reply.text → waits.out.owner ≡ Some shelf
      → MovesTo (run_of_row shelf (Response reply.result reply.item text) true (toolkit early)) early new r → MovesTo (answered waits.out reply (toolkit old)) old new r
  owner_moves new r shelf text text_is owner moves =
      let run : Passed = run_of_row shelf (Response reply.result reply.item reply.text) true (toolkit (record old { session = gone old.session })) in
      let read : MovesTo (run_of_row shelf (Response reply.result reply.item reply.text) true (toolkit early)) early new r =
      subst (λ (t : List ℕ). MovesTo (run_of_row shelf (Response reply.result reply.item t) true (toolkit early)) early new r) text_is moves in
      let so : MovesTo run early new r =
      subst (λ (s : SessionState). MovesTo (run_of_row shelf (Response reply.result reply.item reply.text) true (toolkit (record old { session = s }))) early new r) is read in
      subst (λ (p : Passed). MovesTo p old new r) (sym (answered_is waits.out reply (toolkit old) (Some shelf) owner))
      (noted_moves (Responded waits.out reply ∷ []) run old new r refl (since_moves run old early new r refl so))

  pub owner_turns : {X B : Type 0} (new : Scene) (cast after : List (Option B)) (r : Result X StoreFault) (shelf : ℕ) (text : List ℕ) → text ≡ reply.text → waits.out.owner ≡ Some shelf
      → TurnsTo (run_of_row shelf (Response reply.result reply.item text) true (toolkit early)) early new cast after r → TurnsTo (answered waits.out reply (toolkit old)) old new cast after r
  owner_turns new cast after r shelf text text_is owner leaves =
      let run : Passed = run_of_row shelf (Response reply.result reply.item reply.text) true (toolkit (record old { session = gone old.session })) in
      let read : TurnsTo (run_of_row shelf (Response reply.result reply.item reply.text) true (toolkit early)) early new cast after r =
      subst (λ (t : List ℕ). TurnsTo (run_of_row shelf (Response reply.result reply.item t) true (toolkit early)) early new cast after r) text_is leaves in
      let so : TurnsTo run early new cast after r =
      subst (λ (s : SessionState). TurnsTo (run_of_row shelf (Response reply.result reply.item reply.text) true (toolkit (record old { session = s }))) early new cast after r) is read in
      subst (λ (p : Passed). TurnsTo p old new cast after r) (sym (answered_is waits.out reply (toolkit old) (Some shelf) owner))
      (noted_turns cast after (Responded waits.out reply ∷ []) run old new r refl (since_turns cast after run old early new r refl so))

  pub own_left : {B : Type 0} (cast : List (Option B)) (other : ℕ) → HasNoTurn other (answered waits.out reply (toolkit old)).log → IsSameBox other cast cast
  own_left cast other none = refl

  pub owner_left : {B : Type 0} (new : Scene) (cast after : List (Option B)) (shelf : ℕ) (text : List ℕ) → text ≡ reply.text → waits.out.owner ≡ Some shelf
      → ((other : ℕ) → HasNoTurn other (run_of_row shelf (Response reply.result reply.item text) true (toolkit early)).log → IsSameBox other cast after)
      → (other : ℕ) → HasNoTurn other (answered waits.out reply (toolkit old)).log → IsSameBox other cast after
  owner_left new cast after shelf text text_is owner leaves = owner_turns {X = ℕ} new cast after (Ok 0) shelf text text_is owner leaves

  pub owner_leaves : {X B : Type 0} (new : Scene) (cast after : List (Option B)) (r : Result X StoreFault) → IsErr r → (shelf : ℕ) (text : List ℕ) → text ≡ reply.text → waits.out.owner ≡ Some shelf
      → StopsBehind (run_of_row shelf (Response reply.result reply.item text) true (toolkit early)).log early new cast after → TurnsTo (answered waits.out reply (toolkit old)) old new cast after r
  owner_leaves new cast after (Ok x) err shelf text text_is owner stop = cc err
  owner_leaves {X} new cast after (Err fault) err shelf text text_is owner stop = owner_turns {X = X} new cast after (Err fault) shelf text text_is owner stop

  pub owner_done : (new : Scene) (shelf : ℕ) (text : List ℕ) → text ≡ reply.text → waits.out.owner ≡ Some shelf
      → IsDone (run_of_row shelf (Response reply.result reply.item text) true (toolkit early)) early new → IsDone (answered waits.out reply (toolkit old)) old new
  owner_done new shelf text text_is owner done = owner_moves {X = ℕ} new (Ok 0) shelf text text_is owner done

  pub owner_stops : {X : Type 0} (new : Scene) (r : Result X StoreFault) → IsErr r → (shelf : ℕ) (text : List ℕ) → text ≡ reply.text → waits.out.owner ≡ Some shelf
      → StopsIn (run_of_row shelf (Response reply.result reply.item text) true (toolkit early)).log old.memory new.memory
      → MovesTo (answered waits.out reply (toolkit old)) old new r
  owner_stops new (Ok x) err shelf text text_is owner stop = cc err
  owner_stops new (Err fault) err shelf text text_is owner stop = owner_moves {X = ℕ} new (Err fault) shelf text text_is owner stop

  pub own_done : HasRowsOf (held old.memory) (rows_of old.memory.table) → waits.out.owner ≡ None → IsDone (answered waits.out reply (toolkit old)) old early
  own_done has owner =
      let so = answered_is waits.out reply (toolkit old) None owner in
      still_done (answered waits.out reply (toolkit old)) old early has
      (ap (λ (p : Passed). passed_rows p.log) so) (ap (λ (p : Passed). p.state.rows) so)
      (ap (λ (s : SessionState). toolkit (record old { session = s })) is ∙ sym (ap (λ (p : Passed). p.state) so)) refl

-- ---- and then the command ends

responded_is : (out : Outstanding) (reply : Reply) (state : ToolkitState) → responded out reply state ≡ before (answered out reply state) driven
unfolding responded
responded_is out reply state = refl

module _ (out : Outstanding) (reply : Reply) (old mid : Scene) where
  pub responded_stops : {X : Type 0} (r : Result X StoreFault) → IsErr r → StopsIn (answered out reply (toolkit old)).log old.memory mid.memory → MovesTo (responded out reply (toolkit old)) old mid r
  responded_stops (Ok x) err stop = cc err
  responded_stops (Err fault) err stop =
      subst (λ (p : Passed). StopsIn p.log old.memory mid.memory) (sym (responded_is out reply (toolkit old))) (first_stops (answered out reply (toolkit old)) driven old mid mid stop)

  pub responded_leaves : {X B : Type 0} (cast between : List (Option B)) (r : Result X StoreFault) → IsErr r → StopsBehind (answered out reply (toolkit old)).log old mid cast between → TurnsTo (responded out reply (toolkit old)) old mid cast between r
  responded_leaves cast between r err stop =
      subst (λ (p : Passed). TurnsTo p old mid cast between r) (sym (responded_is out reply (toolkit old))) (first_turns (answered out reply (toolkit old)) driven old mid cast between r err stop)

  pub responded_turns : {X B : Type 0} (new : Scene) (cast between left : List (Option B)) (r : Result X StoreFault) → IsDone (answered out reply (toolkit old)) old mid
      → ((shelf : ℕ) → HasNoTurn shelf (answered out reply (toolkit old)).log → IsSameBox shelf cast between) → TurnsTo (driven (toolkit mid)) mid new between left r → TurnsTo (responded out reply (toolkit old)) old new cast left r
  responded_turns new cast between left r done leaves later =
      subst (λ (p : Passed). TurnsTo p old new cast left r) (sym (responded_is out reply (toolkit old))) (then_turns (answered out reply (toolkit old)) driven old mid new cast between left done leaves r later)

  pub responded_moves : {X : Type 0} (new : Scene) (r : Result X StoreFault) → IsDone (answered out reply (toolkit old)) old mid → MovesTo (driven (toolkit mid)) mid new r → MovesTo (responded out reply (toolkit old)) old new r
  responded_moves new r done moves = subst (λ (p : Passed). MovesTo p old new r) (sym (responded_is out reply (toolkit old))) (then_moves (answered out reply (toolkit old)) driven old mid new r done moves)
