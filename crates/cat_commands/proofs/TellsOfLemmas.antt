-- What is told to applets, and where it begins: with a profile, at a STATUS, and by an envelope.
use Rattle.std.proofs.Common.{◌≡◌, refl, sym, ap, ◌∙◌, subst, ℕ, ◌+◌, ◌-◌, Bool, true, false, not, cond, List, [], ◌++◌, Option, Some, arith, ◌≤◌, ◌&&◌, ◌||◌, nat_lt, length, filter, Result, Ok, Err, IsErr}
use Rattle.std.proofs.lemmas.Bool.Decides.{nat_tests}
use Rattle.uicc_types.specs.declared.events.TheConstants.{PROFILE_DOWNLOAD, STATUS_COMMAND}
use Rattle.store_form.specs.declared.store.StoreFault.{StoreFault}
use Rattle.store_form.specs.declared.store.StoreFault.TheVariants.{Failed}
use Rattle.card_state.specs.declared.entries.Loaded.{Loaded}
use Rattle.card_state.specs.Persistent.{Registration}
use Rattle.card_state.specs.States.{rows_of}
use Rattle.toolkit_commands.specs.declared.envelopes.Envelope.{Envelope}
use Rattle.toolkit_commands.specs.declared.envelopes.Envelope.TheVariants as Envelopes
use Rattle.terminal_profile.specs.Profiles.{consulted}
use Rattle.toolkit_model.specs.Sessions.{Outstanding, Sent, SessionState}
use Rattle.toolkit_model.specs.Order.{targets}
use Rattle.toolkit_model.specs.Orderly.{owned, asks}
use Rattle.toolkit_model.specs.Passing.{ToolkitState, Passed, in_turn, before}
use Rattle.toolkit_model.specs.Driving.{is_idle, with_session, driven}
use Rattle.toolkit_model.specs.Commands.{with_profile, profiled, polled, triggered_by, late_places, is_call, suspended_by, is_busy, is_reported_once, forgetting, reported, triggered, enveloped, last_answer}
use Rattle.proactive_handler.proofs.AsksLemmas.{served_still}
use Rattle.proactive_handler.specs.Serving.{IsSessionServed, HasPlaces, triggered_one}
use Rattle.proactive_handler.specs.Steps.{Scene, toolkit, MovesTo}
use Rattle.proactive_handler.proofs.MovedLemmas.{since_moves}
use Rattle.cat_commands.specs.Trying.{reported_in}

-- another result that is a fault too
pub as_err : {X : Type 0} (passed : Passed) (old new : Scene) (r : Result X StoreFault) → IsErr r → MovesTo {X = Unit} passed old new (Err Failed) → MovesTo passed old new r
as_err passed old new (Ok result) err moves = cc err
as_err passed old new (Err fault) err moves = moves

abbrev pub tells_of : Bool → ℕ → List ℕ → List ℕ → ToolkitState → Passed
tells_of kept code body shelves state = before (in_turn (triggered_one kept code body) shelves state) driven

-- the same event for the same shelves
pub told_so : {X : Type 0} (kept : Bool) (code code' : ℕ) (body body' shelves shelves' : List ℕ) (old early new : Scene) (state : ToolkitState) (r : Result X StoreFault)
    → code ≡ code' → body ≡ body' → shelves ≡ shelves' → toolkit early ≡ state → early.memory ≡ old.memory
    → MovesTo (tells_of kept code body shelves (toolkit early)) early new r → MovesTo (tells_of kept code' body' shelves' state) old new r
told_so {X} kept code code' body body' shelves shelves' old early new state r code_is body_is shelves_are state_is memory moves =
    let by_code : MovesTo (tells_of kept code' body shelves (toolkit early)) early new r = subst (λ (n : ℕ). MovesTo (tells_of kept n body shelves (toolkit early)) early new r) code_is moves in
    let by_body : MovesTo (tells_of kept code' body' shelves (toolkit early)) early new r = subst (λ (b : List ℕ). MovesTo (tells_of kept code' b shelves (toolkit early)) early new r) body_is by_code in
    let by_shelves : MovesTo (tells_of kept code' body' shelves' (toolkit early)) early new r = subst (λ (s : List ℕ). MovesTo (tells_of kept code' body' s (toolkit early)) early new r) shelves_are by_body in
    let by_state : MovesTo (tells_of kept code' body' shelves' state) early new r = subst (λ (s : ToolkitState). MovesTo (tells_of kept code' body' shelves' s) early new r) state_is by_shelves in
    since_moves (tells_of kept code' body' shelves' state) old early new r memory by_state

-- ---- TERMINAL PROFILE and STATUS

pub profile_served : (table : Loaded) (old new : SessionState) (bytes : List ℕ) → new ≡ record old { profile = Some (consulted bytes) } → IsSessionServed table old → IsSessionServed table new
profile_served table old new bytes is served =
    served_still table old new (ap (λ (s : SessionState). s.out) is) (ap (λ (s : SessionState). s.waiting) is) (ap (λ (s : SessionState). s.late) is) served

module _ (bytes shelves body : List ℕ) (old early new : Scene) (shelves_are : shelves ≡ targets (rows_of old.memory.table) PROFILE_DOWNLOAD) (body_is : body ≡ bytes) (state_is : toolkit early ≡ with_profile (toolkit old) bytes)
    (memory : early.memory ≡ old.memory) where
  pub profile_moves : {X : Type 0} (r : Result X StoreFault) → MovesTo (tells_of false PROFILE_DOWNLOAD body shelves (toolkit early)) early new r → MovesTo (profiled bytes (toolkit old)) old new r
  unfolding profiled
  profile_moves r moves =
      told_so false PROFILE_DOWNLOAD PROFILE_DOWNLOAD body bytes shelves (targets (rows_of old.memory.table) PROFILE_DOWNLOAD) old early new (with_profile (toolkit old) bytes) r refl body_is shelves_are state_is memory moves

pub poll_moves : {X : Type 0} (shelves body : List ℕ) (old new : Scene) (r : Result X StoreFault) → shelves ≡ targets (rows_of old.memory.table) STATUS_COMMAND → body ≡ []
    → MovesTo (tells_of false STATUS_COMMAND body shelves (toolkit old)) old new r → MovesTo (polled (toolkit old)) old new r
unfolding polled
poll_moves shelves body old new r shelves_are body_is moves =
    told_so false STATUS_COMMAND STATUS_COMMAND body [] shelves (targets (rows_of old.memory.table) STATUS_COMMAND) old old new (toolkit old) r refl body_is shelves_are refl refl moves

-- ---- ENVELOPE

pub reported_is : (envelope : Envelope) (state : ToolkitState) → reported envelope state ≡ with_session state (reported_in envelope state.session)
reported_is (Envelopes.Menu item) state = refl
reported_is (Envelopes.CallControl address) state = refl
reported_is (Envelopes.Event code body) state = by_code (is_reported_once code) where
  by_code : (b : Bool) → cond b (with_session state (forgetting code state.session)) state ≡ with_session state (cond b (forgetting code state.session) state.session)
  by_code true = refl
  by_code false = refl
reported_is (Envelopes.Timer timer) state = refl

-- what a report leaves of a session
record KeepsAsked (old new : SessionState) : Type 0 where
  out : new.out ≡ old.out
  waiting : new.waiting ≡ old.waiting
  late : new.late ≡ old.late

keeps_asked : (envelope : Envelope) (session : SessionState) → KeepsAsked session (reported_in envelope session)
keeps_asked (Envelopes.Menu item) session = record { out = refl; waiting = refl; late = refl }
keeps_asked (Envelopes.CallControl address) session = record { out = refl; waiting = refl; late = refl }
keeps_asked (Envelopes.Event code body) session = by_code (is_reported_once code) where
  by_code : (b : Bool) → KeepsAsked session (cond b (forgetting code session) session)
  by_code true = record { out = refl; waiting = refl; late = refl }
  by_code false = record { out = refl; waiting = refl; late = refl }
keeps_asked (Envelopes.Timer timer) session = record { out = refl; waiting = refl; late = refl }

same_asks : (old new : SessionState) → KeepsAsked old new → asks new ≡ asks old
unfolding asks
same_asks old new keeps = ap (λ (o : Option Outstanding). owned o ++ new.waiting) keeps.out ∙ ap (λ (w : List Sent). owned old.out ++ w) keeps.waiting

module _ (table : Loaded) (envelope : Envelope) (old new : SessionState) (is : new ≡ reported_in envelope old) where
  keeps : KeepsAsked old new
  keeps = subst (KeepsAsked old) (sym is) (keeps_asked envelope old)

  pub report_served : IsSessionServed table old → IsSessionServed table new
  report_served served = served_still table old new keeps.out keeps.waiting keeps.late served

  pub report_late : new.late ≡ old.late
  report_late = keeps.late

  pub report_places : (rows : List Registration) (state : ToolkitState) (shelves : List ℕ) → state.session ≡ old → length old.late ≤ 16 → shelves ≡ (triggered_by envelope state).shelves → is_busy envelope state ≡ false → HasPlaces new shelves
  report_places rows state shelves session_is few shelves_are free =
      let counted : length (suspended_by envelope state) ≡ length (filter (λ shelf. not (is_idle (asks new) shelf)) shelves) =
      ap (λ (s : List ℕ). length (filter (λ shelf. not (is_idle (asks state.session) shelf)) s)) (sym shelves_are)
      ∙ ap (λ (asked : List Sent). length (filter (λ shelf. not (is_idle asked shelf)) shelves)) (ap (λ (s : SessionState). asks s) session_is ∙ sym (same_asks old new keeps)) in
      let late_is : length state.session.late ≡ length new.late = ap (λ (s : SessionState). length s.late) session_is ∙ sym (ap length keeps.late) in
      let few_new : length new.late ≤ 16 = subst (λ (n : ℕ). n ≤ 16) (sym (ap length keeps.late)) few in
      let within : nat_lt (late_places - length new.late) (length (filter (λ shelf. not (is_idle (asks new) shelf)) shelves)) ≡ false =
      sym (ap (λ (n : ℕ). nat_lt (late_places - n) (length (filter (λ shelf. not (is_idle (asks new) shelf)) shelves))) late_is)
      ∙ sym (ap (λ (n : ℕ). nat_lt (late_places - length state.session.late) n) counted)
      ∙ first_false (nat_lt (late_places - length state.session.late) (length (suspended_by envelope state))) (is_call envelope && nat_lt 0 (length (suspended_by envelope state))) free in
      enough (length new.late) (length (filter (λ shelf. not (is_idle (asks new) shelf)) shelves)) few_new within
    where
      first_false : (a b : Bool) → (a || b) ≡ false → a ≡ false
      first_false true b is = is
      first_false false b is = refl

      enough : (late count : ℕ) → late ≤ 16 → nat_lt (late_places - late) count ≡ false → late + count ≤ late_places
      enough late count few within = grind (arith, nat_tests, few, within)

module _ (envelope : Envelope) (code : ℕ) (shelves body : List ℕ) (old early new : Scene) (session : SessionState) (code_is : code ≡ (triggered_by envelope (toolkit old)).code) (body_is : body ≡ (triggered_by envelope (toolkit old)).body)
    (shelves_are : shelves ≡ (triggered_by envelope (toolkit old)).shelves) (session_is : session ≡ reported_in envelope old.session) (state_is : toolkit early ≡ with_session (toolkit old) session) (memory : early.memory ≡ old.memory) where
  early_is : toolkit early ≡ reported envelope (toolkit old)
  early_is = state_is ∙ ap (with_session (toolkit old)) session_is ∙ sym (reported_is envelope (toolkit old))

  pub report_moves : {X : Type 0} (r : Result X StoreFault) → MovesTo (tells_of true code body shelves (toolkit early)) early new r → MovesTo (enveloped envelope (toolkit old)) old new r
  unfolding enveloped triggered
  report_moves r moves =
      told_so true code (triggered_by envelope (toolkit old)).code body (triggered_by envelope (toolkit old)).body shelves (triggered_by envelope (toolkit old)).shelves old early new (reported envelope (toolkit old)) r code_is body_is shelves_are early_is memory moves

  pub report_answers : (answer : Option Bool) → answer ≡ last_answer (in_turn (triggered_one true code body) shelves (toolkit early)).log → answer ≡ last_answer (triggered envelope (toolkit old)).log
  unfolding triggered
  report_answers answer is =
      is ∙ ap (λ (n : ℕ). last_answer (in_turn (triggered_one true n body) shelves (toolkit early)).log) code_is
      ∙ ap (λ (b : List ℕ). last_answer (in_turn (triggered_one true (triggered_by envelope (toolkit old)).code b) shelves (toolkit early)).log) body_is
      ∙ ap (λ (s : List ℕ). last_answer (in_turn (triggered_one true (triggered_by envelope (toolkit old)).code (triggered_by envelope (toolkit old)).body) s (toolkit early)).log) shelves_are
      ∙ ap (λ (s : ToolkitState). last_answer (in_turn (triggered_one true (triggered_by envelope (toolkit old)).code (triggered_by envelope (toolkit old)).body) (triggered_by envelope (toolkit old)).shelves s).log) early_is
