-- Late triggers: one more, and one that is taken out.
use Rattle.std.proofs.Common.{◌≡◌, suc, ◌≤◌, ◌<◌, true, List, [], ◌∷◌, length, Some, length-append, ap, arith, refl, sym, subst, ⊎_elim, ◌≢◌, All, AllPairs, option_map}
use Rattle.std.proofs.lemmas.List.Elements.{All-cons, All-head, All-tail, All-push}
use Rattle.std.proofs.lemmas.Option.{same_Some}
use Rattle.list_laws.proofs.CondLemmas.{mapped_Some, chosen}
use Rattle.toolkit_model.specs.Sessions.{Sent, LateTrigger, SessionState}
use Rattle.toolkit_model.specs.Orderly.{IsRegistered, asks}
use Rattle.toolkit_model.specs.Passing.{ToolkitState}
use Rattle.toolkit_model.specs.Driving.{is_idle, behind, first_idle, kept_late, with_session}
use Rattle.toolkit_model.proofs.RunOfRowLemmas.{IsReady}

-- the trigger that is taken out, and what is left
pub record IsTakenOut (asked : List Sent) (late : List LateTrigger) (found : LateTrigger × List LateTrigger) : Type 1 where
  pub is_idle : is_idle asked found.0.shelf ≡ true
  pub one_less : length late ≡ suc (length found.1)
  pub all : (P : LateTrigger → Type 0) → All P late → P found.0 × All P found.1

pub taken_out : (asked : List Sent) (late : List LateTrigger) (found : LateTrigger × List LateTrigger) → first_idle asked late ≡ Some found → IsTakenOut asked late found
taken_out asked [] found is = cc
taken_out asked (trigger ∷ others) found is =
    ⊎_elim {C = IsTakenOut asked (trigger ∷ others) found}
    (λ here. subst (IsTakenOut asked (trigger ∷ others)) (same_Some (trigger, others) found here.1) (record {
      is_idle = here.0;
      one_less = refl;
      all = λ P all. (All-head P trigger others all, All-tail P trigger others all);
    }))
    (λ later.
    let inner = mapped_Some (behind trigger) (first_idle asked others) found later.1 in
    let taken = taken_out asked others inner.0 inner.1 in
    subst (IsTakenOut asked (trigger ∷ others)) inner.2 (record {
      is_idle = taken.is_idle;
      one_less = ap suc taken.one_less;
      all = λ P all.
          let rest = taken.all P (All-tail P trigger others all) in
          (rest.0, All-cons P trigger inner.0.1 (All-head P trigger others all) rest.1);
    }))
    (chosen (is_idle asked trigger.shelf) (Some (trigger, others)) (option_map (behind trigger) (first_idle asked others)) (Some found) is)

-- other late triggers
pub late_asks : (session : SessionState) (late : List LateTrigger) → asks (record session { late = late }) ≡ asks session
unfolding asks
late_asks session late = refl

pub late_ready : (state : ToolkitState) (late : List LateTrigger) → All (λ trigger. IsRegistered state.rows trigger.shelf) late → length late ≤ 16
    → IsReady state → IsReady (with_session state (record state.session { late = late }))
late_ready state late registered few ready =
    let underway = ready.underway in
    let same = late_asks state.session late in
    record {
      underway = record {
        apart = subst (AllPairs (λ a b. a.shelf ≢ b.shelf)) (sym same) underway.apart;
        askers = subst (All (λ sent. IsRegistered state.rows sent.shelf)) (sym same) underway.askers;
        sendable = underway.sendable;
        out_sendable = underway.out_sendable;
        late_rows = registered;
        few_late = few;
        timers = underway.timers;
        eight_timers = underway.eight_timers;
        no_profile = underway.no_profile;
      };
      rows_are = ready.rows_are;
      minds = ready.minds;
    }

pub kept_ready : (state : ToolkitState) (trigger : LateTrigger) → IsRegistered state.rows trigger.shelf → length state.session.late < 16 → IsReady state → IsReady (kept_late trigger state).state
kept_ready state trigger registered room ready =
    late_ready state _ (All-push (λ trigger. IsRegistered state.rows trigger.shelf) state.session.late trigger ready.underway.late_rows registered)
    (omega (arith, length-append state.session.late (trigger ∷ []))) ready

pub caught_ready : (state : ToolkitState) (found : LateTrigger × List LateTrigger) → first_idle (asks state.session) state.session.late ≡ Some found
    → IsReady state → IsReady (with_session state (record state.session { late = found.1 }))
caught_ready state found is ready =
    let taken = taken_out (asks state.session) state.session.late found is in
    let rest = taken.all (λ trigger. IsRegistered state.rows trigger.shelf) ready.underway.late_rows in
    late_ready state found.1 rest.1 (omega (arith, taken.one_less, ready.underway.few_late)) ready
