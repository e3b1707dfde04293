-- What one call after the other keeps of a memory.
use Rattle.std.proofs.Common.{◌≡◌, ◌∙◌, subst, sym, IsErrAnd, Result, Ok, Err, IsErr}
use Rattle.uicc_types.proofs.IsCalmLemmas.{calm_ok, caused_then}
use Rattle.store_form.specs.declared.store.StoreFault.{StoreFault}
use Rattle.store_form.proofs.HasCauseLemmas.{cause_of}
use Rattle.card_state.specs.Memory.{Memory, Keeps}

-- a call that met no fault, and then another
pub keeps_then : {T U : Type 0} (first second third : Memory) (value : T) (result : Result U StoreFault) → Keeps first second (Ok value) → Keeps second third result → Keeps first third result
keeps_then first second third value result before after = record {
  mounted = after.mounted;
  told = after.told ∙ before.told;
  size = after.size ∙ before.size;
  mark = after.mark ∙ before.mark;
  recoveries = after.recoveries ∙ before.recoveries;
  cause = caused_then first.meter second.meter third.meter (calm_ok first.meter second.meter (λ err. cc err) (λ err. cc err) before.cause) after.cause;
}

-- what it answers makes no difference
pub keeps_done : {T U : Type 0} (first second : Memory) (value : T) (other : U) → Keeps first second (Ok value) → Keeps first second (Ok other)
keeps_done first second value other keeps = record {
  mounted = keeps.mounted;
  told = keeps.told;
  size = keeps.size;
  mark = keeps.mark;
  recoveries = keeps.recoveries;
  cause = record {
    faults_kept = keeps.cause.faults_kept;
    cuts_kept = keeps.cause.cuts_kept;
    failed = λ err. cc err;
    no_fault = λ _. keeps.cause.no_fault (λ err. cc err);
    lost = λ err. cc err;
    cut = λ err. cc err;
    no_power = λ err. cc err;
    no_cut = λ _. keeps.cause.no_cut (λ err. cc err);
    power_kept = λ _. keeps.cause.power_kept (λ err. cc err);
    plans_kept = keeps.cause.plans_kept;
    latest_kept = keeps.cause.latest_kept;
    plan_kept = keeps.cause.plan_kept;
    settings_kept = keeps.cause.settings_kept;
  };
}

-- the fault of one call that another passes on
pub fault_keeps : {T U : Type 0} (first second : Memory) (fault : StoreFault) (result : Result U StoreFault) → IsErr result → IsErrAnd result (λ other. other ≡ fault) → Keeps {T = T} first second (Err fault) → Keeps first second result
fault_keeps first second fault (Ok value) err same keeps = cc err
fault_keeps {T} {U} first second fault (Err other) err same keeps =
    let so : Keeps {T = U} first second (Err fault) = record {
      mounted = tt;
      told = keeps.told;
      size = keeps.size;
      mark = keeps.mark;
      recoveries = keeps.recoveries;
      cause = cause_of first.meter second.meter fault keeps.cause;
    } in
    subst (λ (f : StoreFault). Keeps {T = U} first second (Err f)) (sym same) so
