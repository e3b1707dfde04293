-- The cause of a fault that one call of a store passes on from another.
use Rattle.std.specs.Prelude.{Err, IsErrOf}
use Rattle.uicc_types.specs.Counts.{Meter}
use Rattle.store_form.specs.declared.store.StoreFault.{StoreFault}
use Rattle.store_form.specs.Faults.{HasCause}

pub cause_of : {T U : Type 0} (old new : Meter) (fault : StoreFault) → HasCause {T = T} old new (Err fault) → HasCause {T = U} old new (Err fault)
cause_of {T} {U} old new fault cause = record {
  faults_kept = cause.faults_kept;
  cuts_kept = cause.cuts_kept;
  failed = λ is. cause.failed (again is);
  no_fault = λ worked. cause.no_fault (λ is. worked (again is));
  lost = λ is. cause.lost (again is);
  cut = λ is. cause.cut (again is);
  no_power = λ is. cause.no_power (again is);
  no_cut = λ kept. cause.no_cut (λ is. kept (again is));
  power_kept = λ kept. cause.power_kept (λ is. kept (again is));
  plans_kept = cause.plans_kept;
  latest_kept = cause.latest_kept;
  plan_kept = cause.plan_kept;
  settings_kept = cause.settings_kept;
} where
  again : {V W : Type 0} {other : StoreFault} → IsErrOf {T = V} (Err fault) other → IsErrOf {T = W} (Err fault) other
  again is = cc is
