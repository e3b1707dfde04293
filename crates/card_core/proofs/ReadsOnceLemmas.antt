-- How often READ BINARY reads, as another answer of the same command shows it.
use Rattle.std.proofs.Common.{◌≡◌, ◌≢◌, ℕ, [], Result, Ok, Err, OnOk}
use Rattle.uicc_types.specs.Counts.{raised_by}
use Rattle.uicc_types.specs.declared.answers.Answer.{Answer}
use Rattle.uicc_types.specs.declared.answers.TheConstants.StatusWord.{SECURITY_NOT_SATISFIED}
use Rattle.binary_commands.specs.Reads.{ReadsOnce}

module _ {X E : Type 0} (result : Result X E) (mid out : Answer) (access before now : ℕ) where
  -- where that says that access isn't granted, this one did, and where that has data, this one had
  pub told_on : OnOk result (out.status ≡ SECURITY_NOT_SATISFIED → mid.status ≡ SECURITY_NOT_SATISFIED) → (out.body ≢ [] → mid.body ≢ []) → ReadsOnce result mid access before now → ReadsOnce result out access before now
  told_on back with_data once = record { denied = by_end result back once.denied; served = λ some. once.served (with_data some); most = once.most } where
    by_end : (end : Result X E) → OnOk end (out.status ≡ SECURITY_NOT_SATISFIED → mid.status ≡ SECURITY_NOT_SATISFIED) → OnOk end (mid.status ≡ SECURITY_NOT_SATISFIED → now ≡ raised_by access before)
        → OnOk end (out.status ≡ SECURITY_NOT_SATISFIED → now ≡ raised_by access before)
    by_end (Ok value) back denied = λ is. denied (back is)
    by_end (Err fault) back denied = tt
