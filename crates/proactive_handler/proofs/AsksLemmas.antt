-- Sessions whose applets can run, after what runs none of them.
use Rattle.std.proofs.Common.{◌≡◌, sym, ap, ◌∙◌, subst, List, ◌++◌, Option, ◌≢◌, All, AllPairs}
use Rattle.card_state.specs.declared.entries.Loaded.{Loaded}
use Rattle.card_commits.specs.Entries.{HasRowOn}
use Rattle.toolkit_model.specs.Sessions.{Outstanding, Sent, LateTrigger, SessionState}
use Rattle.toolkit_model.specs.Orderly.{owned, asks}
use Rattle.proactive_handler.specs.Serving.{IsSessionServed}

same_asks : (old new : SessionState) → new.out ≡ old.out → new.waiting ≡ old.waiting → asks new ≡ asks old
unfolding asks
same_asks old new out waiting = ap (λ (o : Option Outstanding). owned o ++ new.waiting) out ∙ ap (λ (w : List Sent). owned old.out ++ w) waiting

-- a change of the profile, of what was announced, or of the timers
pub served_still : (table : Loaded) (old new : SessionState) → new.out ≡ old.out → new.waiting ≡ old.waiting → new.late ≡ old.late → IsSessionServed table old → IsSessionServed table new
served_still table old new out waiting late served = record {
  apart = subst (AllPairs (λ (a b : Sent). a.shelf ≢ b.shelf)) (sym (same_asks old new out waiting)) served.apart;
  askers = subst (All (λ (sent : Sent). HasRowOn table sent.shelf)) (sym (same_asks old new out waiting)) served.askers;
  late = subst (All (λ (trigger : LateTrigger). HasRowOn table trigger.shelf)) (sym late) served.late;
}
