-- The first late trigger whose applet is idle, and what is left once it is taken out (ETSI TS 102 223, 7).
use Rattle.std.specs.Prelude.{◌≡◌, ℕ, ◌<◌, length, slice_get, remove, Option, Some, None}
use Rattle.toolkit_model.specs.Sessions.{LateTrigger, SessionState}
use Rattle.toolkit_model.specs.Orderly.{asks}
use Rattle.toolkit_model.specs.Driving.{first_idle}
use Rattle.event_dispatch.specs.declared.late.KeptTrigger.{KeptTrigger}
use Rattle.event_dispatch.specs.Frames.{kept}

-- it stands at this place
pub record StandsFirst (session : SessionState) (at : ℕ) : Type 0 where
  pub inside : at < length session.late
  pub found : (trigger : LateTrigger) → slice_get session.late at ≡ Some trigger → first_idle (asks session) session.late ≡ Some (trigger, remove session.late at)

-- it was taken out, and the others are left; or there is none, and nothing changed
abbrev pub Catches : SessionState → SessionState → Option KeptTrigger → Type 0
Catches old new None = (first_idle (asks old) old.late ≡ None) × (new ≡ old)
Catches old new (Some trigger) = (first_idle (asks old) old.late ≡ Some (kept trigger, new.late)) × (new ≡ record old { late = new.late })
