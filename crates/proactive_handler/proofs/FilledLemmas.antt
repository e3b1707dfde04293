-- What becomes outstanding, case by case.
use Rattle.std.proofs.Common.{◌≡◌, refl, ap, true, false, List, Option, Some, None, is_none}
use Rattle.card_state.specs.Persistent.{Registration}
use Rattle.toolkit_commands.specs.declared.commands.Proactive.{Proactive}
use Rattle.toolkit_model.specs.Sessions.{Outstanding, SessionState}
use Rattle.toolkit_model.specs.Running.{putting_out}
use Rattle.toolkit_model.specs.Driving.{wanted, announcing, front_out, next_out, filled}

pub next_some : (session : SessionState) (found : Option Proactive) (command : Proactive) → found ≡ Some command
    → next_out found session ≡ putting_out None command (record session { announced = announcing command session.announced })
next_some session found command is = ap (λ (f : Option Proactive). next_out f session) is

pub next_none : (session : SessionState) (found : Option Proactive) → found ≡ None → next_out found session ≡ front_out session.waiting session
next_none session found is = ap (λ (f : Option Proactive). next_out f session) is

pub filled_stays : (out : Option Outstanding) (rows : List Registration) (session : SessionState) → is_none out ≡ false → filled out rows session ≡ session
filled_stays None rows session out_is = cc
filled_stays (Some out) rows session out_is = refl

pub filled_next : (out : Option Outstanding) (rows : List Registration) (session : SessionState) → is_none out ≡ true
    → filled out rows session ≡ next_out (wanted session.profile rows session.announced) session
filled_next None rows session none = refl
filled_next (Some out) rows session none = cc
