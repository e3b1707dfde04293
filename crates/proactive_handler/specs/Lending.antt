-- What a session is once its timers were lent and are given back.
use Rattle.std.specs.Borrow.{Lends, MutBor, Fml}
use Rattle.timer_table.specs.Timers.{Owners}
use Rattle.timer_table.specs.contracts.timers.Timers.{the_row as timers_row}
use Rattle.toolkit_model.specs.Sessions.{SessionState}
use Rattle.proactive_handler.specs.contracts.session.Session.{the_row}

-- the timers are what was left in them, and nothing else changed
abbrev pub LendsTimers : MutBor SessionState → MutBor Owners → Fml
LendsTimers session lent = Lends the_row timers_row session lent (λ timers. record session.now { timers = timers })
