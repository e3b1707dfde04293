use Rattle.toolkit_model.specs.Orderly.{asks}
use Rattle.proactive_handler.proofs.FirstIdleLemmas.{NoneIdle}
use Rattle.proactive_handler.proofs.session.Session.first_idle.Given as goal

-- no applet so far is idle
abbrev pub invariant-loop-at : goal.invariant-loop-at
invariant-loop-at l = NoneIdle (asks l.self) l.self.late l.at
