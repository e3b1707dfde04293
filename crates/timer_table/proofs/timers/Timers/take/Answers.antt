use Rattle.std.proofs.Common.{refl, sym}
use Rattle.timer_table.proofs.IsSmallestFreeLemmas.{is_smallest, all_held}
use Rattle.timer_table.proofs.timers.Timers.take.Goals as goal

pub returns-in-Some-clause-smallest : goal.returns-in-Some-clause-smallest
returns-in-Some-clause-smallest c =
    rw (← c.self.view_is) (is_smallest _ _ c.self.invariant (sym c.in-Some.ensures))

pub returns-in-Some-clause-none : goal.returns-in-Some-clause-none
returns-in-Some-clause-none c =
    rw (← c.self.view_is) (λ h. cc, λ held. absurd (held _ (is_smallest _ _ c.self.invariant (sym c.in-Some.ensures)).is_free))

pub returns-in-None-clause-none : goal.returns-in-None-clause-none
returns-in-None-clause-none c =
    rw (← c.self.view_is) (λ h. all_held _ c.self.invariant (sym c.in-None.ensures), λ held. refl)
