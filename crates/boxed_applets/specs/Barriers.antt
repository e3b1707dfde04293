-- The mind of a barrier.
use Rattle.std.specs.Prelude.{ℕ}
use Rattle.applet_trait.specs.Minds.{AppletState}
use Rattle.boxed_applets.specs.States.{mind_of}
use Rattle.boxed_applets.specs.declared.barriers.Phase.{Phase}
use Rattle.boxed_applets.specs.declared.barriers.Phase.TheVariants.{Ready, Asking, Keeping, Answered}
use Rattle.boxed_applets.specs.declared.barriers.Barrier.{Barrier}

-- the number of a phase in the table of the kind
abbrev phase_of : Phase → ℕ
phase_of Ready = 0
phase_of Asking = 1
phase_of Keeping = 2
phase_of Answered = 4

-- the mind that the fields of a barrier are
abbrev pub barrier_mind : Barrier → AppletState
barrier_mind barrier = mind_of 5 phase_of barrier.state
