-- The mind of a clock.
use Rattle.std.specs.Prelude.{ℕ}
use Rattle.applet_trait.specs.Minds.{AppletState}
use Rattle.boxed_applets.specs.States.{mind_of}
use Rattle.boxed_applets.specs.declared.clocks.Phase.{Phase}
use Rattle.boxed_applets.specs.declared.clocks.Phase.TheVariants.{Ready, Taking, Started, Ticking, Freeing}
use Rattle.boxed_applets.specs.declared.clocks.Clock.{Clock}

-- the number of a phase in the table of the kind
abbrev phase_of : Phase → ℕ
phase_of Ready = 0
phase_of Taking = 1
phase_of Started = 2
phase_of Ticking = 3
phase_of Freeing = 4

-- the mind that the fields of a clock are
abbrev pub clock_mind : Clock → AppletState
clock_mind clock = record (mind_of 3 phase_of clock.state) { held = clock.held }
