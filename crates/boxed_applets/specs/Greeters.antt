-- The mind of a greeter.
use Rattle.std.specs.Prelude.{ℕ}
use Rattle.applet_trait.specs.Minds.{AppletState}
use Rattle.boxed_applets.specs.States.{mind_of}
use Rattle.boxed_applets.specs.declared.greeters.Phase.{Phase}
use Rattle.boxed_applets.specs.declared.greeters.Phase.TheVariants.{Ready, Greeting}
use Rattle.boxed_applets.specs.declared.greeters.Greeter.{Greeter}

-- the number of a phase in the table of the kind
abbrev phase_of : Phase → ℕ
phase_of Ready = 0
phase_of Greeting = 1

-- the mind that the fields of a greeter are
abbrev pub greeter_mind : Greeter → AppletState
greeter_mind greeter = mind_of 1 phase_of greeter.state
