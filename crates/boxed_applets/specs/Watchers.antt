-- The mind of a watcher.
use Rattle.std.specs.Prelude.{ℕ}
use Rattle.applet_trait.specs.Minds.{AppletState}
use Rattle.boxed_applets.specs.States.{mind_of}
use Rattle.boxed_applets.specs.declared.watchers.Phase.{Phase}
use Rattle.boxed_applets.specs.declared.watchers.Phase.TheVariants.{Ready, Keeping, Showing}
use Rattle.boxed_applets.specs.declared.watchers.Watcher.{Watcher}

-- the number of a phase in the table of the kind
abbrev phase_of : Phase → ℕ
phase_of Ready = 0
phase_of Keeping = 1
phase_of Showing = 2

-- the mind that the fields of a watcher are
abbrev pub watcher_mind : Watcher → AppletState
watcher_mind watcher = mind_of 4 phase_of watcher.state
