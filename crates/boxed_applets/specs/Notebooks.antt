-- The mind of a notebook.
use Rattle.std.specs.Prelude.{ℕ}
use Rattle.applet_trait.specs.Minds.{AppletState}
use Rattle.boxed_applets.specs.States.{mind_of}
use Rattle.boxed_applets.specs.declared.notebooks.Phase.{Phase}
use Rattle.boxed_applets.specs.declared.notebooks.Phase.TheVariants.{Ready, Asking, KeepingOrShowing}
use Rattle.boxed_applets.specs.declared.notebooks.Notebook.{Notebook}

-- the number of a phase in the table of the kind
abbrev phase_of : Phase → ℕ
phase_of Ready = 0
phase_of Asking = 1
phase_of KeepingOrShowing = 2

-- the mind that the fields of a notebook are
abbrev pub notebook_mind : Notebook → AppletState
notebook_mind notebook = mind_of 6 phase_of notebook.state
