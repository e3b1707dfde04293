-- The mind of a menu.
use Rattle.std.specs.Prelude.{ℕ}
use Rattle.applet_trait.specs.Minds.{AppletState}
use Rattle.boxed_applets.specs.States.{mind_of}
use Rattle.boxed_applets.specs.declared.menus.Phase.{Phase}
use Rattle.boxed_applets.specs.declared.menus.Phase.TheVariants.{Ready, Offering, Chosen}
use Rattle.boxed_applets.specs.declared.menus.Menu.{Menu}

-- the number of a phase in the table of the kind
abbrev phase_of : Phase → ℕ
phase_of Ready = 0
phase_of Offering = 1
phase_of Chosen = 2

-- the mind that the fields of a menu are
abbrev pub menu_mind : Menu → AppletState
menu_mind menu = mind_of 2 phase_of menu.state
