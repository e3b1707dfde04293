-- The mind of a table.
use Rattle.std.specs.Prelude.{ℕ}
use Rattle.applet_trait.specs.Minds.{AppletState}
use Rattle.boxed_applets.specs.States.{mind_of}
use Rattle.boxed_applets.specs.declared.tables.Phase.{Phase}
use Rattle.boxed_applets.specs.declared.tables.Phase.TheVariants.{Ready, Running}
use Rattle.boxed_applets.specs.declared.tables.Table.{Table}

-- the number of a phase in the table of the kind
abbrev phase_of : Phase → ℕ
phase_of Ready = 0
phase_of Running = 1

-- the mind that the fields of a table are
abbrev pub table_mind : Table → AppletState
table_mind table = record (mind_of 7 phase_of table.state) { held = table.held; code = table.code }
