-- The mind that an applet's state is.
use Rattle.std.specs.Prelude.{ℕ}
use Rattle.applet_trait.specs.Minds.{AppletState, fresh}
use Rattle.boxed_applets.specs.declared.states.State.{State}

-- of this kind, where its phase has a number in the table of the kind
abbrev pub mind_of : {P : Type 0} → ℕ → (P → ℕ) → State P → AppletState
mind_of kind number state = record (fresh kind state.kept) { phase = number state.phase; asked = state.asked }
