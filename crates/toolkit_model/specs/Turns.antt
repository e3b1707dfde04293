-- What a run of an applet notes.
use Rattle.std.specs.Prelude.{ℕ, List, [], ◌∷◌, Option, is_some}
use Rattle.toolkit_commands.specs.declared.commands.Proactive.{Proactive}
use Rattle.applet_trait.specs.declared.stimuli.Stimulus.{Stimulus}
use Rattle.applet_trait.specs.declared.stimuli.Stimulus.TheVariants.{Event, Response}
use Rattle.applet_trait.specs.declared.stimuli.Act.{Act}
use Rattle.toolkit_model.specs.Passing.{Happening, Turned, Committed}

-- what an applet is told of its own act
abbrev pub IsInner : Stimulus → Type 0
IsInner (Event code body) = ⊥
IsInner (Response result item text) = ⊥
IsInner _ = Unit {0}

-- a turn of the applet of a shelf
abbrev pub turn_of : ℕ → Stimulus → Act → Option Proactive → Happening
turn_of shelf stimulus act sent = Turned (record { shelf = shelf; stimulus = stimulus; act = act; is_admitted = is_some sent })

-- a commit, or none
abbrev pub IsCommit : List Happening → Type 0
IsCommit [] = Unit {0}
IsCommit (Committed change rows ∷ []) = Unit {0}
IsCommit _ = ⊥
