-- What an applet of each kind does at a stimulus.
use Rattle.std.specs.Prelude.{ℕ, ◌==◌, if◌then◌else◌}
use Rattle.applet_trait.specs.declared.stimuli.Stimulus.{Stimulus}
use Rattle.applet_trait.specs.Minds.{AppletState, Turn, done, no_longer_asking}
use Rattle.applet_trait.specs.Tables.{greeter, menu, clock, watcher, barrier, notebook, table}

-- the table of a kind
abbrev pub by_kind : ℕ → AppletState → Stimulus → Turn
by_kind kind mind stimulus =
    if kind == 1 then greeter mind stimulus
    else (if kind == 2 then menu mind stimulus
    else (if kind == 3 then clock mind stimulus
    else (if kind == 4 then watcher mind stimulus
    else (if kind == 5 then barrier mind stimulus
    else (if kind == 6 then notebook mind stimulus
    else (if kind == 7 then table mind stimulus
    else done mind))))))

-- the act and the next mind
unfoldable pub act : AppletState → Stimulus → Turn
act mind stimulus = by_kind mind.kind (no_longer_asking mind stimulus) stimulus
