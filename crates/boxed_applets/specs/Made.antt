-- What a method did, as a turn.
use Rattle.applet_trait.specs.declared.stimuli.Act.{Act}
use Rattle.applet_trait.specs.Minds.{AppletState, Turn}

-- the turn of an applet that does this and goes on with this mind
abbrev pub made : Act → AppletState → Turn
made does next = record { does = does; next = next }
