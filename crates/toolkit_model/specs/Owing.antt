-- No event is lost: what envelopes gave an applet, what it was told of, and what is late for it.
use Rattle.std.specs.Prelude.{◌≡◌, ℕ, Bool, true, false, not, ◌&&◌, ◌==◌, List, ◌++◌, filter, Option, Some, None}
use Rattle.std.specs.List.{filter_map, list_any}
use Rattle.uicc_types.specs.declared.events.TheConstants.{PROFILE_DOWNLOAD, STATUS_COMMAND}
use Rattle.applet_trait.specs.declared.stimuli.Stimulus.{Stimulus}
use Rattle.applet_trait.specs.declared.stimuli.Stimulus.TheVariants.{Event}
use Rattle.toolkit_model.specs.Sessions.{LateTrigger}
use Rattle.toolkit_model.specs.Passing.{ToolkitState, Passed, Happening, Woke, Given, Turned}

-- those of an applet, but for the two events that the card also tells of itself
abbrev pub counts : ℕ → LateTrigger → Bool
counts shelf trigger = trigger.shelf == shelf && not (trigger.code == PROFILE_DOWNLOAD) && not (trigger.code == STATUS_COMMAND)

-- those of these events that are the applet's
abbrev pub owed : ℕ → List LateTrigger → List LateTrigger
owed shelf triggers = filter (counts shelf) triggers

-- the event that an envelope gave an applet, as it is noted
abbrev pub given_in : Happening → Option LateTrigger
given_in (Given trigger) = Some trigger
given_in _ = None

-- the event that an applet was told of, if it was told of one
abbrev pub event_of : ℕ → Stimulus → Option LateTrigger
event_of shelf (Event code body) = Some (record { shelf = shelf; code = code; body = body })
event_of shelf _ = None

-- the event that an applet was told of in this turn
abbrev pub told_in : Happening → Option LateTrigger
told_in (Turned turn) = event_of turn.shelf turn.stimulus
told_in _ = None

-- what envelopes gave it, and what it was told of
abbrev pub given_to : ℕ → List Happening → List LateTrigger
given_to shelf log = owed shelf (filter_map given_in log)

-- the events that the applet was told of
abbrev pub told_to : ℕ → List Happening → List LateTrigger
told_to shelf log = owed shelf (filter_map told_in log)

-- all applets woke
abbrev pub is_wake : Happening → Bool
is_wake Woke = true
is_wake _ = false

-- Where no applet woke: what was late for it and what envelopes gave it since then is, in this order, what it was told of
-- and what is late for it now.
abbrev pub LosesNothing : ℕ → ToolkitState → Passed → Type 0
LosesNothing shelf state passed =
    list_any is_wake passed.log ≡ false → owed shelf state.session.late ++ given_to shelf passed.log ≡ told_to shelf passed.log ++ owed shelf passed.state.session.late
