-- What a line of a script says to a handset.
use Rattle.std.specs.Prelude.{Option, Some, None}
use Rattle.script_form.specs.declared.handset.HandsetLine.{HandsetLine}
use Rattle.script_form.specs.declared.handset.HandsetLine.TheVariants as heard
use Rattle.script_form.specs.declared.lines.ScriptLine.{ScriptLine}
use Rattle.script_form.specs.declared.lines.ScriptLine.TheVariants.{Reset, UserOk, UserEnd, UserBack, UserNone, UserType, UserPick, UserPress, UserIdle, UserDial, NetPlace, NetPoll, Time}

-- what happens at a handset by the line; nothing by a line of another kind
abbrev pub handset_line : ScriptLine → Option HandsetLine
handset_line UserOk = Some heard.UserOk
handset_line UserEnd = Some heard.UserEnd
handset_line UserBack = Some heard.UserBack
handset_line UserNone = Some heard.UserNone
handset_line (UserType text) = Some (heard.UserType text)
handset_line (UserPick id) = Some (heard.UserPick id)
handset_line UserPress = Some heard.UserPress
handset_line UserIdle = Some heard.UserIdle
handset_line (UserDial digits) = Some (heard.UserDial digits)
handset_line (NetPlace place) = Some (heard.NetPlace place)
handset_line NetPoll = Some heard.NetPoll
handset_line (Time seconds) = Some (heard.Time seconds)
handset_line Reset = Some heard.Reset
handset_line _ = None
