-- What a handset does next, a row for each proactive command, each answer and each line (ETSI TS 102 223, 6.4 to 7).
use Rattle.std.specs.Prelude.{ℕ, ◌-◌, Bool, true, false, ◌&&◌, List, [], ◌∷◌, length, Option, Some, None, Result as Outcome, Ok, Err, is_none, nat_le, ◌==◌, if◌then◌else◌}
use Rattle.std.specs.List.{list_any}
use Rattle.uicc_types.specs.declared.answers.Answer.{Answer}
use Rattle.uicc_types.specs.declared.answers.TheConstants.StatusWord.{TOOLKIT_BUSY}
use Rattle.script_form.specs.declared.handset.HandsetLine.{HandsetLine}
use Rattle.script_form.specs.declared.handset.HandsetLine.TheVariants.{UserOk, UserEnd, UserBack, UserNone, UserType, UserPick, UserPress, UserIdle, UserDial, NetPlace, NetPoll, Time, Reset}
use Rattle.script_form.specs.declared.handset.Note.{Note}
use Rattle.script_form.specs.declared.handset.Note.TheVariants.{Text, Ask, Choose, Menu, Tone, Idle, Call, Barred, Busy}
use Rattle.toolkit_commands.specs.Values.{is_pair}
use Rattle.toolkit_commands.specs.Reading.{proactive_of, details_found}
use Rattle.toolkit_commands.specs.declared.commands.Details.{Details}
use Rattle.toolkit_commands.specs.declared.commands.Proactive.{Proactive}
use Rattle.toolkit_commands.specs.declared.commands.Proactive.TheVariants.{Refresh, MoreTime, PollInterval, SetUpEventList, PlayTone, DisplayText, GetInkey, GetInput, SelectItem, SetUpMenu, LocalInformation, TimerManagement, IdleText}
use Rattle.toolkit_commands.specs.declared.faults.ProactiveFault.{ProactiveFault}
use Rattle.toolkit_commands.specs.declared.faults.ProactiveFault.TheVariants.{Tlv, Missing, UnknownType, BadData}
use Rattle.toolkit_commands.specs.declared.items.Item.{Item}
use Rattle.toolkit_commands.specs.declared.qualifiers.TheConstants.{CARD_RESET, LOCATION, START}
use Rattle.toolkit_commands.specs.declared.results.TheConstants.{PERFORMED, SESSION_ENDED, BACKWARD_MOVE, NO_RESPONSE, BEYOND_CAPABILITIES, TYPE_NOT_UNDERSTOOD, DATA_NOT_UNDERSTOOD, VALUES_MISSING}
use Rattle.handset_model.specs.Timers.{soonest, time_of, timer_in}
use Rattle.handset_model.specs.History.{Happened, known, is_silent, announced_by, Said, Sent, Answered, Noted, Restarted, PowerCut, FoundOff}
use Rattle.handset_model.specs.declared.commands.Command.TheVariants.{SelectMf, SendProfile, Fetch, Respond, Tell, AskStatus}
use Rattle.handset_model.specs.declared.commands.Report.{Report}
use Rattle.handset_model.specs.declared.commands.Report.TheVariants.{MenuSelection, UserActivity, IdleScreen, Location, CallControl, Expired}
use Rattle.handset_model.specs.declared.commands.Reply.{Reply}
use Rattle.handset_model.specs.declared.commands.Reply.TheVariants.{Result, Typed, Chosen, Interval, Located, Unable, Started, Left, NotRunning}
use Rattle.handset_model.specs.declared.known.Due.{Due}
use Rattle.handset_model.specs.declared.known.Duty.{Duty}
use Rattle.handset_model.specs.declared.known.Duty.TheVariants.{Rest, Transmit, Await, Show, ResetCard}
use Rattle.handset_model.specs.declared.known.Held.{Held}
use Rattle.handset_model.specs.declared.known.Known.{Known}
use Rattle.handset_model.specs.declared.known.LastSent.{LastSent}
use Rattle.handset_model.specs.declared.known.LastSent.TheVariants.{NoCommand, Selecting, Fetching, Calling, Reporting, Another}
use Rattle.handset_model.specs.declared.known.Running.{Running}

-- to send an envelope
abbrev pub tell : Report → Duty
tell report = Transmit (Tell report)

-- to send a terminal response to the held command
abbrev pub respond : Held → Reply → Duty
respond held reply = Transmit (Respond held.details reply)

-- what is done with the held command, if there is one
abbrev pub with_held : Option Held → (Held → Duty) → Duty
with_held None react = Rest
with_held (Some held) react = react held

-- ---- between two sessions

-- the timer that is to be reported: the first one due, once its moment has come
abbrev pub ripe : ℕ → Option Due → Option Due
ripe clock None = None
ripe clock (Some due) = if nat_le due.due clock then Some due else None

-- to report the timer that is due, if one is (7.4)
abbrev pub report_due : Option Due → Duty
report_due None = Rest
report_due (Some due) = tell (Expired due.timer due.value due.due)

-- The session is over: in a line that lets time pass the next timer is reported that is due in it, and else the line is done.
unfoldable pub settled : Known → Duty
settled known = if known.is_timed then report_due (ripe known.clock (soonest 1 known.timers)) else Rest

-- the command is fetched that the card announced, or the session is over
abbrev pub fetch_or_settle : Option ℕ → Known → Duty
fetch_or_settle None known = settled known
fetch_or_settle (Some size) known = Transmit (Fetch size)

-- ---- carrying out a proactive command

-- the location is told; where none is known the handset is unable to process the command
abbrev pub located : Option (List ℕ) → Reply
located None = Unable
located (Some place) = Located place

-- PROVIDE LOCAL INFORMATION (6.4.15): the location alone; anything else is beyond the handset's capabilities
abbrev pub local_information : ℕ → Known → Reply
local_information what known = if what == LOCATION then located known.place else Result BEYOND_CAPABILITIES

-- what is left of a timer, or that it doesn't run
abbrev pub left_of : ℕ → ℕ → Option Running → Reply
left_of timer now None = NotRunning timer
left_of timer now (Some running) = Left timer (time_of (running.due - now))

-- TIMER MANAGEMENT (6.4.21): a timer was started, or what is left of it
abbrev pub timer_reply : ℕ → ℕ → Known → Reply
timer_reply action timer known =
    if action == START then Started timer else left_of timer known.moment (timer_in known.timers timer)

-- REFRESH (6.4.7): for a reset of the card (04) the card is reset, and where it was so in this line already the handset is unable to; any other mode
-- counts as performed
abbrev pub refresh : ℕ → Held → Known → Duty
refresh mode held known =
    if mode == CARD_RESET then (if known.is_refreshed then respond held Unable else ResetCard) else respond held (Result PERFORMED)

-- what becomes of a command; known is what the handset knew before it was fetched
abbrev pub carried_out : Proactive → Held → Known → Duty
carried_out (DisplayText text) held known = Show (Text text)
carried_out (GetInkey text) held known = Show (Ask text)
carried_out (GetInput text digits least most) held known = Show (Ask text)
carried_out (SelectItem title items) held known = Show (Choose (length items))
carried_out (SetUpMenu title items) held known = Show (Menu (length items))
carried_out (SetUpEventList events) held known = respond held (Result PERFORMED)
carried_out (PlayTone tone) held known = Show (Tone tone)
carried_out (IdleText text) held known = Show (Idle text)
carried_out MoreTime held known = respond held (Result PERFORMED)
carried_out (PollInterval seconds) held known = respond held (Interval seconds)
carried_out (LocalInformation what) held known = respond held (local_information what known)
carried_out (TimerManagement action timer value) held known = respond held (timer_reply action timer known)
carried_out (Refresh mode) held known = refresh mode held known

-- the result for a command that cannot be read
abbrev pub fault_result : ProactiveFault → ℕ
fault_result (UnknownType kind) = TYPE_NOT_UNDERSTOOD
fault_result Missing = VALUES_MISSING
fault_result Tlv = DATA_NOT_UNDERSTOOD
fault_result BadData = DATA_NOT_UNDERSTOOD

-- a command that was fetched is carried out; one that can't be read is answered with the result for its fault
abbrev pub fetched : Outcome (Details × Proactive) ProactiveFault → Details → Known → Duty
fetched (Ok found) details known = carried_out found.1 (record { details = found.0; command = found.1 }) known
fetched (Err fault) details known = Transmit (Respond details (Result (fault_result fault)))

-- ---- what an answer asks for

-- an envelope that the card was too busy for is given up
abbrev pub unless_busy : Answer → Duty → Duty
unless_busy answer duty = if answer.status.0 == TOOLKIT_BUSY.0 then Show Busy else duty

-- what call control says: the call may be set up, or it may not (7.3.1.6)
abbrev pub after_call : List ℕ → Duty → Duty
after_call body duty =
    if is_pair body 0x00 0x00 then Show Call else (if is_pair body 0x01 0x00 then Show Barred else duty)

-- the command that the answer announces is fetched, or the session is over
abbrev pub followed : Answer → Known → Duty
followed answer known = fetch_or_settle (announced_by answer) known

-- by what was sent last; known is what the handset knew before the answer
abbrev pub answered : LastSent → Answer → Known → Duty
answered NoCommand answer known = Rest
answered Selecting answer known = Transmit SendProfile
answered Fetching answer known = fetched (proactive_of answer.body) (details_found answer.body) known
answered Calling answer known = unless_busy answer (after_call answer.body (followed answer known))
answered Reporting answer known = unless_busy answer (followed answer known)
answered Another answer known = followed answer known

-- ---- what follows a note

-- the held command, if there is one, is answered as performed
abbrev pub respond_done : Option Held → Duty
respond_done held = with_held held (λ command. respond command (Result PERFORMED))

-- by the note: a text, a question and a choice wait for the user; a menu, a tone and an idle text are answered as performed; after call control the
-- announced command is fetched; a busy card is left alone
abbrev pub noted : Note → Known → Duty
noted (Text text) known = settled known
noted (Ask text) known = settled known
noted (Choose count) known = settled known
noted (Menu count) known = respond_done known.held
noted (Tone tone) known = respond_done known.held
noted (Idle text) known = respond_done known.held
noted Call known = fetch_or_settle known.announced known
noted Barred known = fetch_or_settle known.announced known
noted Busy known = settled known

-- ---- what a line asks for

-- the held text was read
abbrev pub confirm : Proactive → Held → Duty
confirm (DisplayText text) held = respond held (Result PERFORMED)
confirm _ held = Rest

-- a text of so many bytes answers GET INKEY where it is one, and GET INPUT where they are as many as was asked for
abbrev pub takes : Proactive → ℕ → Bool
takes (GetInkey prompt) count = count == 1
takes (GetInput prompt digits least most) count = nat_le least count && nat_le count most
takes _ count = false

-- the text that the user typed answers the held command, where this takes one of its length
abbrev pub type_in : List ℕ → Held → Duty
type_in text held = if takes held.command (length text) then respond held (Typed text) else Rest

-- one of the items has this identifier
abbrev pub lists : ℕ → List Item → Bool
lists id items = list_any (λ item. item.id == id) items

-- to report that an item of the menu was selected (7.2), if the menu has it
abbrev pub pick_in_menu : ℕ → Known → Duty
pick_in_menu id known = if lists id known.menu then tell (MenuSelection id) else Rest

-- an item of a held choice, or else of the menu
abbrev pub pick : ℕ → Proactive → Held → Known → Duty
pick id (SelectItem title items) held known = if lists id items then respond held (Chosen id) else Rest
pick id _ held known = pick_in_menu id known

-- an item is picked of the held command, or of the menu where no command is held
abbrev pub pick_with : ℕ → Option Held → Known → Duty
pick_with id None known = pick_in_menu id known
pick_with id (Some held) known = pick id held.command held known

-- the held command, if there is one, is answered with this general result (8.12)
abbrev pub end_with : ℕ → Known → Duty
end_with general known = with_held known.held (λ held. respond held (Result general))

-- what each line asks for: the user's answers to the held command, the events that are listed, a call, a STATUS, the timers that are due, a reset
abbrev pub said : HandsetLine → Known → Duty
said UserOk known = with_held known.held (λ held. confirm held.command held)
said UserEnd known = end_with SESSION_ENDED known
said UserBack known = end_with BACKWARD_MOVE known
said UserNone known = end_with NO_RESPONSE known
said (UserType text) known = with_held known.held (λ held. type_in text held)
said (UserPick id) known = pick_with id known.held known
said UserPress known = if known.listed.activity then tell UserActivity else Rest
said UserIdle known = if known.listed.idle && is_none known.held then tell IdleScreen else Rest
said (UserDial digits) known = tell (CallControl digits)
said (NetPlace place) known = if known.listed.location then tell (Location place) else Rest
said NetPoll known = Transmit AskStatus
said (Time seconds) known = settled known
said Reset known = ResetCard

-- the line is `reset`
abbrev pub is_reset : HandsetLine → Bool
is_reset Reset = true
is_reset _ = false

-- while it is silent a handset does nothing for a line, but for a reset
abbrev pub said_at : Bool → HandsetLine → Known → Duty
said_at true line known = if is_reset line then ResetCard else Rest
said_at false line known = said line known

-- while the handset is silent no answer asks for anything
abbrev pub answered_at : Bool → Answer → Known → Duty
answered_at true answer known = Rest
answered_at false answer known = answered known.last_sent answer known

-- ---- what is asked next

-- by what happened last
abbrev pub asked : List Happened → Duty
asked [] = Transmit SelectMf
asked (Said line ∷ h) = said_at (is_silent h) line (known (Said line ∷ h))
asked (Sent command ∷ h) = Await
asked (Answered answer ∷ h) = answered_at (is_silent (Answered answer ∷ h)) answer (known h)
asked (Noted note ∷ h) = noted note (known h)
asked (Restarted ∷ h) = Transmit SelectMf
asked (PowerCut ∷ h) = Rest
asked (FoundOff ∷ h) = Rest
