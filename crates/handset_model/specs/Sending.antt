-- The bytes of what a handset sends (ETSI TS 102 221, 11; TS 102 223, 6.8 and 7).
use Rattle.std.specs.Prelude.{ℕ, ◌+◌, ◌*◌, ◌%◌, List, [], ◌∷◌, ◌++◌, length}
use Rattle.uicc_types.specs.declared.events.TheConstants.{LOCATION_STATUS as LOCATION_EVENT, USER_ACTIVITY, IDLE_SCREEN}
use Rattle.comprehension_tlv.specs.Model.{Object}
use Rattle.comprehension_tlv.specs.Writing.{tagged, spellings}
use Rattle.toolkit_commands.specs.Table.{required, text_string, timer_value}
use Rattle.toolkit_commands.specs.Responses.{result_object}
use Rattle.toolkit_commands.specs.declared.commands.Details.{Details}
use Rattle.toolkit_commands.specs.declared.devices.TheConstants.{KEYPAD, DISPLAY, CARD, TERMINAL}
use Rattle.toolkit_commands.specs.declared.qualifiers.TheConstants.{IN_SECONDS}
use Rattle.toolkit_commands.specs.declared.results.TheConstants.{PERFORMED, UNABLE_TO_PROCESS, AGAINST_TIMER_STATE}
use Rattle.toolkit_commands.specs.declared.tags.TheConstants.{MENU_SELECTION, CALL_CONTROL, EVENT_DOWNLOAD, TIMER_EXPIRATION, COMMAND_DETAILS, DEVICE_IDENTITIES, RESULT, DURATION, ADDRESS, ITEM_IDENTIFIER, LOCATION_INFORMATION, EVENT_LIST, LOCATION_STATUS, TIMER_IDENTIFIER}
use Rattle.handset_model.specs.declared.commands.Command.{Command}
use Rattle.handset_model.specs.declared.commands.Command.TheVariants.{SelectMf, SendProfile, Fetch, Respond, Tell, AskStatus}
use Rattle.handset_model.specs.declared.commands.Report.{Report}
use Rattle.handset_model.specs.declared.commands.Report.TheVariants.{MenuSelection, UserActivity, IdleScreen, Location, CallControl, Expired}
use Rattle.handset_model.specs.declared.commands.Reply.{Reply}
use Rattle.handset_model.specs.declared.commands.Reply.TheVariants.{Result, Typed, Chosen, Interval, Located, Unable, Started, Left, NotRunning}

-- who speaks, and that the card is spoken to (TS 102 223, 8.7)
abbrev pub from : ℕ → Object
from device = required DEVICE_IDENTITIES (device ∷ CARD ∷ [])

-- a timer identifier (TS 102 223, 8.37)
abbrev pub timer_object : ℕ → Object
timer_object timer = required TIMER_IDENTIFIER (timer ∷ [])

-- ---- terminal responses

-- the result that the command was performed (00), and one object after it
abbrev pub performed : Object → List Object
performed object = result_object PERFORMED ∷ object ∷ []

-- the result (TS 102 223, 8.12) and what goes with it: a text, an item, a duration, a location, a timer
abbrev pub reply_objects : Reply → List Object
reply_objects (Result general) = result_object general ∷ []
reply_objects (Typed text) = performed (text_string text)
reply_objects (Chosen item) = performed (required ITEM_IDENTIFIER (item ∷ []))
reply_objects (Interval seconds) = performed (required DURATION (IN_SECONDS ∷ seconds ∷ []))
reply_objects (Located place) = performed (required LOCATION_INFORMATION place)
reply_objects Unable = required RESULT (UNABLE_TO_PROCESS ∷ 0x00 ∷ []) ∷ []
reply_objects (Started timer) = performed (timer_object timer)
reply_objects (Left timer value) = result_object PERFORMED ∷ timer_object timer ∷ timer_value value ∷ []
reply_objects (NotRunning timer) = result_object AGAINST_TIMER_STATE ∷ timer_object timer ∷ []

-- the details are copied, and all objects carry the comprehension flag
abbrev pub response_objects : Details → Reply → List Object
response_objects details reply =
    required COMMAND_DETAILS (details.number ∷ details.kind ∷ details.qualifier ∷ []) ∷ from TERMINAL ∷ reply_objects reply

-- ---- envelopes

-- decimal digits two to a byte, the first in the lower half, filled up with F (TS 102 223, 8.1)
abbrev pub packed : List ℕ → List ℕ
packed [] = []
packed (first ∷ []) = (16 * 0xF + first % 16) ∷ []
packed (first ∷ second ∷ others) = (16 * (second % 16) + first % 16) ∷ packed others

-- the type of number is unknown, and the numbering plan is that of ISDN and telephony (TS 102 223, 8.1)
abbrev pub UNKNOWN_TYPE_ISDN : ℕ
UNKNOWN_TYPE_ISDN = 0x81

-- the first objects of an event download (TS 102 223, 7.5): the event, and who tells it
abbrev pub event : ℕ → ℕ → List Object
event code device = required EVENT_LIST (code ∷ []) ∷ from device ∷ []

-- the handset is in normal service (TS 102 223, 8.27)
abbrev pub NORMAL_SERVICE : ℕ
NORMAL_SERVICE = 0x00

-- the tag of each envelope: menu selection, event download, call control, timer expiration
abbrev pub template_of : Report → ℕ
template_of (MenuSelection item) = MENU_SELECTION
template_of UserActivity = EVENT_DOWNLOAD
template_of IdleScreen = EVENT_DOWNLOAD
template_of (Location place) = EVENT_DOWNLOAD
template_of (CallControl digits) = CALL_CONTROL
template_of (Expired timer value due) = TIMER_EXPIRATION

-- the objects of each envelope (TS 102 223, 7)
abbrev pub report_objects : Report → List Object
report_objects (MenuSelection item) = from KEYPAD ∷ required ITEM_IDENTIFIER (item ∷ []) ∷ []
report_objects UserActivity = event USER_ACTIVITY TERMINAL
report_objects IdleScreen = event IDLE_SCREEN DISPLAY
report_objects (Location place) =
    event LOCATION_EVENT TERMINAL ++ required LOCATION_STATUS (NORMAL_SERVICE ∷ []) ∷ required LOCATION_INFORMATION place ∷ []
report_objects (CallControl digits) = from TERMINAL ∷ required ADDRESS (UNKNOWN_TYPE_ISDN ∷ packed digits) ∷ []
report_objects (Expired timer value due) = from TERMINAL ∷ timer_object timer ∷ timer_value value ∷ []

-- the bytes of an envelope
abbrev pub envelope : Report → List ℕ
envelope report = tagged (template_of report) (spellings (report_objects report))

-- ---- commands

-- a command of the toolkit with data
abbrev pub toolkit_apdu : ℕ → List ℕ → List ℕ
toolkit_apdu instruction content = 0x80 ∷ instruction ∷ 0x00 ∷ 0x00 ∷ length content ∷ content

-- the bytes of a command
unfoldable pub apdu_of : Command → List ℕ
apdu_of SelectMf = 0x00 ∷ 0xA4 ∷ 0x00 ∷ 0x0C ∷ 0x02 ∷ 0x3F ∷ 0x00 ∷ []
apdu_of SendProfile = toolkit_apdu 0x10 (0x29 ∷ 0x00 ∷ 0xBF ∷ 0x61 ∷ 0x71 ∷ 0x00 ∷ 0x00 ∷ 0x13 ∷ [])
apdu_of (Fetch size) = 0x80 ∷ 0x12 ∷ 0x00 ∷ 0x00 ∷ size ∷ []
apdu_of (Respond details reply) = toolkit_apdu 0x14 (spellings (response_objects details reply))
apdu_of (Tell report) = toolkit_apdu 0xC2 (envelope report)
apdu_of AskStatus = 0x80 ∷ 0xF2 ∷ 0x00 ∷ 0x0C ∷ []
