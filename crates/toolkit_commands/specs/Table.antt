-- The proactive commands as a table, one row a command (ETSI TS 102 223, 6.6 and 8.6), and how a command is spelled.
use Rattle.std.specs.Prelude.{◌≡◌, ℕ, ◌+◌, ◌*◌, ◌/◌, ◌%◌, ◌≤◌, Bool, true, false, ◌≢◌, List, [], ◌∷◌, length, map, ◌==◌, if◌then◌else◌}
use Rattle.comprehension_tlv.specs.Model.{Object}
use Rattle.comprehension_tlv.specs.Writing.{tagged, spellings}
use Rattle.toolkit_commands.specs.declared.items.Item.{Item}
use Rattle.toolkit_commands.specs.declared.commands.TimeValue.{TimeValue}
use Rattle.toolkit_commands.specs.declared.commands.Details.{Details}
use Rattle.toolkit_commands.specs.declared.commands.Proactive.{Proactive}
use Rattle.toolkit_commands.specs.declared.commands.Proactive.TheVariants.{Refresh, MoreTime, PollInterval, SetUpEventList, PlayTone, DisplayText, GetInkey, GetInput, SelectItem, SetUpMenu, LocalInformation, TimerManagement, IdleText}
use Rattle.toolkit_commands.specs.declared.devices.TheConstants.{DISPLAY, EARPIECE, CARD, TERMINAL}
use Rattle.toolkit_commands.specs.declared.kinds.TheConstants.{REFRESH, MORE_TIME, POLL_INTERVAL, SET_UP_EVENT_LIST, PLAY_TONE, DISPLAY_TEXT, GET_INKEY, GET_INPUT, SELECT_ITEM, SET_UP_MENU, LOCAL_INFORMATION, TIMER_MANAGEMENT, IDLE_TEXT}
use Rattle.toolkit_commands.specs.declared.qualifiers.TheConstants.{NONE, UNTIL_CLEARED, DIGITS, CHARACTERS, START, GET_VALUE, EIGHT_BITS, IN_SECONDS}
use Rattle.toolkit_commands.specs.declared.tags.TheConstants.{PROACTIVE_COMMAND, COMMAND_DETAILS, DEVICE_IDENTITIES, DURATION, ALPHA_IDENTIFIER, TEXT_STRING, TONE, ITEM, RESPONSE_LENGTH, EVENT_LIST, TIMER_IDENTIFIER, TIMER_VALUE}

-- a command's type, its qualifier, the device that it goes to, and its objects
pub record CommandRow : Type 0 where
  pub kind : ℕ
  pub qualifier : ℕ
  pub destination : ℕ
  pub objects : List Object

-- a row by its parts
abbrev pub command_row : ℕ → ℕ → ℕ → List Object → CommandRow
command_row kind qualifier destination objects =
    record { kind = kind; qualifier = qualifier; destination = destination; objects = objects }

-- all objects of a command carry the comprehension flag
abbrev pub required : ℕ → List ℕ → Object
required tag value = record { flag = true; tag = tag; value = value }

-- a text in bytes of eight bits (8.15)
abbrev pub text_string : List ℕ → Object
text_string text = required TEXT_STRING (EIGHT_BITS ∷ text)

-- an item: its identifier and its text (8.9)
abbrev pub item_object : Item → Object
item_object item = required ITEM (item.id ∷ item.text)

-- the items of a menu; one item without identifier and text takes the menu away
abbrev pub menu_objects : List Item → List Object
menu_objects [] = required ITEM [] ∷ []
menu_objects (item ∷ others) = map item_object (item ∷ others)

-- a number below 100 as two decimal digits, the lower one in the upper half of the byte (8.38)
abbrev pub two_digits : ℕ → ℕ
two_digits n = 16 * (n % 10) + n / 10

-- hours, minutes and seconds (8.38)
abbrev pub timer_value : TimeValue → Object
timer_value value = required TIMER_VALUE (two_digits value.hours ∷ two_digits value.minutes ∷ two_digits value.seconds ∷ [])

-- a timer has a value only where it is started
abbrev pub timer_objects : ℕ → ℕ → TimeValue → List Object
timer_objects action timer value =
    required TIMER_IDENTIFIER (timer ∷ []) ∷ (if action == START then timer_value value ∷ [] else [])

-- the qualifier of GET INPUT: 00 for digits alone, 01 for any characters (8.6)
abbrev pub input_qualifier : Bool → ℕ
input_qualifier true = DIGITS
input_qualifier false = CHARACTERS

-- the row of each command
abbrev pub row_of : Proactive → CommandRow
row_of (Refresh mode) = command_row REFRESH mode TERMINAL []
row_of MoreTime = command_row MORE_TIME NONE TERMINAL []
row_of (PollInterval seconds) = command_row POLL_INTERVAL NONE TERMINAL (required DURATION (IN_SECONDS ∷ seconds ∷ []) ∷ [])
row_of (SetUpEventList events) = command_row SET_UP_EVENT_LIST NONE TERMINAL (required EVENT_LIST events ∷ [])
row_of (PlayTone tone) = command_row PLAY_TONE NONE EARPIECE (required TONE (tone ∷ []) ∷ [])
row_of (DisplayText text) = command_row DISPLAY_TEXT UNTIL_CLEARED DISPLAY (text_string text ∷ [])
row_of (GetInkey text) = command_row GET_INKEY CHARACTERS TERMINAL (text_string text ∷ [])
row_of (GetInput text digits least most) =
    command_row GET_INPUT (input_qualifier digits) TERMINAL (text_string text ∷ required RESPONSE_LENGTH (least ∷ most ∷ []) ∷ [])
row_of (SelectItem title items) = command_row SELECT_ITEM NONE TERMINAL (required ALPHA_IDENTIFIER title ∷ map item_object items)
row_of (SetUpMenu title items) = command_row SET_UP_MENU NONE TERMINAL (required ALPHA_IDENTIFIER title ∷ menu_objects items)
row_of (LocalInformation what) = command_row LOCAL_INFORMATION what TERMINAL []
row_of (TimerManagement action timer value) = command_row TIMER_MANAGEMENT action TERMINAL (timer_objects action timer value)
row_of (IdleText text) = command_row IDLE_TEXT NONE TERMINAL (text_string text ∷ [])

-- the details of a command that has a number
abbrev pub details_of : Proactive → ℕ → Details
details_of command number =
    record { number = number; kind = (row_of command).kind; qualifier = (row_of command).qualifier }

-- all objects of a command: the details, the device identities, and those of its row
abbrev pub objects_of_command : Proactive → ℕ → List Object
objects_of_command command number =
    required COMMAND_DETAILS (number ∷ (row_of command).kind ∷ (row_of command).qualifier ∷ []) ∷ required DEVICE_IDENTITIES (CARD ∷ (row_of command).destination ∷ []) ∷ (row_of command).objects

-- the bytes of a command with its number
abbrev pub spelled : Proactive → ℕ → List ℕ
spelled command number = tagged PROACTIVE_COMMAND (spellings (objects_of_command command number))

-- a time that two digits can write
pub record IsWritable (value : TimeValue) : Type 0 where
  pub hours : value.hours ≤ 99
  pub minutes : value.minutes ≤ 99
  pub seconds : value.seconds ≤ 99

-- where a command has a time, two digits can write it
abbrev pub HasWritableTime : Proactive → Type 0
HasWritableTime (TimerManagement action timer value) = IsWritable value
HasWritableTime _ = Unit {0}

-- a timer from 1 to 8 that is started, deactivated or asked for its value; the time has two digits for each part, and is 0 unless the timer is
-- started
pub record IsProperTimer (action timer : ℕ) (value : TimeValue) : Type 0 where
  pub writable : IsWritable value
  pub zero_unless_started : action ≢ START → value ≡ record { hours = 0; minutes = 0; seconds = 0 }
  pub known_action : action ≤ GET_VALUE
  pub from_one : 1 ≤ timer
  pub to_eight : timer ≤ 8

-- a command that can be read back
abbrev pub IsProper : Proactive → Type 0
IsProper (SelectItem title items) = 1 ≤ length items
IsProper (TimerManagement action timer value) = IsProperTimer action timer value
IsProper _ = Unit {0}
