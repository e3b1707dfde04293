-- Reading a proactive command (ETSI TS 102 223, 6.6 and clause 8): what each type of command needs, and what its objects
-- then say; and the four faults in their order. The first object with each tag counts, and all items do, whichever flags
-- they have; other objects are passed over.
use Rattle.std.specs.Prelude.{ℕ, Bool, true, ◌&&◌, List, [], ◌∷◌, Option, Some, None, Result, Ok, Err, is_none, unwrap_or, option_map, option_and_then, find, nat_le, ◌==◌, if◌then◌else◌}
use Rattle.std.specs.List.{list_any}
use Rattle.comprehension_tlv.specs.Model.{Object}
use Rattle.comprehension_tlv.specs.Reading.{first_value, objects_of, template_of}
use Rattle.comprehension_tlv.specs.declared.faults.TlvFault.{TlvFault}
use Rattle.toolkit_commands.specs.Values.{◌>>=◌, one_byte, two_bytes, seconds_of, text_of, short_text_of, timer_of, time_of, no_time, is_pair, values, choice_of, menu_read}
use Rattle.toolkit_commands.specs.declared.devices.TheConstants.{DISPLAY, EARPIECE, CARD, TERMINAL}
use Rattle.toolkit_commands.specs.declared.kinds.TheConstants.{REFRESH, MORE_TIME, POLL_INTERVAL, SET_UP_EVENT_LIST, PLAY_TONE, DISPLAY_TEXT, GET_INKEY, GET_INPUT, SELECT_ITEM, SET_UP_MENU, LOCAL_INFORMATION, TIMER_MANAGEMENT, IDLE_TEXT}
use Rattle.toolkit_commands.specs.declared.qualifiers.TheConstants.{NONE, UNTIL_CLEARED, DIGITS, CHARACTERS, START, GET_VALUE}
use Rattle.toolkit_commands.specs.declared.tags.TheConstants.{PROACTIVE_COMMAND, COMMAND_DETAILS, DEVICE_IDENTITIES, DURATION, ALPHA_IDENTIFIER, TEXT_STRING, TONE, ITEM, RESPONSE_LENGTH, EVENT_LIST, TIMER_IDENTIFIER, TIMER_VALUE}
use Rattle.toolkit_commands.specs.declared.faults.ProactiveFault.{ProactiveFault}
use Rattle.toolkit_commands.specs.declared.faults.ProactiveFault.TheVariants.{Tlv, Missing, UnknownType, BadData}
use Rattle.toolkit_commands.specs.declared.commands.Details.{Details}
use Rattle.toolkit_commands.specs.declared.commands.Proactive.{Proactive}
use Rattle.toolkit_commands.specs.declared.commands.Proactive.TheVariants.{Refresh, MoreTime, PollInterval, SetUpEventList, PlayTone, DisplayText, GetInkey, GetInput, SelectItem, SetUpMenu, LocalInformation, TimerManagement, IdleText}

-- ---- the table

-- The value of the first object with the tag; of an object that isn't there, no bytes, which are never looked at.
abbrev pub value : ℕ → List Object → List ℕ
value tag list = unwrap_or (first_value tag list) []

-- One type of command: the qualifiers that it has, the device that it goes to, the tags of the objects that have to be
-- there, and the command that the values of the objects say. These may depend on the qualifier.
pub record TypeRow : Type 0 where
  pub kind : ℕ
  pub has_qualifier : ℕ → Bool
  pub destination : ℕ
  pub needs : ℕ → List ℕ
  pub says : ℕ → List Object → Result Proactive ProactiveFault

-- a row by its parts
abbrev pub type_row : ℕ → (ℕ → Bool) → ℕ → (ℕ → List ℕ) → (ℕ → List Object → Result Proactive ProactiveFault) → TypeRow
type_row kind has_qualifier destination needs says =
    record { kind = kind; has_qualifier = has_qualifier; destination = destination; needs = needs; says = says }

-- any qualifier
abbrev pub any_one : ℕ → Bool
any_one qualifier = true

-- this qualifier alone
abbrev pub only : ℕ → ℕ → Bool
only wanted qualifier = wanted == qualifier

-- a qualifier up to this one
abbrev pub up_to : ℕ → ℕ → Bool
up_to most qualifier = nat_le qualifier most

-- the same objects, whatever the qualifier
abbrev pub always : List ℕ → ℕ → List ℕ
always tags qualifier = tags

-- a timer's value is needed only where the timer is started
abbrev pub timer_needs : ℕ → List ℕ
timer_needs qualifier =
    if qualifier == START then TIMER_IDENTIFIER ∷ TIMER_VALUE ∷ [] else TIMER_IDENTIFIER ∷ []

-- POLL INTERVAL, with its duration
abbrev pub poll_interval_said : List Object → Result Proactive ProactiveFault
poll_interval_said list = seconds_of (value DURATION list) >>= λ seconds. Ok (PollInterval seconds)

-- PLAY TONE, with its tone
abbrev pub tone_said : List Object → Result Proactive ProactiveFault
tone_said list = one_byte (value TONE list) >>= λ tone. Ok (PlayTone tone)

-- a command that is one text: DISPLAY TEXT, GET INKEY or SET UP IDLE MODE TEXT
abbrev pub text_said : (List ℕ → Proactive) → List Object → Result Proactive ProactiveFault
text_said command list = text_of (value TEXT_STRING list) >>= λ text. Ok (command text)

-- GET INPUT, with its text, whether it asks for digits alone, and the least and the greatest length of the answer (8.11)
abbrev pub input_said : ℕ → List Object → Result Proactive ProactiveFault
input_said qualifier list = do
  text ← text_of (value TEXT_STRING list)
  bounds ← two_bytes (value RESPONSE_LENGTH list)
  Ok (GetInput text (qualifier == DIGITS) bounds.0 bounds.1)

-- SELECT ITEM, with its title and its items
abbrev pub choice_said : List Object → Result Proactive ProactiveFault
choice_said list = do
  title ← short_text_of (value ALPHA_IDENTIFIER list)
  items ← choice_of (values ITEM list)
  Ok (SelectItem title items)

-- SET UP MENU, with its title and its items
abbrev pub menu_said : List Object → Result Proactive ProactiveFault
menu_said list = do
  title ← short_text_of (value ALPHA_IDENTIFIER list)
  items ← menu_read (values ITEM list)
  Ok (SetUpMenu title items)

-- TIMER MANAGEMENT, with the timer, and with its value where it is started
abbrev pub timer_said : ℕ → List Object → Result Proactive ProactiveFault
timer_said action list = do
  timer ← timer_of (value TIMER_IDENTIFIER list)
  time ← if action == START then time_of (value TIMER_VALUE list) else Ok no_time
  Ok (TimerManagement action timer time)

-- The commands as this card sends them: type, qualifier, destination, the objects that have to be there, and what they say. The standard
-- lets a tone, or the title of a choice, be missing, and knows further qualifiers.
abbrev pub type_table : List TypeRow
type_table =
    type_row REFRESH any_one TERMINAL (always []) (λ mode list. Ok (Refresh mode))
    ∷ type_row MORE_TIME (only NONE) TERMINAL (always []) (λ qualifier list. Ok MoreTime)
    ∷ type_row POLL_INTERVAL (only NONE) TERMINAL (always (DURATION ∷ [])) (λ qualifier list. poll_interval_said list)
    ∷ type_row SET_UP_EVENT_LIST (only NONE) TERMINAL (always (EVENT_LIST ∷ [])) (λ qualifier list. Ok (SetUpEventList (value EVENT_LIST list)))
    ∷ type_row PLAY_TONE (only NONE) EARPIECE (always (TONE ∷ [])) (λ qualifier list. tone_said list)
    ∷ type_row DISPLAY_TEXT (only UNTIL_CLEARED) DISPLAY (always (TEXT_STRING ∷ [])) (λ qualifier list. text_said (λ text. DisplayText text) list)
    ∷ type_row GET_INKEY (only CHARACTERS) TERMINAL (always (TEXT_STRING ∷ [])) (λ qualifier list. text_said (λ text. GetInkey text) list)
    ∷ type_row GET_INPUT (up_to CHARACTERS) TERMINAL (always (TEXT_STRING ∷ RESPONSE_LENGTH ∷ [])) (λ qualifier list. input_said qualifier list)
    ∷ type_row SELECT_ITEM (only NONE) TERMINAL (always (ALPHA_IDENTIFIER ∷ ITEM ∷ [])) (λ qualifier list. choice_said list)
    ∷ type_row SET_UP_MENU (only NONE) TERMINAL (always (ALPHA_IDENTIFIER ∷ ITEM ∷ [])) (λ qualifier list. menu_said list)
    ∷ type_row LOCAL_INFORMATION any_one TERMINAL (always []) (λ what list. Ok (LocalInformation what))
    ∷ type_row TIMER_MANAGEMENT (up_to GET_VALUE) TERMINAL timer_needs (λ action list. timer_said action list)
    ∷ type_row IDLE_TEXT (only NONE) TERMINAL (always (TEXT_STRING ∷ [])) (λ qualifier list. text_said (λ text. IdleText text) list)
    ∷ []

-- the row of a type of command, if it is known
abbrev pub row_of_type : ℕ → Option TypeRow
row_of_type kind = find (λ row. kind == row.kind) type_table

-- ---- the details

-- the details in three bytes: the number, the type and the qualifier of a command
abbrev pub three : Option (List ℕ) → Option Details
three (Some (number ∷ kind ∷ qualifier ∷ [])) = Some (record { number = number; kind = kind; qualifier = qualifier })
three _ = None

-- the command details, where they are three bytes long (8.6)
abbrev pub details_in : List Object → Option Details
details_in list = three (first_value COMMAND_DETAILS list)

-- ---- the four faults, in their order

-- what the command's type needs; of a type that isn't known, or where the details aren't three bytes long, nothing
abbrev pub type_needs : Option Details → List ℕ
type_needs None = []
type_needs (Some details) = unwrap_or (option_map (λ row. row.needs details.qualifier) (row_of_type details.kind)) []

-- the tags of the objects that have to be there
abbrev pub needed_by : Option Details → List ℕ
needed_by details = COMMAND_DETAILS ∷ DEVICE_IDENTITIES ∷ type_needs details

-- one of the objects isn't there
abbrev pub lacks_one : List Object → List ℕ → Bool
lacks_one list tags = list_any (λ tag. is_none (first_value tag list)) tags

-- what the row of the type says, where qualifier and devices are as the row has them
abbrev pub by_row : Details → List Object → Option TypeRow → Result (Details × Proactive) ProactiveFault
by_row details list None = Err (UnknownType details.kind)
by_row details list (Some row) =
    if row.has_qualifier details.qualifier && is_pair (value DEVICE_IDENTITIES list) CARD row.destination
    then (row.says details.qualifier list >>= λ command. Ok (details, command)) else Err BadData

-- what a command with these details says; BadData where they aren't three bytes long
abbrev pub by_details : List Object → Option Details → Result (Details × Proactive) ProactiveFault
by_details list None = Err BadData
by_details list (Some details) = by_row details list (row_of_type details.kind)

-- the command of a list of objects
unfoldable pub command_among : List Object → Result (Details × Proactive) ProactiveFault
command_among list =
    if lacks_one list (needed_by (details_in list)) then Err Missing else by_details list (details_in list)

-- the objects, where the bytes are a list of them
abbrev pub in_list : Result (List Object) TlvFault → Option (List Object)
in_list (Ok list) = Some list
in_list (Err fault) = None

-- the list of objects in a template, where its tag is that of a proactive command (D0)
abbrev pub in_template : Result (ℕ × List ℕ) TlvFault → Option (List Object)
in_template (Ok x) = if x.0 == PROACTIVE_COMMAND then in_list (objects_of x.1) else None
in_template (Err fault) = None

-- the list of objects in the template of a command, if the bytes are one
unfoldable pub list_of : List ℕ → Option (List Object)
list_of bytes = in_template (template_of bytes)

-- the command of a list of objects; Tlv where the bytes are none
abbrev pub or_tlv : Option (List Object) → Result (Details × Proactive) ProactiveFault
or_tlv None = Err Tlv
or_tlv (Some list) = command_among list

-- the command that the bytes are, with its details, or the first fault
unfoldable pub proactive_of : List ℕ → Result (Details × Proactive) ProactiveFault
proactive_of bytes = or_tlv (list_of bytes)

-- ---- the details of a command that cannot be read

-- the details 00 00 00
abbrev pub no_details : Details
no_details = record { number = 0x00; kind = 0x00; qualifier = 0x00 }

-- the details where they are found and are three bytes long, else 00 00 00
unfoldable pub details_found : List ℕ → Details
details_found bytes = unwrap_or (option_and_then details_in (list_of bytes)) no_details
