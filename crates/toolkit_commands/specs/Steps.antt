-- How the bytes of a proactive command are read, step by step, as the functions of this crate cite it; bip_channels cites `Gives`,
-- `template_in` and `needed` too. What it comes to is the table of Reading.
use Rattle.std.specs.Prelude.{◌≡◌, ℕ, ◌&&◌, List, Option, Some, None, Result, Ok, Err, nat_le, ◌==◌, if◌then◌else◌}
use Rattle.comprehension_tlv.specs.Reading.{outline, value_of, template_of}
use Rattle.comprehension_tlv.specs.declared.faults.TlvFault.{TlvFault}
use Rattle.toolkit_commands.specs.Table.{row_of}
use Rattle.toolkit_commands.specs.Values.{◌>>=◌, one_byte, two_bytes, three_bytes, seconds_of, text_of, short_text_of, timer_of, time_of, no_time, is_pair, values, choice_of, menu_read}
use Rattle.toolkit_commands.specs.declared.faults.ProactiveFault.{ProactiveFault}
use Rattle.toolkit_commands.specs.declared.faults.ProactiveFault.TheVariants.{Tlv, Missing, UnknownType, BadData}
use Rattle.toolkit_commands.specs.declared.commands.Details.{Details}
use Rattle.toolkit_commands.specs.declared.commands.Proactive.{Proactive}
use Rattle.toolkit_commands.specs.declared.commands.Proactive.TheVariants.{Refresh, MoreTime, PollInterval, SetUpEventList, PlayTone, DisplayText, GetInkey, GetInput, SelectItem, SetUpMenu, LocalInformation, TimerManagement, IdleText}
use Rattle.toolkit_commands.specs.declared.devices.TheConstants.{CARD}
use Rattle.toolkit_commands.specs.declared.kinds.TheConstants.{REFRESH, MORE_TIME, POLL_INTERVAL, SET_UP_EVENT_LIST, PLAY_TONE, DISPLAY_TEXT, GET_INKEY, GET_INPUT, SELECT_ITEM, SET_UP_MENU, LOCAL_INFORMATION, TIMER_MANAGEMENT, IDLE_TEXT}
use Rattle.toolkit_commands.specs.declared.qualifiers.TheConstants.{DIGITS, START, GET_VALUE}
use Rattle.toolkit_commands.specs.declared.tags.TheConstants.{PROACTIVE_COMMAND, COMMAND_DETAILS, DEVICE_IDENTITIES, DURATION, ALPHA_IDENTIFIER, TEXT_STRING, TONE, ITEM, RESPONSE_LENGTH, EVENT_LIST, TIMER_IDENTIFIER, TIMER_VALUE}

-- what a function returned, seen by view, is what reading gives
abbrev pub Gives : {X Y : Type 0} → (X → Y) → Result X ProactiveFault → Result Y ProactiveFault → Type 0
Gives view (Ok x) read = read ≡ Ok (view x)
Gives view (Err e) read = read ≡ Err e

-- what a function wrote into a place is what reading gives, or it returned its fault
abbrev pub Writes : {A X : Type 0} → Result A ProactiveFault → X → Result X ProactiveFault → Type 0
Writes (Ok done) place read = read ≡ Ok place
Writes (Err e) place read = read ≡ Err e

-- the same of a command, whose details it returned
abbrev pub Tells : Result Details ProactiveFault → Proactive → Result (Details × Proactive) ProactiveFault → Type 0
Tells (Ok details) place read = read ≡ Ok (details, place)
Tells (Err e) place read = read ≡ Err e

-- bytes that are no list of objects
abbrev pub from_tlv : {A : Type 0} → Result A TlvFault → Result A ProactiveFault
from_tlv (Ok x) = Ok x
from_tlv (Err fault) = Err Tlv

-- an object that has to be there
abbrev pub or_missing : Option (List ℕ) → Result (List ℕ) ProactiveFault
or_missing None = Err Missing
or_missing (Some value) = Ok value

-- the list in the template of a command
unfoldable pub template_in : List ℕ → Result (List ℕ) ProactiveFault
template_in bytes = from_tlv (template_of bytes) >>= λ x. if x.0 == PROACTIVE_COMMAND then Ok x.1 else Err Tlv

-- the value of the first object with the tag
unfoldable pub needed : ℕ → List ℕ → Result (List ℕ) ProactiveFault
needed tag content = from_tlv (value_of tag content) >>= or_missing

-- the values of all items
abbrev pub items_in : List ℕ → List (List ℕ)
items_in content = values ITEM (outline content).objects

-- the text of a text string, which has to be there
unfoldable pub text_in : List ℕ → Result (List ℕ) ProactiveFault
text_in content = needed TEXT_STRING content >>= text_of

-- a command that is one text
abbrev pub text_command : (List ℕ → Proactive) → List ℕ → Result Proactive ProactiveFault
text_command make content = text_in content >>= λ text. Ok (make text)

-- POLL INTERVAL, from its duration
unfoldable pub poll_interval_in : List ℕ → Result Proactive ProactiveFault
poll_interval_in content = do
  duration ← needed DURATION content
  seconds ← seconds_of duration
  Ok (PollInterval seconds)

-- SET UP EVENT LIST, from its event list
unfoldable pub event_list_in : List ℕ → Result Proactive ProactiveFault
event_list_in content = needed EVENT_LIST content >>= λ events. Ok (SetUpEventList events)

-- PLAY TONE, from its tone
unfoldable pub tone_in : List ℕ → Result Proactive ProactiveFault
tone_in content = do
  value ← needed TONE content
  tone ← one_byte value
  Ok (PlayTone tone)

-- GET INPUT, from its text string and its response length
unfoldable pub input_in : ℕ → List ℕ → Result Proactive ProactiveFault
input_in qualifier content = do
  string ← needed TEXT_STRING content
  lengths ← needed RESPONSE_LENGTH content
  text ← text_of string
  bounds ← two_bytes lengths
  Ok (GetInput text (qualifier == DIGITS) bounds.0 bounds.1)

-- the title, and the value of the first item
unfoldable pub titled_in : List ℕ → Result (List ℕ × List ℕ) ProactiveFault
titled_in content = do
  alpha ← needed ALPHA_IDENTIFIER content
  first ← needed ITEM content
  title ← short_text_of alpha
  Ok (title, first)

-- SELECT ITEM, from its title and its items
unfoldable pub choice_in : List ℕ → Result Proactive ProactiveFault
choice_in content = do
  titled ← titled_in content
  items ← choice_of (items_in content)
  Ok (SelectItem titled.0 items)

-- SET UP MENU, from its title and its items
unfoldable pub menu_in : List ℕ → Result Proactive ProactiveFault
menu_in content = do
  titled ← titled_in content
  items ← menu_read (items_in content)
  Ok (SetUpMenu titled.0 items)

-- TIMER MANAGEMENT that starts a timer, from its identifier and its value
unfoldable pub started_timer_in : List ℕ → Result Proactive ProactiveFault
started_timer_in content = do
  identifier ← needed TIMER_IDENTIFIER content
  span ← needed TIMER_VALUE content
  timer ← timer_of identifier
  value ← time_of span
  Ok (TimerManagement START timer value)

-- any other TIMER MANAGEMENT, from its identifier; an unknown action is BadData
unfoldable pub other_timer_in : ℕ → List ℕ → Result Proactive ProactiveFault
other_timer_in action content = do
  identifier ← needed TIMER_IDENTIFIER content
  timer ← timer_of identifier
  if nat_le action GET_VALUE then Ok (TimerManagement action timer no_time) else Err BadData

-- the command with the type and the qualifier that the details have
unfoldable pub command_in : ℕ → ℕ → List ℕ → Result Proactive ProactiveFault
command_in kind qualifier content =
    if kind == REFRESH then Ok (Refresh qualifier)
    else (if kind == MORE_TIME then Ok MoreTime
    else (if kind == POLL_INTERVAL then poll_interval_in content
    else (if kind == SET_UP_EVENT_LIST then event_list_in content
    else (if kind == PLAY_TONE then tone_in content
    else (if kind == DISPLAY_TEXT then text_in content >>= (λ text. Ok (DisplayText text))
    else (if kind == GET_INKEY then text_in content >>= (λ text. Ok (GetInkey text))
    else (if kind == GET_INPUT then input_in qualifier content
    else (if kind == SELECT_ITEM then choice_in content
    else (if kind == SET_UP_MENU then menu_in content
    else (if kind == LOCAL_INFORMATION then Ok (LocalInformation qualifier)
    else (if kind == TIMER_MANAGEMENT then (if qualifier == START then started_timer_in content else other_timer_in qualifier content)
    else (if kind == IDLE_TEXT then text_in content >>= (λ text. Ok (IdleText text))
    else Err (UnknownType kind)))))))))))))

-- what the table says of qualifier and devices holds
abbrev pub checked : ℕ × ℕ × ℕ → List ℕ → Proactive → Result (Details × Proactive) ProactiveFault
checked numbers devices command =
    if ((row_of command).qualifier == numbers.2) && is_pair devices CARD (row_of command).destination
    then Ok (record { number = numbers.0; kind = numbers.1; qualifier = numbers.2 }, command) else Err BadData

-- the command of a list of objects, with its details
unfoldable pub command_of : List ℕ → Result (Details × Proactive) ProactiveFault
command_of content = do
  details ← needed COMMAND_DETAILS content
  devices ← needed DEVICE_IDENTITIES content
  numbers ← three_bytes details
  command ← command_in numbers.1 numbers.2 content
  checked numbers devices command

-- the command that some bytes are, or why they are none
abbrev pub proactive_read : List ℕ → Result (Details × Proactive) ProactiveFault
proactive_read bytes = template_in bytes >>= command_of

-- the details alone
abbrev pub details_read : List ℕ → Result Details ProactiveFault
details_read bytes = do
  content ← template_in bytes
  details ← needed COMMAND_DETAILS content
  numbers ← three_bytes details
  Ok (record { number = numbers.0; kind = numbers.1; qualifier = numbers.2 })
