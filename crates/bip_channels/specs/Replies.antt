-- What the terminal tells the card: terminal responses (ETSI TS 102 223, 6.8) and envelopes of events (7.5).
use Rattle.std.specs.Prelude.{ℕ, ◌+◌, Bool, true, false, List, [], ◌∷◌, if◌then◌else◌}
use Rattle.std.specs.Int.{to_be_bytes, w16}
use Rattle.uicc_types.specs.declared.events.TheConstants.{DATA_AVAILABLE, CHANNEL_STATUS as STATUS_EVENT}
use Rattle.comprehension_tlv.specs.Model.{Object}
use Rattle.comprehension_tlv.specs.Writing.{tagged, spellings}
use Rattle.toolkit_commands.specs.Table.{required}
use Rattle.toolkit_commands.specs.Responses.{result_object}
use Rattle.toolkit_commands.specs.declared.commands.Details.{Details}
use Rattle.toolkit_commands.specs.declared.devices.TheConstants.{CARD, TERMINAL}
use Rattle.toolkit_commands.specs.declared.faults.ProactiveFault.{ProactiveFault}
use Rattle.toolkit_commands.specs.declared.faults.ProactiveFault.TheVariants.{Tlv, Missing, UnknownType, BadData}
use Rattle.toolkit_commands.specs.declared.results.TheConstants.{PERFORMED, UNABLE_TO_PROCESS, TYPE_NOT_UNDERSTOOD, DATA_NOT_UNDERSTOOD, VALUES_MISSING}
use Rattle.toolkit_commands.specs.declared.tags.TheConstants.{EVENT_DOWNLOAD, COMMAND_DETAILS, DEVICE_IDENTITIES, RESULT, EVENT_LIST}
use Rattle.bip_channels.specs.Rules.{in_a_byte}
use Rattle.bip_channels.specs.declared.codes.TheConstants.{BEARER_DESCRIPTION, CHANNEL_DATA, CHANNEL_DATA_LENGTH, CHANNEL_STATUS, BUFFER_SIZE, DEFAULT_BEARER, MISSING_INFORMATION, PROTOCOL_ERROR, LINK_UP, NOTHING_MORE, LINK_DROPPED}

-- the terminal speaks to the card (8.7)
abbrev pub from_terminal : Object
from_terminal = required DEVICE_IDENTITIES (TERMINAL ∷ CARD ∷ [])

-- ---- objects

-- how a channel stands (8.56)
abbrev pub status_object : ℕ → Bool → Object
status_object channel true = required CHANNEL_STATUS (channel ∷ LINK_DROPPED ∷ [])
status_object channel false = required CHANNEL_STATUS ((LINK_UP + channel) ∷ NOTHING_MORE ∷ [])

-- that no channel is open
abbrev pub no_channel : Object
no_channel = required CHANNEL_STATUS (0x00 ∷ NOTHING_MORE ∷ [])

-- a number of bytes (8.54)
abbrev pub count_object : ℕ → Object
count_object count = required CHANNEL_DATA_LENGTH (in_a_byte count ∷ [])

-- ---- results (8.12), and the objects after them

-- the command was performed, with these objects after the result
abbrev pub performed : List Object → List Object
performed objects = result_object PERFORMED ∷ objects

-- an error of the protocol, with its cause
abbrev pub protocol_error : ℕ → List Object
protocol_error cause = required RESULT (PROTOCOL_ERROR ∷ cause ∷ []) ∷ []

-- the terminal can't carry it out now, for no particular cause
abbrev pub unable : List Object
unable = required RESULT (UNABLE_TO_PROCESS ∷ 0x00 ∷ []) ∷ []

-- the channel was opened: its status, the default bearer and the size of its buffer
abbrev pub opened : ℕ → ℕ → List Object
opened channel size =
    performed (status_object channel false ∷ required BEARER_DESCRIPTION (DEFAULT_BEARER ∷ []) ∷ required BUFFER_SIZE (to_be_bytes w16 size) ∷ [])

-- the bytes that were taken, fewer than were asked for or not, and how many are left
abbrev pub taken_bytes : Bool → List ℕ → ℕ → List Object
taken_bytes is_short bytes left =
    result_object (if is_short then MISSING_INFORMATION else PERFORMED) ∷ required CHANNEL_DATA bytes ∷ count_object left ∷ []

-- the status of each open channel, or that there is none
abbrev pub or_none : List Object → List Object
or_none [] = no_channel ∷ []
or_none (object ∷ others) = object ∷ others

-- a command that can't be read
abbrev pub misread : ProactiveFault → ℕ
misread Tlv = DATA_NOT_UNDERSTOOD
misread Missing = VALUES_MISSING
misread (UnknownType kind) = TYPE_NOT_UNDERSTOOD
misread BadData = DATA_NOT_UNDERSTOOD

-- ---- responses and envelopes

-- what each terminal response begins with: the details of the command, and that the terminal answers
abbrev pub heading : Details → List Object
heading details = required COMMAND_DETAILS (details.number ∷ details.kind ∷ details.qualifier ∷ []) ∷ from_terminal ∷ []

-- the details of the command, the devices, and the reply
abbrev pub response : Details → List Object → List ℕ
response details reply = spellings (required COMMAND_DETAILS (details.number ∷ details.kind ∷ details.qualifier ∷ []) ∷ from_terminal ∷ reply)

-- the envelope of an event: its code, the devices, and what is told of it
abbrev pub event : ℕ → List Object → List ℕ
event code objects = tagged EVENT_DOWNLOAD (spellings (required EVENT_LIST (code ∷ []) ∷ from_terminal ∷ objects))

-- so many bytes came back on a channel and wait (7.5.10)
abbrev pub bytes_available : ℕ → ℕ → List ℕ
bytes_available channel count = event DATA_AVAILABLE (status_object channel false ∷ count_object count ∷ [])

-- the link of a channel was dropped (7.5.11)
abbrev pub link_lost : ℕ → List ℕ
link_lost channel = event STATUS_EVENT (status_object channel true ∷ [])
