-- Reading a command of the bearer independent protocol (ETSI TS 102 223, 6.6.27 to 6.6.31 and clause 8): one row a type of
-- command. What has to be there is looked for before anything is said of what it holds, so Missing comes before BadData.
use Rattle.std.specs.Prelude.{ℕ, ◌+◌, ◌-◌, ◌*◌, Bool, false, ◌&&◌, List, [], ◌∷◌, Result, Ok, Err, nat_le, ◌==◌, if◌then◌else◌}
use Rattle.toolkit_commands.specs.Steps.{template_in, needed}
use Rattle.toolkit_commands.specs.Values.{◌>>=◌, one_byte, two_bytes, three_bytes, is_pair}
use Rattle.toolkit_commands.specs.declared.commands.Details.{Details}
use Rattle.toolkit_commands.specs.declared.devices.TheConstants.{CARD, TERMINAL}
use Rattle.toolkit_commands.specs.declared.faults.ProactiveFault.{ProactiveFault}
use Rattle.toolkit_commands.specs.declared.faults.ProactiveFault.TheVariants.{UnknownType, BadData}
use Rattle.toolkit_commands.specs.declared.qualifiers.TheConstants.{NONE}
use Rattle.toolkit_commands.specs.declared.tags.TheConstants.{COMMAND_DETAILS, DEVICE_IDENTITIES}
use Rattle.bip_channels.specs.declared.codes.TheConstants.{OPEN_CHANNEL, CLOSE_CHANNEL, RECEIVE_DATA, SEND_DATA, GET_CHANNEL_STATUS, AT_ONCE, SEND_NOW, BEARER_DESCRIPTION, CHANNEL_DATA, CHANNEL_DATA_LENGTH, BUFFER_SIZE, DEFAULT_BEARER, CHANNEL_DEVICES}
use Rattle.bip_channels.specs.declared.commands.BipCommand.{BipCommand}
use Rattle.bip_channels.specs.declared.commands.BipCommand.TheVariants.{OpenChannel, CloseChannel, ReceiveBytes, SendBytes, ChannelStatus}

-- ---- values

-- the number of the channel that the card speaks to: its device identity is 21 to 27 (8.7)
abbrev pub channel_of : List ℕ → Result ℕ ProactiveFault
channel_of (from ∷ device ∷ []) =
    if (from == CARD) && (nat_le 0x21 device && nat_le device 0x27) then Ok (device - CHANNEL_DEVICES) else Err BadData
channel_of _ = Err BadData

-- the default bearer, of which nothing more is said (8.52)
abbrev pub is_default_bearer : List ℕ → Bool
is_default_bearer (bearer ∷ []) = bearer == DEFAULT_BEARER
is_default_bearer _ = false

-- ---- the rows, with the qualifier and the device identities of the command

-- OPEN CHANNEL (6.6.27): set up at once, over the default bearer, with a buffer of the size that it has; in another form it is BadData
unfoldable pub opening_in : ℕ → List ℕ → List ℕ → Result BipCommand ProactiveFault
opening_in qualifier devices content = do
  bearer ← needed BEARER_DESCRIPTION content
  size ← needed BUFFER_SIZE content
  bytes ← two_bytes size
  if (qualifier == AT_ONCE) && (is_pair devices CARD TERMINAL && is_default_bearer bearer) then Ok (OpenChannel (256 * bytes.0 + bytes.1)) else Err BadData

-- CLOSE CHANNEL (6.6.28), with the qualifier 00: the channel
unfoldable pub closing_in : ℕ → List ℕ → Result BipCommand ProactiveFault
closing_in qualifier devices = do
  channel ← channel_of devices
  if qualifier == NONE then Ok (CloseChannel channel) else Err BadData

-- RECEIVE DATA (6.6.29), with the qualifier 00: the channel, and how many bytes are asked for
unfoldable pub receiving_in : ℕ → List ℕ → List ℕ → Result BipCommand ProactiveFault
receiving_in qualifier devices content = do
  value ← needed CHANNEL_DATA_LENGTH content
  count ← one_byte value
  channel ← channel_of devices
  if qualifier == NONE then Ok (ReceiveBytes channel count) else Err BadData

-- SEND DATA (6.6.30): the channel, the bytes, and by the qualifier whether they are sent at once (01) or kept (00)
unfoldable pub sending_in : ℕ → List ℕ → List ℕ → Result BipCommand ProactiveFault
sending_in qualifier devices content = do
  bytes ← needed CHANNEL_DATA content
  channel ← channel_of devices
  if nat_le qualifier SEND_NOW then Ok (SendBytes channel bytes (qualifier == SEND_NOW)) else Err BadData

-- GET CHANNEL STATUS (6.6.31), to the terminal and with the qualifier 00
unfoldable pub status_in : ℕ → List ℕ → Result BipCommand ProactiveFault
status_in qualifier devices = if (qualifier == NONE) && is_pair devices CARD TERMINAL then Ok ChannelStatus else Err BadData

-- what a command of this type says; a type without a row is UnknownType
unfoldable pub command_in : ℕ → ℕ → List ℕ → List ℕ → Result BipCommand ProactiveFault
command_in kind qualifier devices content =
    if kind == OPEN_CHANNEL then opening_in qualifier devices content
    else (if kind == CLOSE_CHANNEL then closing_in qualifier devices
    else (if kind == RECEIVE_DATA then receiving_in qualifier devices content
    else (if kind == SEND_DATA then sending_in qualifier devices content
    else (if kind == GET_CHANNEL_STATUS then status_in qualifier devices
    else Err (UnknownType kind)))))

-- the command of a list of objects, with its details
unfoldable pub command_of : List ℕ → Result (Details × BipCommand) ProactiveFault
command_of content = do
  details ← needed COMMAND_DETAILS content
  devices ← needed DEVICE_IDENTITIES content
  numbers ← three_bytes details
  command ← command_in numbers.1 numbers.2 devices content
  Ok (record { number = numbers.0; kind = numbers.1; qualifier = numbers.2 }, command)

-- the command that the bytes are, with its details, or the first fault
unfoldable pub bip_of : List ℕ → Result (Details × BipCommand) ProactiveFault
bip_of bytes = template_in bytes >>= command_of
