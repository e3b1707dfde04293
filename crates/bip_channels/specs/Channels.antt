-- The channels of the bearer independent protocol at the terminal (ETSI TS 102 223, 6.4.27 to 6.4.31), told by all their
-- bytes since they were opened. The far end gives back the bytes that it is sent, in order.
use Rattle.std.specs.Prelude.{ℕ, ◌+◌, ◌-◌, ◌≤◌, Bool, true, false, ◌&&◌, List, [], ◌∷◌, ◌++◌, length, take, drop, replicate, Option, Some, None, is_none, position, slice_index_or, slice_set, nat_le, ◌==◌, Result, Ok, Err, if◌then◌else◌}
use Rattle.comprehension_tlv.specs.Model.{Object}
use Rattle.toolkit_commands.specs.Reading.{details_found}
use Rattle.toolkit_commands.specs.declared.commands.Details.{Details}
use Rattle.toolkit_commands.specs.declared.faults.ProactiveFault.{ProactiveFault}
use Rattle.toolkit_commands.specs.Responses.{result_object}
use Rattle.bip_channels.specs.declared.channels.TheConstants.{MOST_SIZE, MOST_OUTGOING}
use Rattle.bip_channels.specs.declared.codes.TheConstants.{NONE_AVAILABLE, CHANNEL_CLOSED, NOT_VALID, SIZE_NOT_AVAILABLE}
use Rattle.bip_channels.specs.declared.commands.BipCommand.{BipCommand}
use Rattle.bip_channels.specs.declared.commands.BipCommand.TheVariants.{OpenChannel, CloseChannel, ReceiveBytes, SendBytes, ChannelStatus}
use Rattle.bip_channels.specs.Reading.{bip_of}
use Rattle.bip_channels.specs.Replies.{status_object, count_object, performed, protocol_error, unable, opened, taken_bytes, or_none, misread, response, bytes_available, link_lost}
use Rattle.bip_channels.specs.Rules.{is_available, fits, moved, received, is_short}

-- An open channel: the size of its buffer, the bytes that are kept for later, all bytes that were sent, how many of these
-- came back, how many of those the card has taken, and whether the link was dropped.
pub record BipChannel : Type 0 where
  pub size : ℕ
  pub stored : List ℕ
  pub sent : List ℕ
  pub back : ℕ
  pub taken : ℕ
  pub dropped : Bool

-- what is true of each channel
pub record IsSound (channel : BipChannel) : Type 0 where
  pub taken_came : channel.taken ≤ channel.back
  pub back_was_sent : channel.back ≤ length channel.sent
  pub waiting_bound : channel.back - channel.taken ≤ channel.size
  pub outgoing_bound : length channel.sent - channel.back ≤ MOST_OUTGOING
  pub stored_bound : length channel.stored ≤ channel.size
  pub size_bound : channel.size ≤ MOST_SIZE

-- a channel that was just opened, with a buffer of this size: nothing is kept, and nothing was sent, came back or was taken
abbrev pub new_channel : ℕ → BipChannel
new_channel size = record { size = size; stored = []; sent = []; back = 0; taken = 0; dropped = false }

-- the bytes that came back and weren't taken
abbrev pub waiting : BipChannel → ℕ
waiting channel = channel.back - channel.taken

-- the bytes that were sent and didn't come back yet
abbrev pub outgoing : BipChannel → ℕ
outgoing channel = length channel.sent - channel.back

-- the room for bytes to be kept
abbrev pub free : BipChannel → ℕ
free channel = channel.size - length channel.stored

-- ---- one channel

-- what became of a channel, and the reply
pub record Outcome (X : Type 0) : Type 0 where
  pub channel : X
  pub reply : List Object

-- what became of a channel, and the reply, by its parts
abbrev pub outcome : {X : Type 0} → X → List Object → Outcome X
outcome channel reply = record { channel = channel; reply = reply }

-- what became of a channel, which stays open
abbrev pub still_open : Outcome BipChannel → Outcome (Option BipChannel)
still_open x = outcome (Some x.channel) x.reply

-- a command for a channel that isn't open, or whose link was dropped
abbrev pub if_open : (BipChannel → Outcome BipChannel) → Option BipChannel → Outcome (Option BipChannel)
if_open work None = outcome None (protocol_error NOT_VALID)
if_open work (Some channel) = still_open (work channel)

-- a command for a channel whose link was dropped is an error of the protocol; any other is carried out
abbrev pub unless_dropped : (BipChannel → Outcome BipChannel) → BipChannel → Outcome BipChannel
unless_dropped work channel =
    if channel.dropped then outcome channel (protocol_error CHANNEL_CLOSED) else work channel

-- CLOSE CHANNEL: also of a channel whose link was dropped
abbrev pub closing : Option BipChannel → Outcome (Option BipChannel)
closing None = outcome None (protocol_error NOT_VALID)
closing (Some channel) = outcome None (performed [])

-- SEND DATA: the bytes are kept, or what was kept and then they go to the end of what was sent
abbrev pub with_bytes : List ℕ → Bool → BipChannel → BipChannel
with_bytes bytes false channel = record channel { stored = channel.stored ++ bytes }
with_bytes bytes true channel = record channel { stored = []; sent = channel.sent ++ (channel.stored ++ bytes) }

-- the bytes are taken, and the reply says how much room is left for bytes that are kept (6.4.30)
abbrev pub accepting : List ℕ → Bool → BipChannel → Outcome BipChannel
accepting bytes now channel =
    outcome (with_bytes bytes now channel) (performed (count_object (free (with_bytes bytes now channel)) ∷ []))

-- SEND DATA: the bytes are taken where they fit, and else the terminal is unable to process the command
abbrev pub sending : List ℕ → Bool → BipChannel → Outcome BipChannel
sending bytes now channel =
    if fits channel.size (outgoing channel) (length channel.stored) (length bytes) now then accepting bytes now channel else outcome channel unable

-- RECEIVE DATA: the bytes from the first that wasn't taken on
abbrev pub with_taken : ℕ → BipChannel → BipChannel
with_taken count channel = record channel { taken = channel.taken + count }

-- so many bytes are taken; the reply brings them, and says whether they are fewer than were asked for and how many still wait
abbrev pub taking : ℕ → ℕ → BipChannel → Outcome BipChannel
taking asked count channel =
    outcome (with_taken count channel) (taken_bytes (is_short count asked) (take count (drop channel.taken channel.sent)) (waiting (with_taken count channel)))

-- RECEIVE DATA: as many bytes as were asked for, but no more than wait and than one response has room for
abbrev pub receiving : ℕ → BipChannel → Outcome BipChannel
receiving asked channel = taking asked (received asked (waiting channel)) channel

-- ---- all channels, channel 1 first

-- what became of the channels, and the reply
pub record Carried (X : Type 0) : Type 0 where
  pub channels : List X
  pub reply : List Object

-- what became of the channels, and the reply, by its parts
abbrev pub carried : {X : Type 0} → List X → List Object → Carried X
carried channels reply = record { channels = channels; reply = reply }

-- no channel of the seven is open
abbrev pub none_open : List (Option BipChannel)
none_open = replicate 7 None

-- OPEN CHANNEL: the first channel that isn't open
abbrev pub opening_at : ℕ → List (Option BipChannel) → Option ℕ → Carried (Option BipChannel)
opening_at size channels None = carried channels (protocol_error NONE_AVAILABLE)
opening_at size channels (Some place) = carried (slice_set channels place (Some (new_channel size))) (opened (place + 1) size)

-- OPEN CHANNEL: the first channel that isn't open, if the size of the buffer is one that the terminal has
abbrev pub opening : ℕ → List (Option BipChannel) → Carried (Option BipChannel)
opening size channels =
    if is_available size then opening_at size channels (position is_none channels) else carried channels (protocol_error SIZE_NOT_AVAILABLE)

-- a command for the channel of a number, where `none` is a channel that isn't there
abbrev pub at_place : {X : Type 0} → ℕ → X → (X → Outcome X) → List X → Carried X
at_place place none work channels =
    carried (slice_set channels place (work (slice_index_or channels place none)).channel) (work (slice_index_or channels place none)).reply

-- a command for the channel of this number, which counts from 1
abbrev pub on_channel : ℕ → (Option BipChannel → Outcome (Option BipChannel)) → List (Option BipChannel) → Carried (Option BipChannel)
on_channel number work channels = at_place (number - 1) None work channels

-- GET CHANNEL STATUS: that of each open channel, where the first has this number
abbrev pub statuses : ℕ → List (Option BipChannel) → List Object
statuses number [] = []
statuses number (None ∷ others) = statuses (number + 1) others
statuses number (Some channel ∷ others) = status_object number channel.dropped ∷ statuses (number + 1) others

-- what each command comes to: RECEIVE DATA and SEND DATA need a channel that is open and whose link is up, CLOSE CHANNEL one that is open
unfoldable pub carried_out : BipCommand → List (Option BipChannel) → Carried (Option BipChannel)
carried_out (OpenChannel size) channels = opening size channels
carried_out (CloseChannel number) channels = on_channel number closing channels
carried_out (ReceiveBytes number asked) channels = on_channel number (if_open (unless_dropped (receiving asked))) channels
carried_out (SendBytes number bytes now) channels = on_channel number (if_open (unless_dropped (sending bytes now))) channels
carried_out ChannelStatus channels = carried channels (performed (or_none (statuses 1 channels)))

-- what became of the channels, and the bytes of the response
pub record Answered : Type 0 where
  pub channels : List (Option BipChannel)
  pub response : List ℕ

-- a command that was read is carried out; one that couldn't be read changes no channel, and is answered with the result for its fault
abbrev pub answering : List ℕ → List (Option BipChannel) → Result (Details × BipCommand) ProactiveFault → Answered
answering bytes channels (Ok x) =
    record { channels = (carried_out x.1 channels).channels; response = response x.0 (carried_out x.1 channels).reply }
answering bytes channels (Err fault) =
    record { channels = channels; response = response (details_found bytes) (result_object (misread fault) ∷ []) }

-- the answer to a command; one that can't be read changes nothing
unfoldable pub answered : List ℕ → List (Option BipChannel) → Answered
answered bytes channels = answering bytes channels (bip_of bytes)

-- ---- what the network does

-- what became of a channel, and the event that the card is told of, if there is one
pub record Noted (X : Type 0) : Type 0 where
  pub channel : X
  pub event : Option (List ℕ)

-- what became of a channel, and the event, by its parts
abbrev pub noted : {X : Type 0} → X → Option (List ℕ) → Noted X
noted channel event = record { channel = channel; event = event }

-- what becomes of a channel that is open and whose link is up; any other stays as it is, and nothing is told
abbrev pub if_linked : (BipChannel → Noted BipChannel) → Option BipChannel → Noted (Option BipChannel)
if_linked work None = noted None None
if_linked work (Some channel) =
    if channel.dropped then noted (Some channel) None else noted (Some (work channel).channel) (work channel).event

-- the far end gives bytes back
abbrev pub with_back : ℕ → BipChannel → BipChannel
with_back count channel = record channel { back = channel.back + count }

-- so many bytes come back, and the card is told how many wait now; where none come, nothing is told
abbrev pub coming : ℕ → ℕ → BipChannel → Noted BipChannel
coming number count channel =
    if count == 0 then noted channel None else noted (with_back count channel) (Some (bytes_available number (waiting (with_back count channel))))

-- the far end is to give so many bytes back: as many come as it has, and as there is room for
abbrev pub echoing : ℕ → ℕ → BipChannel → Noted BipChannel
echoing number count channel = coming number (moved count channel.size (outgoing channel) (waiting channel)) channel

-- the link is dropped
abbrev pub dropping : ℕ → BipChannel → Noted BipChannel
dropping number channel = noted (record channel { dropped = true }) (Some (link_lost number))

-- what became of the channels, and the event that the card is told of, if there is one
pub record Reported (X : Type 0) : Type 0 where
  pub channels : List X
  pub event : Option (List ℕ)

-- what became of the channels, and the event, by its parts
abbrev pub reported : {X : Type 0} → List X → Option (List ℕ) → Reported X
reported channels event = record { channels = channels; event = event }

-- what became of the channels where this happens to the one at this place, and the event
abbrev pub noted_at : {X : Type 0} → ℕ → X → (X → Noted X) → List X → Reported X
noted_at place none work channels =
    reported (slice_set channels place (work (slice_index_or channels place none)).channel) (work (slice_index_or channels place none)).event

-- of a number that is no channel's, nothing
abbrev pub on_number : {X : Type 0} → ℕ → X → (X → Noted X) → List X → Reported X
on_number number none work channels =
    if nat_le 1 number && nat_le number 7 then noted_at (number - 1) none work channels else reported channels None

-- the far end of this channel is to give so many bytes back
unfoldable pub echoed : ℕ → ℕ → List (Option BipChannel) → Reported (Option BipChannel)
echoed number count channels = on_number number None (if_linked (echoing number count)) channels

-- the network drops the link of this channel
unfoldable pub cut : ℕ → List (Option BipChannel) → Reported (Option BipChannel)
cut number channels = on_number number None (if_linked (dropping number)) channels
