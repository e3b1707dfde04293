-- What the terminal keeps of a channel: the bytes that weren't taken yet, in one line, and three numbers that part them into
-- those that came back, those on their way to the far end, and those that are kept for later.
use Rattle.std.specs.Prelude.{◌≡◌, ℕ, ◌+◌, ◌-◌, ◌≤◌, Bool, true, false, List, [], ◌∷◌, ◌++◌, length, take, drop, map, Option, Some, None, position, slice_index_or, slice_set, ◌==◌, if◌then◌else◌}
use Rattle.circular_buffer.specs.Buffer.{Buffer}
use Rattle.comprehension_tlv.specs.Model.{Object}
use Rattle.bip_channels.specs.declared.channels.Link.{Link}
use Rattle.bip_channels.specs.declared.channels.Link.TheVariants.{Closed, Up, Dropped}
use Rattle.bip_channels.specs.declared.channels.TheConstants.{MOST_SIZE, MOST_OUTGOING, RING}
use Rattle.bip_channels.specs.declared.codes.TheConstants.{NONE_AVAILABLE, CHANNEL_CLOSED, NOT_VALID, SIZE_NOT_AVAILABLE}
use Rattle.bip_channels.specs.declared.commands.BipCommand.{BipCommand}
use Rattle.bip_channels.specs.declared.commands.BipCommand.TheVariants.{OpenChannel, CloseChannel, ReceiveBytes, SendBytes, ChannelStatus}
use Rattle.bip_channels.specs.Channels.{BipChannel, IsSound, Outcome, outcome, Carried, carried, at_place, Noted, noted, Reported, on_number}
use Rattle.bip_channels.specs.Replies.{status_object, count_object, performed, protocol_error, unable, opened, taken_bytes, or_none, bytes_available, link_lost}
use Rattle.bip_channels.specs.Rules.{is_available, fits, moved, received, is_short}

-- a channel as the terminal keeps it; `waiting`, `outgoing` and `stored` part its bytes, in this order
pub record Held : Type 0 where
  pub link : Link
  pub size : ℕ
  pub waiting : ℕ
  pub outgoing : ℕ
  pub stored : ℕ
  pub bytes : List ℕ

-- the numbers keep to their bounds, and part the bytes of the ring
pub record IsParted (size waiting outgoing stored : ℕ) (ring : Buffer ℕ) : Type 0 where
  pub capacity : ring.capacity ≡ RING
  pub size_bound : size ≤ MOST_SIZE
  pub waiting_bound : waiting ≤ size
  pub outgoing_bound : outgoing ≤ MOST_OUTGOING
  pub stored_bound : stored ≤ size
  pub whole : waiting + outgoing + stored ≡ length ring.items

-- a channel without bytes
abbrev pub fresh : Link → ℕ → Held
fresh link size = record { link = link; size = size; waiting = 0; outgoing = 0; stored = 0; bytes = [] }

-- a channel that is not open
abbrev pub closed : Held
closed = fresh Closed 0

-- ---- what it stands for

-- the link of an open channel, by whether it was dropped
abbrev pub link_of : Bool → Link
link_of true = Dropped
link_of false = Up

-- what the terminal keeps of a channel that is told by all its bytes
abbrev pub kept : Option BipChannel → Held
kept None = closed
kept (Some channel) = record {
  link = link_of channel.dropped;
  size = channel.size;
  waiting = channel.back - channel.taken;
  outgoing = length channel.sent - channel.back;
  stored = length channel.stored;
  bytes = drop channel.taken channel.sent ++ channel.stored;
}

-- an open channel keeps to the bounds of its numbers
abbrev pub IsSoundIfOpen : Option BipChannel → Type 0
IsSoundIfOpen None = Unit {0}
IsSoundIfOpen (Some channel) = IsSound channel

-- seven channels, which are what is kept of them
pub record IsKept (channels : List (Option BipChannel)) (held : List Held) : Type 0 where
  pub sound : (place : ℕ) → IsSoundIfOpen (slice_index_or channels place None)
  pub is : held ≡ map kept channels

-- ---- one channel

-- of a channel that is closed, whose link was dropped, or whose link is up
abbrev pub by_link : {A : Type 0} → Link → A → A → A → A
by_link Closed when_closed when_dropped when_up = when_closed
by_link Dropped when_closed when_dropped when_up = when_dropped
by_link Up when_closed when_dropped when_up = when_up

-- no channel is open there
abbrev pub is_closed_link : Link → Bool
is_closed_link Closed = true
is_closed_link Dropped = false
is_closed_link Up = false

-- the channel is not open
abbrev pub is_closed : Held → Bool
is_closed held = is_closed_link held.link

-- CLOSE CHANNEL: an open one is closed, also one whose link was dropped
abbrev pub kept_closing : Held → Outcome Held
kept_closing held =
    by_link held.link (outcome held (protocol_error NOT_VALID)) (outcome closed (performed [])) (outcome closed (performed []))

-- work on a channel that is open with its link up; else an error of the protocol
abbrev pub if_up : (Held → Outcome Held) → Held → Outcome Held
if_up work held =
    by_link held.link (outcome held (protocol_error NOT_VALID)) (outcome held (protocol_error CHANNEL_CLOSED)) (work held)

-- with more bytes, which wait to be sent, or are sent at once with all that waited
abbrev pub kept_with_bytes : List ℕ → Bool → Held → Held
kept_with_bytes bytes false held = record held { stored = held.stored + length bytes; bytes = held.bytes ++ bytes }
kept_with_bytes bytes true held =
    record held { outgoing = held.outgoing + (held.stored + length bytes); stored = 0; bytes = held.bytes ++ bytes }

-- SEND DATA that there is room for: the bytes are taken, and the free room is told
abbrev pub kept_accepting : List ℕ → Bool → Held → Outcome Held
kept_accepting bytes now held =
    outcome (kept_with_bytes bytes now held) (performed (count_object ((kept_with_bytes bytes now held).size - (kept_with_bytes bytes now held).stored) ∷ []))

-- SEND DATA: the bytes are taken where there is room for them; else the terminal is unable
abbrev pub kept_sending : List ℕ → Bool → Held → Outcome Held
kept_sending bytes now held =
    if fits held.size held.outgoing held.stored (length bytes) now then kept_accepting bytes now held else outcome held unable

-- without the first bytes that wait for the card
abbrev pub without_first : ℕ → Held → Held
without_first count held = record held { waiting = held.waiting - count; bytes = drop count held.bytes }

-- so many bytes that wait are given to the card, and it is told how many are left
abbrev pub kept_taking : ℕ → ℕ → Held → Outcome Held
kept_taking asked count held =
    outcome (without_first count held) (taken_bytes (is_short count asked) (take count held.bytes) (held.waiting - count))

-- RECEIVE DATA: as many bytes as were asked for, wait and have room in the response
abbrev pub kept_receiving : ℕ → Held → Outcome Held
kept_receiving asked held = kept_taking asked (received asked held.waiting) held

-- ---- all channels, channel 1 first

-- OPEN CHANNEL with this size at this place, or where no channel is free
abbrev pub kept_opening_at : ℕ → List Held → Option ℕ → Carried Held
kept_opening_at size channels None = carried channels (protocol_error NONE_AVAILABLE)
kept_opening_at size channels (Some place) = carried (slice_set channels place (fresh Up size)) (opened (place + 1) size)

-- OPEN CHANNEL: the first free channel, where a channel may have this size
abbrev pub kept_opening : ℕ → List Held → Carried Held
kept_opening size channels =
    if is_available size then kept_opening_at size channels (position is_closed channels) else carried channels (protocol_error SIZE_NOT_AVAILABLE)

-- the status of a channel, if it is open
abbrev pub listed : ℕ → Held → List Object
listed number held = by_link held.link [] (status_object number true ∷ []) (status_object number false ∷ [])

-- GET CHANNEL STATUS: what is told of each open channel, by ascending numbers
abbrev pub kept_statuses : ℕ → List Held → List Object
kept_statuses number [] = []
kept_statuses number (held ∷ others) = listed number held ++ kept_statuses (number + 1) others

-- what each command comes to
unfoldable pub kept_carried : BipCommand → List Held → Carried Held
kept_carried (OpenChannel size) channels = kept_opening size channels
kept_carried (CloseChannel number) channels = at_place (number - 1) closed kept_closing channels
kept_carried (ReceiveBytes number asked) channels = at_place (number - 1) closed (if_up (kept_receiving asked)) channels
kept_carried (SendBytes number bytes now) channels = at_place (number - 1) closed (if_up (kept_sending bytes now)) channels
kept_carried ChannelStatus channels = carried channels (performed (or_none (kept_statuses 1 channels)))

-- ---- what the network does

-- an event of a channel that is open with its link up; else nothing comes
abbrev pub if_up_noted : (Held → Noted Held) → Held → Noted Held
if_up_noted work held = by_link held.link (noted held None) (noted held None) (work held)

-- the far end gave so many bytes back
abbrev pub with_first_back : ℕ → Held → Held
with_first_back count held = record held { waiting = held.waiting + count; outgoing = held.outgoing - count }

-- so many bytes come back, of which the card is told; none where it is 0
abbrev pub kept_coming : ℕ → ℕ → Held → Noted Held
kept_coming number count held =
    if count == 0 then noted held None else noted (with_first_back count held) (Some (bytes_available number (held.waiting + count)))

-- as many bytes come back as were asked for, were sent and have room
abbrev pub kept_echoing : ℕ → ℕ → Held → Noted Held
kept_echoing number count held = kept_coming number (moved count held.size held.outgoing held.waiting) held

-- the link is dropped, of which the card is told
abbrev pub kept_dropping : ℕ → Held → Noted Held
kept_dropping number held = noted (record held { link = Dropped }) (Some (link_lost number))

-- the far end of the channel with this number gives bytes back
unfoldable pub kept_echoed : ℕ → ℕ → List Held → Reported Held
kept_echoed number count channels = on_number number closed (if_up_noted (kept_echoing number count)) channels

-- the network drops the link of the channel with this number
unfoldable pub kept_cut : ℕ → List Held → Reported Held
kept_cut number channels = on_number number closed (if_up_noted (kept_dropping number)) channels
