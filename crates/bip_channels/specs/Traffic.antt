-- What the card gave to each channel of the terminal and got from it since it was opened, whatever happened to the terminal.
-- Channel 1 stands at place 0.
use Rattle.std.specs.Prelude.{ℕ, ◌-◌, List, [], ◌∷◌, ◌++◌, Option, Some, None, slice_index_or, Result, Ok, Err, ◌==◌, if◌then◌else◌}
use Rattle.comprehension_tlv.specs.Model.{Object}
use Rattle.toolkit_commands.specs.declared.commands.Details.{Details}
use Rattle.toolkit_commands.specs.declared.faults.ProactiveFault.{ProactiveFault}
use Rattle.bip_channels.specs.declared.commands.BipCommand.{BipCommand}
use Rattle.bip_channels.specs.declared.commands.BipCommand.TheVariants.{OpenChannel, CloseChannel, ReceiveBytes, SendBytes, ChannelStatus}
use Rattle.bip_channels.specs.Reading.{bip_of}
use Rattle.bip_channels.specs.Channels.{BipChannel, none_open, carried_out, answered, echoed, cut}
use Rattle.bip_channels.specs.History.{accepted, brought}

-- what can happen to the terminal
pub data Occurrence : Type 0 where
  -- the card gives a command, which has these bytes
  Commands : List ℕ → Occurrence
  -- the far end of a channel is to give so many bytes back
  Echoes : ℕ → ℕ → Occurrence
  -- the network drops the link of a channel
  Cuts : ℕ → Occurrence

-- the channels after one thing that happened
abbrev pub after_one : Occurrence → List (Option BipChannel) → List (Option BipChannel)
after_one (Commands bytes) channels = (answered bytes channels).channels
after_one (Echoes number count) channels = (echoed number count channels).channels
after_one (Cuts number) channels = (cut number channels).channels

-- all channels after all that happened, the newest first
abbrev pub channels_after : List Occurrence → List (Option BipChannel)
channels_after [] = none_open
channels_after (newest ∷ earlier) = after_one newest (channels_after earlier)

-- the channel at a place
abbrev pub channel_at : ℕ → List Occurrence → Option BipChannel
channel_at place history = slice_index_or (channels_after history) place None

-- ---- what one command gives and gets

-- the bytes of a SEND DATA for the channel at this place that was performed; another command gives none
abbrev pub gives : ℕ → BipCommand → List Object → List ℕ
gives place (OpenChannel size) reply = []
gives place (CloseChannel number) reply = []
gives place (ReceiveBytes number count) reply = []
gives place (SendBytes number bytes now) reply = if number - 1 == place then accepted bytes reply else []
gives place ChannelStatus reply = []

-- the bytes that a RECEIVE DATA brings from the channel at this place; another command gets none
abbrev pub gets : ℕ → BipCommand → List Object → List ℕ
gets place (OpenChannel size) reply = []
gets place (CloseChannel number) reply = []
gets place (ReceiveBytes number count) reply = if number - 1 == place then brought reply else []
gets place (SendBytes number bytes now) reply = []
gets place ChannelStatus reply = []

-- what a command gives that was read; one that couldn't be gives nothing
abbrev pub gives_if_read : ℕ → List (Option BipChannel) → Result (Details × BipCommand) ProactiveFault → List ℕ
gives_if_read place channels (Ok x) = gives place x.1 (carried_out x.1 channels).reply
gives_if_read place channels (Err fault) = []

-- what a command gets that was read; one that couldn't be gets nothing
abbrev pub gets_if_read : ℕ → List (Option BipChannel) → Result (Details × BipCommand) ProactiveFault → List ℕ
gets_if_read place channels (Ok x) = gets place x.1 (carried_out x.1 channels).reply
gets_if_read place channels (Err fault) = []

-- what the card gives to the channel at this place as one thing happens: only a command gives bytes
abbrev pub gives_now : ℕ → List (Option BipChannel) → Occurrence → List ℕ
gives_now place channels (Commands bytes) = gives_if_read place channels (bip_of bytes)
gives_now place channels (Echoes number count) = []
gives_now place channels (Cuts number) = []

-- what the card gets from the channel at this place as one thing happens: only a command gets bytes
abbrev pub gets_now : ℕ → List (Option BipChannel) → Occurrence → List ℕ
gets_now place channels (Commands bytes) = gets_if_read place channels (bip_of bytes)
gets_now place channels (Echoes number count) = []
gets_now place channels (Cuts number) = []

-- ---- all that was given and got since the channel was opened

-- before a channel is open, nothing counts
abbrev pub if_open_before : Option BipChannel → List ℕ → List ℕ
if_open_before None bytes = []
if_open_before (Some channel) bytes = bytes

-- all bytes that the terminal took from the card for the channel at a place, in order
abbrev pub given_to : ℕ → List Occurrence → List ℕ
given_to place [] = []
given_to place (newest ∷ earlier) = if_open_before (channel_at place earlier) (given_to place earlier ++ gives_now place (channels_after earlier) newest)

-- all bytes that the card got from the channel at a place, in order
abbrev pub got_from : ℕ → List Occurrence → List ℕ
got_from place [] = []
got_from place (newest ∷ earlier) = if_open_before (channel_at place earlier) (got_from place earlier ++ gets_now place (channels_after earlier) newest)
