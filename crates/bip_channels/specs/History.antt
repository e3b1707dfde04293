-- What the card gave to a channel and got from it since it was opened.
use Rattle.std.specs.Prelude.{◌≡◌, ℕ, Bool, true, false, List, [], ◌∷◌, ◌++◌, take, unwrap_or, ◌==◌, if◌then◌else◌}
use Rattle.comprehension_tlv.specs.Model.{Object}
use Rattle.comprehension_tlv.specs.Reading.{first_value}
use Rattle.toolkit_commands.specs.declared.results.TheConstants.{PERFORMED}
use Rattle.bip_channels.specs.declared.codes.TheConstants.{CHANNEL_DATA}
use Rattle.bip_channels.specs.Channels.{BipChannel, IsSound, new_channel, unless_dropped, sending, receiving, echoing}

-- what can happen on an open channel
pub data Happened : Type 0 where
  -- SEND DATA, now or later
  Gave : List ℕ → Bool → Happened
  -- RECEIVE DATA of so many bytes
  Asked : ℕ → Happened
  -- the far end was to give so many bytes back
  Echoed : ℕ → Happened
  -- the link was dropped
  Lost : Happened

-- where the link was dropped, nothing comes back
abbrev pub came_back : ℕ → BipChannel → BipChannel
came_back count channel = if channel.dropped then channel else (echoing 1 count channel).channel

-- the channel after all that happened since it was opened, the newest first
abbrev pub channel_after : ℕ → List Happened → BipChannel
channel_after size [] = new_channel size
channel_after size (Gave bytes now ∷ earlier) = (unless_dropped (sending bytes now) (channel_after size earlier)).channel
channel_after size (Asked count ∷ earlier) = (unless_dropped (receiving count) (channel_after size earlier)).channel
channel_after size (Echoed count ∷ earlier) = came_back count (channel_after size earlier)
channel_after size (Lost ∷ earlier) = record (channel_after size earlier) { dropped = true }

-- the first byte of a result is this general result (ETSI TS 102 223, 8.12)
abbrev pub begins_with : ℕ → List ℕ → Bool
begins_with general [] = false
begins_with general (first ∷ others) = first == general

-- the first object of a reply is its result, and it says that the command was performed (00)
abbrev pub is_performed : List Object → Bool
is_performed [] = false
is_performed (result ∷ objects) = begins_with PERFORMED result.value

-- the bytes of a SEND DATA that was performed
abbrev pub accepted : List ℕ → List Object → List ℕ
accepted bytes reply = if is_performed reply then bytes else []

-- the bytes that a reply brings
abbrev pub brought : List Object → List ℕ
brought reply = unwrap_or (first_value CHANNEL_DATA reply) []

-- all bytes that the terminal took from the card, in order
abbrev pub given : ℕ → List Happened → List ℕ
given size [] = []
given size (Gave bytes now ∷ earlier) =
    given size earlier ++ accepted bytes (unless_dropped (sending bytes now) (channel_after size earlier)).reply
given size (Asked count ∷ earlier) = given size earlier
given size (Echoed count ∷ earlier) = given size earlier
given size (Lost ∷ earlier) = given size earlier

-- all bytes that the card got from the terminal, in order
abbrev pub got : ℕ → List Happened → List ℕ
got size [] = []
got size (Gave bytes now ∷ earlier) = got size earlier
got size (Asked count ∷ earlier) = got size earlier ++ brought (unless_dropped (receiving count) (channel_after size earlier)).reply
got size (Echoed count ∷ earlier) = got size earlier
got size (Lost ∷ earlier) = got size earlier

-- the one list is what the other begins with
pub record IsFront (front bytes : List ℕ) : Type 0 where
  pub rest : List ℕ
  pub whole : bytes ≡ front ++ rest

-- A channel tells what was given and got: what was given is what was sent and what is kept, in this order, and what was got
-- is what was taken.
pub record Tells (channel : BipChannel) (given got : List ℕ) : Type 0 where
  pub gave : given ≡ channel.sent ++ channel.stored
  pub took : got ≡ take channel.taken channel.sent
  pub sound : IsSound channel
