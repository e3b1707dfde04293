-- The rules of the channels, said of the numbers of a channel alone: its size, and how many bytes are kept for later
-- (`stored`), are on their way to the far end (`outgoing`), and came back and wait to be taken (`waiting`).
use Rattle.std.specs.Prelude.{ℕ, ◌+◌, ◌-◌, Bool, true, false, ◌&&◌, min, nat_lt, nat_le}
use Rattle.bip_channels.specs.declared.channels.TheConstants.{MOST_SIZE, MOST_OUTGOING, MOST_RECEIVED}

-- the sizes that a channel can be opened with
abbrev pub is_available : ℕ → Bool
is_available size = nat_le 1 size && nat_le size MOST_SIZE

-- What is kept with the new bytes is no more than the size; and if it all goes out now, no more is on its way than the far
-- end takes.
abbrev pub fits : ℕ → ℕ → ℕ → ℕ → Bool → Bool
fits size outgoing stored count false = nat_le (stored + count) size
fits size outgoing stored count true = nat_le (stored + count) size && nat_le (outgoing + (stored + count)) MOST_OUTGOING

-- of so many bytes that the far end is to give back, how many do come back: the room for them is the size
abbrev pub moved : ℕ → ℕ → ℕ → ℕ → ℕ
moved count size outgoing waiting = min count (min outgoing (size - waiting))

-- of so many bytes that are asked for, how many are taken
abbrev pub received : ℕ → ℕ → ℕ
received count waiting = min count (min waiting MOST_RECEIVED)

-- fewer bytes were taken than were asked for, and than one response has room for
abbrev pub is_short : ℕ → ℕ → Bool
is_short taken count = nat_lt taken count && nat_lt taken MOST_RECEIVED

-- a number as one byte tells it
abbrev pub in_a_byte : ℕ → ℕ
in_a_byte n = min n 255
