-- A terminal profile is a list of bytes, each bit of which tells one thing that the terminal can do. The places are those of
-- ETSI TS 102 223, 5.2; the card looks at the bits that stand here and at no others.
use Rattle.std.specs.Int.{bit_at}
use Rattle.std.specs.Option.{option_map_or}
use Rattle.std.specs.Prelude.{ℕ, ◌-◌, ◌==◌, Bool, false, if◌then◌else◌, List, [], ◌∷◌, ◌++◌, slice_index, take, replicate, find, option_map, Option}
use Rattle.uicc_types.specs.declared.events.TheConstants.{MT_CALL, CALL_CONNECTED, CALL_DISCONNECTED, LOCATION_STATUS, USER_ACTIVITY, IDLE_SCREEN, LANGUAGE_SELECTION, DATA_AVAILABLE, CHANNEL_STATUS}
use Rattle.toolkit_commands.specs.declared.qualifiers.TheConstants.{GET_VALUE}
use Rattle.toolkit_commands.specs.declared.commands.Proactive.{Proactive}
use Rattle.toolkit_commands.specs.declared.commands.Proactive.TheVariants.{Refresh, MoreTime, PollInterval, SetUpEventList, PlayTone, DisplayText, GetInkey, GetInput, SelectItem, SetUpMenu, LocalInformation, TimerManagement, IdleText}
use Rattle.terminal_profile.specs.declared.profile_places.Place.{Place}

-- a byte of a profile and a bit of that byte, each counted from 1
abbrev pub place : ℕ → ℕ → Place
place byte bit = record { byte = byte; bit = bit }

-- whether the bit is set; bytes that the profile doesn't have are 0
abbrev pub has : List ℕ → Place → Bool
has profile wanted = bit_at (slice_index profile (wanted.byte - 1)) (wanted.bit - 1) == 1

-- the bit of each command; to ask a timer for the time that is left has one of its own
abbrev pub place_of_command : Proactive → Place
place_of_command (Refresh mode) = place 3 8
place_of_command MoreTime = place 3 4
place_of_command (PollInterval seconds) = place 3 6
place_of_command (SetUpEventList events) = place 5 1
place_of_command (PlayTone tone) = place 3 5
place_of_command (DisplayText text) = place 3 1
place_of_command (GetInkey text) = place 3 2
place_of_command (GetInput text digits min max) = place 3 3
place_of_command (SelectItem title items) = place 4 1
place_of_command (SetUpMenu title items) = place 4 6
place_of_command (LocalInformation what) = place 4 7
place_of_command (TimerManagement action timer value) = if action == GET_VALUE then place 8 2 else place 8 1
place_of_command (IdleText text) = place 8 5

-- the code of an event, and where its bit is
pub record EventRow : Type 0 where
  pub code : ℕ
  pub place : Place

-- a row by its parts
abbrev pub event : ℕ → Place → EventRow
event code place_of_bit = record { code = code; place = place_of_bit }

-- the bit of each event that is looked at, by the code of the event (8.25)
abbrev pub event_table : List EventRow
event_table =
    event MT_CALL (place 5 2)
    ∷ event CALL_CONNECTED (place 5 3)
    ∷ event CALL_DISCONNECTED (place 5 4)
    ∷ event LOCATION_STATUS (place 5 5)
    ∷ event USER_ACTIVITY (place 5 6)
    ∷ event IDLE_SCREEN (place 5 7)
    ∷ event LANGUAGE_SELECTION (place 6 1)
    ∷ event DATA_AVAILABLE (place 6 3)
    ∷ event CHANNEL_STATUS (place 6 4)
    ∷ []

-- the place of an event's bit, if it is looked at
abbrev pub place_of_event : ℕ → Option Place
place_of_event code = option_map (λ row. row.place) (find (λ row. row.code == code) event_table)

-- the profile allows a command where its bit is set
unfoldable pub allowed : List ℕ → Proactive → Bool
allowed profile command = has profile (place_of_command command)

-- and an event where the bit of its row is set; an event without a row is not allowed
unfoldable pub allowed_event : List ℕ → ℕ → Bool
allowed_event profile code = option_map_or (has profile) (place_of_event code) false

-- the bytes that are looked at: the first eight, filled up with 0
unfoldable pub consulted : List ℕ → List ℕ
consulted profile = take 8 (profile ++ replicate 8 0)
