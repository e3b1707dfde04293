-- Logical channels (ETSI TS 102 221, 8.7 and 11.1.17).
use Rattle.std.specs.Prelude.{ℕ, ◌==◌, ◌&&◌, ◌||◌, not, Bool, false, if◌then◌else◌, List, [], ◌∷◌, find, slice_index_or, slice_set, nat_le, Option, Some, None, is_some, Result, Ok, Err}
use Rattle.uicc_types.specs.declared.answers.StatusWord.{StatusWord}
use Rattle.uicc_types.specs.declared.answers.TheConstants.StatusWord.{WRONG_LENGTH, WRONG_PARAMETERS, NO_FREE_CHANNEL, CONDITIONS_NOT_SATISFIED}
use Rattle.apdu_form.specs.Classes.{channel_of}
use Rattle.apdu_form.specs.Model.{Apdu}
use Rattle.file_model.specs.Chains.{given, needs}
use Rattle.apdu_form.specs.Fields.{has_no_data}
use Rattle.file_model.specs.declared.selections.Selection.{Selection}
use Rattle.file_model.specs.declared.selections.TheConstants.Selection.{AT_START}

-- what is selected on a channel, if it is open
abbrev pub selected_on : List (Option Selection) → ℕ → Option Selection
selected_on channels channel = slice_index_or channels channel None

-- the channel is open
abbrev pub is_open : List (Option Selection) → ℕ → Bool
is_open channels channel = is_some (selected_on channels channel)

-- ---- MANAGE CHANNEL

-- the channels, and the data of the answer
pub record ChannelOutcome : Type 0 where
  pub body : List ℕ
  pub channels : List (Option Selection)

-- the smallest channel of 1 to 3 that is closed
abbrev pub closed_channel : List (Option Selection) → Option ℕ
closed_channel channels = find (λ channel. not (is_open channels channel)) (1 ∷ 2 ∷ 3 ∷ [])

-- a channel that is opened from the basic one begins at the MF; one that is opened from another has the current DF of that
abbrev pub first_selection : ℕ → Selection → Selection
first_selection from selection = if from == 0 then AT_START else record { df = selection.df; ef = None; pointer = None }

-- Le is 1 or 256
abbrev pub is_le_of_number : Option ℕ → Bool
is_le_of_number None = false
is_le_of_number (Some le) = le == 1 || le == 256

-- opening answers the number of the channel
abbrev pub channel_opened : List (Option Selection) → Selection → Apdu → Result ChannelOutcome StatusWord
channel_opened channels selection apdu =
    needs (has_no_data apdu && is_le_of_number apdu.expected) WRONG_LENGTH (
    given (closed_channel channels) NO_FREE_CHANNEL (λ channel.
    Ok (record { body = channel ∷ []; channels = slice_set channels channel (Some (first_selection (channel_of apdu.class) selection)) })))

-- the channel in P2 is closed: the command has no data (6700), and the channel has to be open (6985)
abbrev pub channel_closed : List (Option Selection) → Apdu → Result ChannelOutcome StatusWord
channel_closed channels apdu =
    needs (has_no_data apdu) WRONG_LENGTH (
    needs (is_open channels apdu.p2) CONDITIONS_NOT_SATISFIED (
    Ok (record { body = []; channels = slice_set channels apdu.p2 None })))

-- P1 00 opens a channel, P1 80 closes the one in P2
unfoldable pub channel_tried : List (Option Selection) → Selection → Apdu → Result ChannelOutcome StatusWord
channel_tried channels selection apdu =
    if apdu.p1 == 0x00 && apdu.p2 == 0x00 then channel_opened channels selection apdu
    else if apdu.p1 == 0x80 && nat_le 1 apdu.p2 && nat_le apdu.p2 3 then channel_closed channels apdu
    else Err WRONG_PARAMETERS

-- the basic channel alone is open, with the MF selected (8.7)
abbrev pub basic_channel_alone : List (Option Selection)
basic_channel_alone = Some AT_START ∷ None ∷ None ∷ None ∷ []
