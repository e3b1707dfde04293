-- Sessions of a card with the handset, worked out. The commands are those that a handset sends; what is shown after each is
-- what the card answers: so many bytes to fetch or none, the bytes of a command, the data of call control, or a refusal.
use Rattle.std.proofs.Common.{◌≡◌, ℕ, List, [], ◌∷◌, Option, Some, None, true, false, refl, ◌+◌, ◌%◌, map, replicate, codes, Result, Ok, Err, if◌then◌else◌, option_map}
use Rattle.std.specs.List.{range_with_len}
use Rattle.uicc_types.specs.declared.identifiers.Shelf.{Shelf}
use Rattle.card_state.specs.Persistent.{Registration, Persistent}
use Rattle.comprehension_tlv.specs.Reading as Reading
use Rattle.comprehension_tlv.specs.Writing.{tagged}
use Rattle.toolkit_commands.specs.Envelopes.{value_in, envelope_in, envelope_of}
use Rattle.toolkit_commands.specs.Responses.{response_of}
use Rattle.toolkit_commands.specs.declared.envelopes.Envelope.{Envelope}
use Rattle.toolkit_commands.specs.declared.envelopes.Envelope.TheVariants.{Menu as Selected}
use Rattle.toolkit_commands.specs.declared.responses.Response.{Response as Reply}
use Rattle.terminal_profile.specs.Profiles.{allowed, allowed_event, consulted}
use Rattle.applet_trait.specs.declared.stimuli.Stimulus.TheVariants.{Event, Went, Refused}
use Rattle.applet_trait.specs.declared.stimuli.Act.TheVariants.{TakeTimer, FreeTimer}
use Rattle.applet_trait.specs.Minds.{AppletState, fresh}
use Rattle.applet_trait.specs.Tables.{address_digits, row_from}
use Rattle.applet_trait.specs.Turns.{act}
use Rattle.toolkit_model.specs.declared.faults.RowFault.{RowFault}
use Rattle.toolkit_model.specs.declared.faults.RowFault.TheVariants.{BadData, NoBox, Narrow, Taken, MenuFull, Spent, NoRow, NotIdle}
use Rattle.toolkit_model.specs.Sessions.{Outstanding, free_timers}
use Rattle.toolkit_model.specs.Orderly.{asks}
use Rattle.toolkit_model.specs.Order.{trigger_order, targets}
use Rattle.toolkit_model.specs.Passing.{ToolkitState, Passed, passed_rows}
use Rattle.toolkit_model.specs.Registry.{installed_row, deleted_row}
use Rattle.toolkit_model.specs.Running.{Setting, Works, carried, answers, next_number, run_on, run_of_row, mind_on}
use Rattle.toolkit_model.specs.Driving.{is_idle, told_one, given_one, caught_up, wanted, with_next_command, driven}
use Rattle.toolkit_model.specs.Commands.{profiled, polled, triggered, enveloped, is_busy, call_data, unfetched, unanswered, pending, command_bytes, fetched, reply_to, answered, responded, installed, delete_carried, toolkit_woken, woken_boxes}

-- an applet of each kind on its shelf, the kinds going round
abbrev boxes : List (Option AppletState)
boxes = map (λ shelf. Some (fresh (shelf % 7 + 1) [])) (range_with_len 0 32)

abbrev row : ℕ → ℕ → ℕ → List ℕ → List ℕ → List ℕ → Registration
row shelf priority sequence codes text kept =
    record { shelf = shelf; kind = shelf % 7 + 1; priority = priority; sequence = sequence; codes = codes; text = text; kept = kept }

data Sent : Type 0 where
  Profile : List ℕ → Sent
  Status : Sent
  Tell : List ℕ → Sent
  Fetch : Sent
  Respond : List ℕ → Sent
  Install : ℕ → ℕ → List ℕ → Sent
  Delete : ℕ → Sent
  Reset : Sent

-- the data of the answer, and the bytes that are to be fetched then; or a status
data Shown : Type 0 where
  Answers : List ℕ → Option ℕ → Shown
  Refuses : ℕ → Shown

abbrev after : List ℕ → Passed → ToolkitState × Shown
after data_of passed = (passed.state, Answers data_of (pending passed.state.session))

abbrev refuses : ℕ → ToolkitState → ToolkitState × Shown
refuses status state = (state, Refuses status)

abbrev on_envelope : ToolkitState → Option Envelope → ToolkitState × Shown
on_envelope state None = refuses 0x6A80 state
on_envelope state (Some envelope) =
    if is_busy envelope state then refuses 0x9300 state else after (call_data envelope state) (enveloped envelope state)

abbrev on_fetch : ToolkitState → Option Outstanding → ToolkitState × Shown
on_fetch state None = refuses 0x6985 state
on_fetch state (Some out) = after (command_bytes out) (fetched out state)

abbrev on_reply : ToolkitState → Outstanding → Option Reply → ToolkitState × Shown
on_reply state out None = refuses 0x6A80 state
on_reply state out (Some reply) = after [] (responded out reply state)

abbrev on_response : ToolkitState → List ℕ → Option Outstanding → ToolkitState × Shown
on_response state bytes None = refuses 0x6985 state
on_response state bytes (Some out) = on_reply state out (reply_to out bytes)

abbrev refused_row : RowFault → ToolkitState → ToolkitState × Shown
refused_row BadData state = refuses 0x6A80 state
refused_row NoBox state = refuses 0x6A88 state
refused_row Narrow state = refuses 0x6A84 state
refused_row Taken state = refuses 0x6985 state
refused_row MenuFull state = refuses 0x6A84 state
refused_row Spent state = refuses 0x6A84 state
refused_row NoRow state = refuses 0x6A88 state
refused_row NotIdle state = refuses 0x6985 state

-- a wide card without files, whose next sequence number is above those of the rows
abbrev card_with : List Registration → Persistent
card_with rows = record { is_wide = true; files = []; pins = []; rows = rows; next_sequence = 9 }

abbrev on_install : ToolkitState → Result Registration RowFault → ToolkitState × Shown
on_install state (Ok row) = after [] (installed row state)
on_install state (Err fault) = refused_row fault state

abbrev on_delete : ToolkitState → Result Registration RowFault → ToolkitState × Shown
on_delete state (Ok row) = after [] (delete_carried row.shelf state)
on_delete state (Err fault) = refused_row fault state

abbrev sends : Sent → ToolkitState → ToolkitState × Shown
sends (Profile bytes) state = after [] (profiled bytes state)
sends Status state = after [] (polled state)
sends (Tell bytes) state = on_envelope state (envelope_of bytes)
sends Fetch state = on_fetch state (unfetched state.session)
sends (Respond bytes) state = on_response state bytes (unanswered state.session)
sends (Install priority shelf content) state =
    on_install state (installed_row (card_with state.rows) (option_map (λ mind. mind.kind) (mind_on state.minds shelf)) shelf priority content)
sends (Delete shelf) state = on_delete state (deleted_row state.rows shelf (is_idle (asks state.session) shelf))
sends Reset state = (toolkit_woken state.rows state.minds, Answers [] None)

abbrev and_then : ToolkitState × Shown → (ToolkitState → List Shown) → List Shown
and_then (state, shown) next = shown ∷ next state

abbrev played : List Sent → ToolkitState → List Shown
played [] state = []
played (sent ∷ others) state = and_then (sends sent state) (played others)

abbrev start : List Registration → ToolkitState
start rows = toolkit_woken rows boxes

abbrev okay : Shown
okay = Answers [] None

abbrev more : ℕ → Shown
more count = Answers [] (Some count)

abbrev shows : List ℕ → Shown
shows bytes = Answers bytes None

-- the profile of a handset that can do all that is looked at, and of one that can't set up menus, events and polling
abbrev able : List ℕ
able = 0x29 ∷ 0x00 ∷ 0xBF ∷ 0x61 ∷ 0x71 ∷ 0x00 ∷ 0x00 ∷ 0x13 ∷ []

abbrev less_able : List ℕ
less_able = 0x29 ∷ 0x00 ∷ 0x9F ∷ 0x41 ∷ 0x70 ∷ 0x00 ∷ 0x00 ∷ 0x13 ∷ []

abbrev ok_to : ℕ → ℕ → ℕ → Sent
ok_to number kind qualifier = Respond (0x81 ∷ 0x03 ∷ number ∷ kind ∷ qualifier ∷ 0x82 ∷ 0x02 ∷ 0x82 ∷ 0x81 ∷ 0x83 ∷ 0x01 ∷ 0x00 ∷ [])

abbrev hi : List ℕ
hi = 0xD0 ∷ 0x0E ∷ 0x81 ∷ 0x03 ∷ 0x01 ∷ 0x21 ∷ 0x80 ∷ 0x82 ∷ 0x02 ∷ 0x81 ∷ 0x02 ∷ 0x8D ∷ 0x03 ∷ 0x04 ∷ 0x48 ∷ 0x69 ∷ []

-- the commands, one after the other, are answered so
-- a text that a profile triggered is fetched and answered; nothing else is
greets :
    played (Profile able ∷ Fetch ∷ ok_to 1 0x21 0x80 ∷ [])
    (start (row 0 1 0 (0x40 ∷ []) [] [] ∷ []))
    ≡ more 16 ∷ shows hi ∷ okay ∷ []
unfolding act address_digits row_from allowed allowed_event consulted tagged response_of value_in envelope_in envelope_of Reading.tag_at Reading.length_at Reading.value_at Reading.object_at Reading.outline_within Reading.outline_at Reading.template_of asks trigger_order run_on run_of_row told_one given_one caught_up wanted with_next_command driven profiled polled triggered enveloped fetched answered responded installed delete_carried toolkit_woken woken_boxes
greets = refl

-- an answer has to come after the FETCH, to the right command, and once
answers_in_time :
    played (Fetch ∷ Profile able ∷ ok_to 1 0x21 0x80 ∷ Fetch ∷ ok_to 2 0x21 0x80 ∷ ok_to 1 0x21 0x80 ∷ ok_to 1 0x21 0x80 ∷ Fetch ∷ [])
    (start (row 0 1 0 (0x40 ∷ []) [] [] ∷ []))
    ≡ Refuses 0x6985 ∷ more 16 ∷ Refuses 0x6985 ∷ shows hi ∷ Refuses 0x6A80 ∷ okay ∷ Refuses 0x6985 ∷ Refuses 0x6985 ∷ []
unfolding act address_digits row_from allowed allowed_event consulted tagged response_of value_in envelope_in envelope_of Reading.tag_at Reading.length_at Reading.value_at Reading.object_at Reading.outline_within Reading.outline_at Reading.template_of asks trigger_order run_on run_of_row told_one given_one caught_up wanted with_next_command driven profiled polled triggered enveloped fetched answered responded installed delete_carried toolkit_woken woken_boxes
answers_in_time = refl

-- an event triggers by priority, and of one priority the newest first; the first row waits longest
by_priority :
    played (Profile able ∷ Fetch ∷ ok_to 1 0x05 0x00 ∷ Tell (0xD6 ∷ 0x13 ∷ 0x99 ∷ 0x01 ∷ 0x03 ∷ 0x82 ∷ 0x02 ∷ 0x82 ∷ 0x81 ∷ 0x9B ∷ 0x01 ∷ 0x00 ∷ 0x93 ∷ 0x07 ∷ 0x00 ∷ 0xF1 ∷ 0x10 ∷ 0x00 ∷ 0x01 ∷ 0x00 ∷ 0x02 ∷ []) ∷ Fetch ∷ ok_to 2 0x21 0x80 ∷ Fetch ∷ ok_to 3 0x21 0x80 ∷ Fetch ∷ ok_to 4 0x21 0x80 ∷ [])
    (start (row 3 2 0 (0x03 ∷ []) [] []
    ∷ row 6 1 1 (0x03 ∷ []) [] (0x03 ∷ 0x01 ∷ 0x41 ∷ [])
    ∷ row 13 1 2 (0x03 ∷ []) [] (0x03 ∷ 0x01 ∷ 0x42 ∷ []) ∷ []))
    ≡ more 14 ∷ shows (0xD0 ∷ 0x0C ∷ 0x81 ∷ 0x03 ∷ 0x01 ∷ 0x05 ∷ 0x00 ∷ 0x82 ∷ 0x02 ∷ 0x81 ∷ 0x82 ∷ 0x99 ∷ 0x01 ∷ 0x03 ∷ []) ∷ okay ∷ more 15 ∷ shows (0xD0 ∷ 0x0D ∷ 0x81 ∷ 0x03 ∷ 0x02 ∷ 0x21 ∷ 0x80 ∷ 0x82 ∷ 0x02 ∷ 0x81 ∷ 0x02 ∷ 0x8D ∷ 0x02 ∷ 0x04 ∷ 0x42 ∷ []) ∷ more 15 ∷ shows (0xD0 ∷ 0x0D ∷ 0x81 ∷ 0x03 ∷ 0x03 ∷ 0x21 ∷ 0x80 ∷ 0x82 ∷ 0x02 ∷ 0x81 ∷ 0x02 ∷ 0x8D ∷ 0x02 ∷ 0x04 ∷ 0x41 ∷ []) ∷ more 19 ∷ shows (0xD0 ∷ 0x11 ∷ 0x81 ∷ 0x03 ∷ 0x04 ∷ 0x21 ∷ 0x80 ∷ 0x82 ∷ 0x02 ∷ 0x81 ∷ 0x02 ∷ 0x8D ∷ 0x06 ∷ 0x04 ∷ 0x4D ∷ 0x6F ∷ 0x76 ∷ 0x65 ∷ 0x64 ∷ []) ∷ okay ∷ []
unfolding act address_digits row_from allowed allowed_event consulted tagged response_of value_in envelope_in envelope_of Reading.tag_at Reading.length_at Reading.value_at Reading.object_at Reading.outline_within Reading.outline_at Reading.template_of asks trigger_order run_on run_of_row told_one given_one caught_up wanted with_next_command driven profiled polled triggered enveloped fetched answered responded installed delete_carried toolkit_woken woken_boxes
by_priority = refl

-- a menu selection for an applet that waits is kept until it is done
keeps_a_selection :
    played (Profile able ∷ Fetch ∷ ok_to 1 0x25 0x00 ∷ Tell (0xD3 ∷ 0x07 ∷ 0x82 ∷ 0x02 ∷ 0x01 ∷ 0x81 ∷ 0x90 ∷ 0x01 ∷ 0x02 ∷ []) ∷ Fetch ∷ Tell (0xD3 ∷ 0x07 ∷ 0x82 ∷ 0x02 ∷ 0x01 ∷ 0x81 ∷ 0x90 ∷ 0x01 ∷ 0x02 ∷ []) ∷ Respond (0x81 ∷ 0x03 ∷ 0x02 ∷ 0x24 ∷ 0x00 ∷ 0x82 ∷ 0x02 ∷ 0x82 ∷ 0x81 ∷ 0x83 ∷ 0x01 ∷ 0x00 ∷ 0x90 ∷ 0x01 ∷ 0x02 ∷ []) ∷ Fetch ∷ ok_to 3 0x20 0x00 ∷ Tell (0xD3 ∷ 0x01 ∷ 0x82 ∷ []) ∷ [])
    (start (row 1 1 0 [] (codes "Menu") [] ∷ []))
    ≡ more 24 ∷ shows (0xD0 ∷ 0x16 ∷ 0x81 ∷ 0x03 ∷ 0x01 ∷ 0x25 ∷ 0x00 ∷ 0x82 ∷ 0x02 ∷ 0x81 ∷ 0x82 ∷ 0x85 ∷ 0x04 ∷ 0x4D ∷ 0x65 ∷ 0x6E ∷ 0x75 ∷ 0x8F ∷ 0x05 ∷ 0x02 ∷ 0x4D ∷ 0x65 ∷ 0x6E ∷ 0x75 ∷ []) ∷ okay ∷ more 31 ∷ shows (0xD0 ∷ 0x1D ∷ 0x81 ∷ 0x03 ∷ 0x02 ∷ 0x24 ∷ 0x00 ∷ 0x82 ∷ 0x02 ∷ 0x81 ∷ 0x82 ∷ 0x85 ∷ 0x04 ∷ 0x50 ∷ 0x69 ∷ 0x63 ∷ 0x6B ∷ 0x8F ∷ 0x05 ∷ 0x01 ∷ 0x54 ∷ 0x65 ∷ 0x78 ∷ 0x74 ∷ 0x8F ∷ 0x05 ∷ 0x02 ∷ 0x54 ∷ 0x6F ∷ 0x6E ∷ 0x65 ∷ []) ∷ okay ∷ more 14 ∷ shows (0xD0 ∷ 0x0C ∷ 0x81 ∷ 0x03 ∷ 0x03 ∷ 0x20 ∷ 0x00 ∷ 0x82 ∷ 0x02 ∷ 0x81 ∷ 0x03 ∷ 0x8E ∷ 0x01 ∷ 0x10 ∷ []) ∷ more 31 ∷ Refuses 0x6A80 ∷ []
unfolding act address_digits row_from allowed allowed_event consulted tagged response_of value_in envelope_in envelope_of Reading.tag_at Reading.length_at Reading.value_at Reading.object_at Reading.outline_within Reading.outline_at Reading.template_of asks trigger_order run_on run_of_row told_one given_one caught_up wanted with_next_command driven profiled polled triggered enveloped fetched answered responded installed delete_carried toolkit_woken woken_boxes
keeps_a_selection = refl

-- sixteen are kept, and the next one finds no place
has_16_places :
    played (Profile able ∷ Fetch ∷ ok_to 1 0x25 0x00 ∷ Tell (0xD3 ∷ 0x07 ∷ 0x82 ∷ 0x02 ∷ 0x01 ∷ 0x81 ∷ 0x90 ∷ 0x01 ∷ 0x02 ∷ []) ∷ Fetch ∷ Tell (0xD3 ∷ 0x07 ∷ 0x82 ∷ 0x02 ∷ 0x01 ∷ 0x81 ∷ 0x90 ∷ 0x01 ∷ 0x02 ∷ []) ∷ Tell (0xD3 ∷ 0x07 ∷ 0x82 ∷ 0x02 ∷ 0x01 ∷ 0x81 ∷ 0x90 ∷ 0x01 ∷ 0x02 ∷ []) ∷ Tell (0xD3 ∷ 0x07 ∷ 0x82 ∷ 0x02 ∷ 0x01 ∷ 0x81 ∷ 0x90 ∷ 0x01 ∷ 0x02 ∷ []) ∷ Tell (0xD3 ∷ 0x07 ∷ 0x82 ∷ 0x02 ∷ 0x01 ∷ 0x81 ∷ 0x90 ∷ 0x01 ∷ 0x02 ∷ []) ∷ Tell (0xD3 ∷ 0x07 ∷ 0x82 ∷ 0x02 ∷ 0x01 ∷ 0x81 ∷ 0x90 ∷ 0x01 ∷ 0x02 ∷ []) ∷ Tell (0xD3 ∷ 0x07 ∷ 0x82 ∷ 0x02 ∷ 0x01 ∷ 0x81 ∷ 0x90 ∷ 0x01 ∷ 0x02 ∷ []) ∷ Tell (0xD3 ∷ 0x07 ∷ 0x82 ∷ 0x02 ∷ 0x01 ∷ 0x81 ∷ 0x90 ∷ 0x01 ∷ 0x02 ∷ []) ∷ Tell (0xD3 ∷ 0x07 ∷ 0x82 ∷ 0x02 ∷ 0x01 ∷ 0x81 ∷ 0x90 ∷ 0x01 ∷ 0x02 ∷ []) ∷ Tell (0xD3 ∷ 0x07 ∷ 0x82 ∷ 0x02 ∷ 0x01 ∷ 0x81 ∷ 0x90 ∷ 0x01 ∷ 0x02 ∷ []) ∷ Tell (0xD3 ∷ 0x07 ∷ 0x82 ∷ 0x02 ∷ 0x01 ∷ 0x81 ∷ 0x90 ∷ 0x01 ∷ 0x02 ∷ []) ∷ Tell (0xD3 ∷ 0x07 ∷ 0x82 ∷ 0x02 ∷ 0x01 ∷ 0x81 ∷ 0x90 ∷ 0x01 ∷ 0x02 ∷ []) ∷ Tell (0xD3 ∷ 0x07 ∷ 0x82 ∷ 0x02 ∷ 0x01 ∷ 0x81 ∷ 0x90 ∷ 0x01 ∷ 0x02 ∷ []) ∷ Tell (0xD3 ∷ 0x07 ∷ 0x82 ∷ 0x02 ∷ 0x01 ∷ 0x81 ∷ 0x90 ∷ 0x01 ∷ 0x02 ∷ []) ∷ Tell (0xD3 ∷ 0x07 ∷ 0x82 ∷ 0x02 ∷ 0x01 ∷ 0x81 ∷ 0x90 ∷ 0x01 ∷ 0x02 ∷ []) ∷ Tell (0xD3 ∷ 0x07 ∷ 0x82 ∷ 0x02 ∷ 0x01 ∷ 0x81 ∷ 0x90 ∷ 0x01 ∷ 0x02 ∷ []) ∷ Tell (0xD3 ∷ 0x07 ∷ 0x82 ∷ 0x02 ∷ 0x01 ∷ 0x81 ∷ 0x90 ∷ 0x01 ∷ 0x02 ∷ []) ∷ Tell (0xD3 ∷ 0x07 ∷ 0x82 ∷ 0x02 ∷ 0x01 ∷ 0x81 ∷ 0x90 ∷ 0x01 ∷ 0x02 ∷ []) ∷ [])
    (start (row 1 1 0 [] (codes "Menu") [] ∷ []))
    ≡ more 24 ∷ shows (0xD0 ∷ 0x16 ∷ 0x81 ∷ 0x03 ∷ 0x01 ∷ 0x25 ∷ 0x00 ∷ 0x82 ∷ 0x02 ∷ 0x81 ∷ 0x82 ∷ 0x85 ∷ 0x04 ∷ 0x4D ∷ 0x65 ∷ 0x6E ∷ 0x75 ∷ 0x8F ∷ 0x05 ∷ 0x02 ∷ 0x4D ∷ 0x65 ∷ 0x6E ∷ 0x75 ∷ []) ∷ okay ∷ more 31 ∷ shows (0xD0 ∷ 0x1D ∷ 0x81 ∷ 0x03 ∷ 0x02 ∷ 0x24 ∷ 0x00 ∷ 0x82 ∷ 0x02 ∷ 0x81 ∷ 0x82 ∷ 0x85 ∷ 0x04 ∷ 0x50 ∷ 0x69 ∷ 0x63 ∷ 0x6B ∷ 0x8F ∷ 0x05 ∷ 0x01 ∷ 0x54 ∷ 0x65 ∷ 0x78 ∷ 0x74 ∷ 0x8F ∷ 0x05 ∷ 0x02 ∷ 0x54 ∷ 0x6F ∷ 0x6E ∷ 0x65 ∷ []) ∷ okay ∷ okay ∷ okay ∷ okay ∷ okay ∷ okay ∷ okay ∷ okay ∷ okay ∷ okay ∷ okay ∷ okay ∷ okay ∷ okay ∷ okay ∷ okay ∷ Refuses 0x9300 ∷ []
unfolding act address_digits row_from allowed allowed_event consulted tagged response_of value_in envelope_in envelope_of Reading.tag_at Reading.length_at Reading.value_at Reading.object_at Reading.outline_within Reading.outline_at Reading.template_of asks trigger_order run_on run_of_row told_one given_one caught_up wanted with_next_command driven profiled polled triggered enveloped fetched answered responded installed delete_carried toolkit_woken woken_boxes
has_16_places = refl

-- an applet that waits is not deleted; one that is idle is, once
deletes_an_idle_one :
    played (Profile able ∷ Fetch ∷ Delete 0 ∷ ok_to 1 0x21 0x80 ∷ Delete 0 ∷ Delete 0 ∷ [])
    (start (row 0 1 0 (0x40 ∷ []) [] [] ∷ []))
    ≡ more 16 ∷ shows hi ∷ Refuses 0x6985 ∷ okay ∷ okay ∷ Refuses 0x6A88 ∷ []
unfolding act address_digits row_from allowed allowed_event consulted tagged response_of value_in envelope_in envelope_of Reading.tag_at Reading.length_at Reading.value_at Reading.object_at Reading.outline_within Reading.outline_at Reading.template_of asks trigger_order run_on run_of_row told_one given_one caught_up wanted with_next_command driven profiled polled triggered enveloped fetched answered responded installed delete_carried toolkit_woken woken_boxes
deletes_an_idle_one = refl

-- a number that begins with the kept digits is barred
answers_a_call :
    played (Tell (0xD4 ∷ 0x0A ∷ 0x82 ∷ 0x02 ∷ 0x82 ∷ 0x81 ∷ 0x86 ∷ 0x04 ∷ 0x81 ∷ 0x21 ∷ 0x43 ∷ 0xF5 ∷ []) ∷ Tell (0xD4 ∷ 0x08 ∷ 0x82 ∷ 0x02 ∷ 0x82 ∷ 0x81 ∷ 0x86 ∷ 0x02 ∷ 0x81 ∷ 0xF2 ∷ []) ∷ [])
    (start (row 4 1 0 (0x45 ∷ []) [] (0x31 ∷ []) ∷ []))
    ≡ shows (0x01 ∷ 0x00 ∷ []) ∷ shows (0x00 ∷ 0x00 ∷ []) ∷ []
unfolding act address_digits row_from allowed allowed_event consulted tagged response_of value_in envelope_in envelope_of Reading.tag_at Reading.length_at Reading.value_at Reading.object_at Reading.outline_within Reading.outline_at Reading.template_of asks trigger_order run_on run_of_row told_one given_one caught_up wanted with_next_command driven profiled polled triggered enveloped fetched answered responded installed delete_carried toolkit_woken woken_boxes
answers_a_call = refl

-- a note is kept over a reset
keeps_a_note :
    played (Profile able ∷ Fetch ∷ Respond (0x81 ∷ 0x03 ∷ 0x01 ∷ 0x23 ∷ 0x01 ∷ 0x82 ∷ 0x02 ∷ 0x82 ∷ 0x81 ∷ 0x83 ∷ 0x01 ∷ 0x00 ∷ 0x8D ∷ 0x03 ∷ 0x04 ∷ 0x41 ∷ 0x42 ∷ []) ∷ Reset ∷ Profile able ∷ Fetch ∷ [])
    (start (row 5 1 0 (0x40 ∷ []) [] [] ∷ []))
    ≡ more 23 ∷ shows (0xD0 ∷ 0x15 ∷ 0x81 ∷ 0x03 ∷ 0x01 ∷ 0x23 ∷ 0x01 ∷ 0x82 ∷ 0x02 ∷ 0x81 ∷ 0x82 ∷ 0x8D ∷ 0x06 ∷ 0x04 ∷ 0x4E ∷ 0x6F ∷ 0x74 ∷ 0x65 ∷ 0x3F ∷ 0x91 ∷ 0x02 ∷ 0x00 ∷ 0x14 ∷ []) ∷ okay ∷ okay ∷ more 16 ∷ shows (0xD0 ∷ 0x0E ∷ 0x81 ∷ 0x03 ∷ 0x01 ∷ 0x21 ∷ 0x80 ∷ 0x82 ∷ 0x02 ∷ 0x81 ∷ 0x02 ∷ 0x8D ∷ 0x03 ∷ 0x04 ∷ 0x41 ∷ 0x42 ∷ []) ∷ []
unfolding act address_digits row_from allowed allowed_event consulted tagged response_of value_in envelope_in envelope_of Reading.tag_at Reading.length_at Reading.value_at Reading.object_at Reading.outline_within Reading.outline_at Reading.template_of asks trigger_order run_on run_of_row told_one given_one caught_up wanted with_next_command driven profiled polled triggered enveloped fetched answered responded installed delete_carried toolkit_woken woken_boxes
keeps_a_note = refl

-- two applets that an event triggered send one after the other, to a handset that can do less
one_after_the_other :
    played (Profile less_able ∷ Tell (0xD6 ∷ 0x13 ∷ 0x99 ∷ 0x01 ∷ 0x03 ∷ 0x82 ∷ 0x02 ∷ 0x82 ∷ 0x81 ∷ 0x9B ∷ 0x01 ∷ 0x00 ∷ 0x93 ∷ 0x07 ∷ 0x00 ∷ 0xF1 ∷ 0x10 ∷ 0x00 ∷ 0x01 ∷ 0x00 ∷ 0x02 ∷ []) ∷ Fetch ∷ ok_to 1 0x21 0x80 ∷ Fetch ∷ ok_to 2 0x21 0x80 ∷ [])
    (start (row 3 2 0 (0x03 ∷ []) [] []
    ∷ row 10 1 1 (0x03 ∷ []) [] [] ∷ []))
    ≡ okay ∷ more 19 ∷ shows (0xD0 ∷ 0x11 ∷ 0x81 ∷ 0x03 ∷ 0x01 ∷ 0x21 ∷ 0x80 ∷ 0x82 ∷ 0x02 ∷ 0x81 ∷ 0x02 ∷ 0x8D ∷ 0x06 ∷ 0x04 ∷ 0x4D ∷ 0x6F ∷ 0x76 ∷ 0x65 ∷ 0x64 ∷ []) ∷ more 19 ∷ shows (0xD0 ∷ 0x11 ∷ 0x81 ∷ 0x03 ∷ 0x02 ∷ 0x21 ∷ 0x80 ∷ 0x82 ∷ 0x02 ∷ 0x81 ∷ 0x02 ∷ 0x8D ∷ 0x06 ∷ 0x04 ∷ 0x4D ∷ 0x6F ∷ 0x76 ∷ 0x65 ∷ 0x64 ∷ []) ∷ okay ∷ []
unfolding act address_digits row_from allowed allowed_event consulted tagged response_of value_in envelope_in envelope_of Reading.tag_at Reading.length_at Reading.value_at Reading.object_at Reading.outline_within Reading.outline_at Reading.template_of asks trigger_order run_on run_of_row told_one given_one caught_up wanted with_next_command driven profiled polled triggered enveloped fetched answered responded installed delete_carried toolkit_woken woken_boxes
one_after_the_other = refl

-- a timer that an applet started comes back to it, and one that nobody holds to nobody
ticks :
    played (Tell (0xD7 ∷ 0x0C ∷ 0x82 ∷ 0x02 ∷ 0x82 ∷ 0x81 ∷ 0xA4 ∷ 0x01 ∷ 0x02 ∷ 0xA5 ∷ 0x03 ∷ 0x00 ∷ 0x50 ∷ 0x00 ∷ []) ∷ Profile able ∷ Fetch ∷ Respond (0x81 ∷ 0x03 ∷ 0x01 ∷ 0x27 ∷ 0x00 ∷ 0x82 ∷ 0x02 ∷ 0x82 ∷ 0x81 ∷ 0x83 ∷ 0x01 ∷ 0x00 ∷ 0xA4 ∷ 0x01 ∷ 0x01 ∷ []) ∷ Tell (0xD7 ∷ 0x0C ∷ 0x82 ∷ 0x02 ∷ 0x82 ∷ 0x81 ∷ 0xA4 ∷ 0x01 ∷ 0x01 ∷ 0xA5 ∷ 0x03 ∷ 0x00 ∷ 0x50 ∷ 0x00 ∷ []) ∷ Fetch ∷ [])
    (start (row 2 1 0 (0x40 ∷ []) [] [] ∷ []))
    ≡ okay ∷ more 19 ∷ shows (0xD0 ∷ 0x11 ∷ 0x81 ∷ 0x03 ∷ 0x01 ∷ 0x27 ∷ 0x00 ∷ 0x82 ∷ 0x02 ∷ 0x81 ∷ 0x82 ∷ 0xA4 ∷ 0x01 ∷ 0x01 ∷ 0xA5 ∷ 0x03 ∷ 0x00 ∷ 0x50 ∷ 0x00 ∷ []) ∷ okay ∷ more 18 ∷ shows (0xD0 ∷ 0x10 ∷ 0x81 ∷ 0x03 ∷ 0x02 ∷ 0x21 ∷ 0x80 ∷ 0x82 ∷ 0x02 ∷ 0x81 ∷ 0x02 ∷ 0x8D ∷ 0x05 ∷ 0x04 ∷ 0x54 ∷ 0x69 ∷ 0x63 ∷ 0x6B ∷ []) ∷ []
unfolding act address_digits row_from allowed allowed_event consulted tagged response_of value_in envelope_in envelope_of Reading.tag_at Reading.length_at Reading.value_at Reading.object_at Reading.outline_within Reading.outline_at Reading.template_of asks trigger_order run_on run_of_row told_one given_one caught_up wanted with_next_command driven profiled polled triggered enveloped fetched answered responded installed delete_carried toolkit_woken woken_boxes
ticks = refl

-- a row for STATUS makes the card ask to be polled, and STATUS triggers it
asks_to_be_polled :
    played (Profile able ∷ Fetch ∷ ok_to 1 0x03 0x00 ∷ Status ∷ [])
    (start (row 6 1 0 (0x41 ∷ []) [] (0x41 ∷ 0x01 ∷ 0x41 ∷ []) ∷ []))
    ≡ more 15 ∷ shows (0xD0 ∷ 0x0D ∷ 0x81 ∷ 0x03 ∷ 0x01 ∷ 0x03 ∷ 0x00 ∷ 0x82 ∷ 0x02 ∷ 0x81 ∷ 0x82 ∷ 0x84 ∷ 0x02 ∷ 0x01 ∷ 0x1E ∷ []) ∷ okay ∷ more 15 ∷ []
unfolding act address_digits row_from allowed allowed_event consulted tagged response_of value_in envelope_in envelope_of Reading.tag_at Reading.length_at Reading.value_at Reading.object_at Reading.outline_within Reading.outline_at Reading.template_of asks trigger_order run_on run_of_row told_one given_one caught_up wanted with_next_command driven profiled polled triggered enveloped fetched answered responded installed delete_carried toolkit_woken woken_boxes
asks_to_be_polled = refl

-- installing: the shelf is taken while its row is there, and once that is deleted no applet is on it
installs :
    played (Install 1 0 (0x01 ∷ 0x40 ∷ 0x00 ∷ []) ∷ Delete 0 ∷ Install 1 0 (0x01 ∷ 0x40 ∷ 0x00 ∷ []) ∷ Install 1 7 (0x02 ∷ 0x40 ∷ 0x40 ∷ 0x00 ∷ []) ∷ Install 1 7 (0x01 ∷ 0x40 ∷ 0x00 ∷ []) ∷ Profile able ∷ Fetch ∷ [])
    (start (row 0 1 0 (0x40 ∷ []) [] [] ∷ []))
    ≡ Refuses 0x6985 ∷ okay ∷ Refuses 0x6A88 ∷ Refuses 0x6A80 ∷ okay ∷ more 16 ∷ shows hi ∷ []
unfolding act address_digits row_from allowed allowed_event consulted tagged response_of value_in envelope_in envelope_of Reading.tag_at Reading.length_at Reading.value_at Reading.object_at Reading.outline_within Reading.outline_at Reading.template_of asks trigger_order run_on run_of_row told_one given_one caught_up wanted with_next_command driven profiled polled triggered enveloped fetched answered responded installed delete_carried toolkit_woken woken_boxes
installs = refl

-- a selection that comes before the first is fetched is kept too
keeps_before_a_fetch :
    played (Profile less_able ∷ Tell (0xD3 ∷ 0x07 ∷ 0x82 ∷ 0x02 ∷ 0x01 ∷ 0x81 ∷ 0x90 ∷ 0x01 ∷ 0x02 ∷ []) ∷ Tell (0xD3 ∷ 0x07 ∷ 0x82 ∷ 0x02 ∷ 0x01 ∷ 0x81 ∷ 0x90 ∷ 0x01 ∷ 0x02 ∷ []) ∷ [])
    (start (row 1 1 0 [] (codes "Menu") [] ∷ []))
    ≡ okay ∷ more 31 ∷ more 31 ∷ []
unfolding act address_digits row_from allowed allowed_event consulted tagged response_of value_in envelope_in envelope_of Reading.tag_at Reading.length_at Reading.value_at Reading.object_at Reading.outline_within Reading.outline_at Reading.template_of asks trigger_order run_on run_of_row told_one given_one caught_up wanted with_next_command driven profiled polled triggered enveloped fetched answered responded installed delete_carried toolkit_woken woken_boxes
keeps_before_a_fetch = refl

-- what the card itself has to send comes one after the other: the events, the menu, the polling
sends_its_own_in_order :
    played (Profile able ∷ Fetch ∷ ok_to 1 0x05 0x00 ∷ Fetch ∷ ok_to 2 0x25 0x00 ∷ Fetch ∷ ok_to 3 0x03 0x00 ∷ [])
    (start (row 1 1 0 [] (codes "Menu") []
    ∷ row 3 1 1 (0x03 ∷ []) [] []
    ∷ row 6 1 2 (0x41 ∷ []) [] (0x41 ∷ 0x01 ∷ 0x41 ∷ []) ∷ []))
    ≡ more 14 ∷ shows (0xD0 ∷ 0x0C ∷ 0x81 ∷ 0x03 ∷ 0x01 ∷ 0x05 ∷ 0x00 ∷ 0x82 ∷ 0x02 ∷ 0x81 ∷ 0x82 ∷ 0x99 ∷ 0x01 ∷ 0x03 ∷ []) ∷ more 24 ∷ shows (0xD0 ∷ 0x16 ∷ 0x81 ∷ 0x03 ∷ 0x02 ∷ 0x25 ∷ 0x00 ∷ 0x82 ∷ 0x02 ∷ 0x81 ∷ 0x82 ∷ 0x85 ∷ 0x04 ∷ 0x4D ∷ 0x65 ∷ 0x6E ∷ 0x75 ∷ 0x8F ∷ 0x05 ∷ 0x02 ∷ 0x4D ∷ 0x65 ∷ 0x6E ∷ 0x75 ∷ []) ∷ more 15 ∷ shows (0xD0 ∷ 0x0D ∷ 0x81 ∷ 0x03 ∷ 0x03 ∷ 0x03 ∷ 0x00 ∷ 0x82 ∷ 0x02 ∷ 0x81 ∷ 0x82 ∷ 0x84 ∷ 0x02 ∷ 0x01 ∷ 0x1E ∷ []) ∷ okay ∷ []
unfolding act address_digits row_from allowed allowed_event consulted tagged response_of value_in envelope_in envelope_of Reading.tag_at Reading.length_at Reading.value_at Reading.object_at Reading.outline_within Reading.outline_at Reading.template_of asks trigger_order run_on run_of_row told_one given_one caught_up wanted with_next_command driven profiled polled triggered enveloped fetched answered responded installed delete_carried toolkit_woken woken_boxes
sends_its_own_in_order = refl

-- user activity is reported once: the card asks for it again, before the text that it brought
asks_again :
    played (Profile able ∷ Fetch ∷ ok_to 1 0x05 0x00 ∷ Tell (0xD6 ∷ 0x07 ∷ 0x99 ∷ 0x01 ∷ 0x04 ∷ 0x82 ∷ 0x02 ∷ 0x82 ∷ 0x81 ∷ []) ∷ Fetch ∷ ok_to 2 0x05 0x00 ∷ Fetch ∷ ok_to 3 0x21 0x80 ∷ [])
    (start (row 3 1 0 (0x04 ∷ []) [] [] ∷ []))
    ≡ more 14 ∷ shows (0xD0 ∷ 0x0C ∷ 0x81 ∷ 0x03 ∷ 0x01 ∷ 0x05 ∷ 0x00 ∷ 0x82 ∷ 0x02 ∷ 0x81 ∷ 0x82 ∷ 0x99 ∷ 0x01 ∷ 0x04 ∷ []) ∷ okay ∷ more 14 ∷ shows (0xD0 ∷ 0x0C ∷ 0x81 ∷ 0x03 ∷ 0x02 ∷ 0x05 ∷ 0x00 ∷ 0x82 ∷ 0x02 ∷ 0x81 ∷ 0x82 ∷ 0x99 ∷ 0x01 ∷ 0x04 ∷ []) ∷ more 20 ∷ shows (0xD0 ∷ 0x12 ∷ 0x81 ∷ 0x03 ∷ 0x03 ∷ 0x21 ∷ 0x80 ∷ 0x82 ∷ 0x02 ∷ 0x81 ∷ 0x02 ∷ 0x8D ∷ 0x07 ∷ 0x04 ∷ 0x41 ∷ 0x63 ∷ 0x74 ∷ 0x69 ∷ 0x76 ∷ 0x65 ∷ []) ∷ okay ∷ []
unfolding act address_digits row_from allowed allowed_event consulted tagged response_of value_in envelope_in envelope_of Reading.tag_at Reading.length_at Reading.value_at Reading.object_at Reading.outline_within Reading.outline_at Reading.template_of asks trigger_order run_on run_of_row told_one given_one caught_up wanted with_next_command driven profiled polled triggered enveloped fetched answered responded installed delete_carried toolkit_woken woken_boxes
asks_again = refl

-- numbers of commands go round from 254 to 1
numbered : map next_number (0 ∷ 1 ∷ 253 ∷ 254 ∷ []) ≡ 1 ∷ 2 ∷ 254 ∷ 1 ∷ []
numbered = refl

-- a smaller priority number comes first, and of two the later row
ordered : targets (row 3 2 0 (0x03 ∷ []) [] [] ∷ row 6 1 1 (0x03 ∷ []) [] [] ∷ row 13 1 2 (0x03 ∷ []) [] [] ∷ []) 0x03 ≡ 13 ∷ 6 ∷ 3 ∷ []
unfolding trigger_order
ordered = refl

-- an applet that registers for three events, one after the other
abbrev registering : List ℕ
registering = 0x43 ∷ 0x07 ∷ 0x03 ∷ 0x43 ∷ 0x07 ∷ 0x04 ∷ 0x43 ∷ 0x07 ∷ 0x05 ∷ []

abbrev registered : List ℕ → List Registration
registered codes_now = row 6 1 0 codes_now (codes "T") registering ∷ []

three_commits :
    passed_rows (enveloped (Selected 7) (start (registered []))).log
    ≡ registered (0x03 ∷ []) ∷ registered (0x03 ∷ 0x04 ∷ []) ∷ registered (0x03 ∷ 0x04 ∷ 0x05 ∷ []) ∷ []
unfolding act address_digits row_from allowed allowed_event consulted tagged response_of value_in envelope_in envelope_of Reading.tag_at Reading.length_at Reading.value_at Reading.object_at Reading.outline_within Reading.outline_at Reading.template_of asks trigger_order run_on run_of_row told_one given_one caught_up wanted with_next_command driven profiled polled triggered enveloped fetched answered responded installed delete_carried toolkit_woken woken_boxes
three_commits = refl

-- what a profile then gives to fetch, over the rows that were left
after_each :
    map (λ codes_now. played (Profile able ∷ []) (start (registered codes_now))) ([] ∷ (0x03 ∷ []) ∷ (0x03 ∷ 0x04 ∷ []) ∷ (0x03 ∷ 0x04 ∷ 0x05 ∷ []) ∷ [])
    ≡ (more 21 ∷ []) ∷ (more 14 ∷ []) ∷ (more 15 ∷ []) ∷ (more 16 ∷ []) ∷ []
unfolding act address_digits row_from allowed allowed_event consulted tagged response_of value_in envelope_in envelope_of Reading.tag_at Reading.length_at Reading.value_at Reading.object_at Reading.outline_within Reading.outline_at Reading.template_of asks trigger_order run_on run_of_row told_one given_one caught_up wanted with_next_command driven profiled polled triggered enveloped fetched answered responded installed delete_carried toolkit_woken woken_boxes
after_each = refl

-- after the last act that it may do, an applet begins anew, with what is kept for it
abbrev works : Works
works = record { rows = registered []; timers = free_timers; mind = fresh 7 registering }

abbrev setting : Setting
setting = record { shelf = 6; profile = None; in_call = false }

begins_anew : (run_on 2 setting (Event 0x43 (0x07 ∷ [])) works).works ≡ record works { rows = registered (0x03 ∷ 0x04 ∷ []) }
unfolding act address_digits row_from allowed allowed_event consulted tagged response_of value_in envelope_in envelope_of Reading.tag_at Reading.length_at Reading.value_at Reading.object_at Reading.outline_within Reading.outline_at Reading.template_of asks trigger_order run_on run_of_row told_one given_one caught_up wanted with_next_command driven profiled polled triggered enveloped fetched answered responded installed delete_carried toolkit_woken woken_boxes
begins_anew = refl

-- there is no ninth timer, and nobody frees another's
abbrev holding : List (Option Shelf) → Works
holding timers = record { rows = []; timers = timers; mind = fresh 3 [] }

abbrev of_shelf : ℕ → Option Shelf
of_shelf shelf = Some (record { 0 = shelf })

ninth_timer : carried setting TakeTimer (holding (replicate 8 (of_shelf 2))) ≡ answers Refused (holding (replicate 8 (of_shelf 2)))
ninth_timer = refl

another_timer : carried setting (FreeTimer 1) (holding (of_shelf 2 ∷ of_shelf 6 ∷ replicate 6 None)) ≡ answers Refused (holding (of_shelf 2 ∷ of_shelf 6 ∷ replicate 6 None))
another_timer = refl

own_timer : carried setting (FreeTimer 2) (holding (of_shelf 2 ∷ of_shelf 6 ∷ replicate 6 None)) ≡ answers Went (holding (of_shelf 2 ∷ None ∷ replicate 6 None))
own_timer = refl
