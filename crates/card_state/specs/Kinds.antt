-- The file descriptor bytes of the four kinds of files (ETSI TS 102 221, 11.1.1.4.3), identifiers that no other file may
-- have (8.6), and the codes of the events that an applet may be registered for, each with its bit in a row.
use Rattle.std.specs.Prelude.{ℕ, ◌==◌, Bool, ◌||◌, List, [], ◌∷◌, map, filter}
use Rattle.std.specs.Int.{bit_at}
use Rattle.uicc_types.specs.declared.identifiers.TheConstants.FileId.{MF, CURRENT_ADF}
use Rattle.uicc_types.specs.declared.events.TheConstants.{MT_CALL, CALL_CONNECTED, CALL_DISCONNECTED, LOCATION_STATUS, USER_ACTIVITY, IDLE_SCREEN, LANGUAGE_SELECTION, DATA_AVAILABLE, CHANNEL_STATUS, PROFILE_DOWNLOAD, STATUS_COMMAND, CALL_CONTROL}
use Rattle.card_state.specs.declared.kinds.TheConstants.{DF, TRANSPARENT, LINEAR, CYCLIC, ACTIVATED, DEACTIVATED}

-- a DF, and so the MF: 78
abbrev pub df_kind : ℕ
df_kind = DF

-- a transparent EF: 41
abbrev pub transparent_kind : ℕ
transparent_kind = TRANSPARENT

-- a linear fixed EF: 42
abbrev pub linear_kind : ℕ
linear_kind = LINEAR

-- a cyclic EF: 46
abbrev pub cyclic_kind : ℕ
cyclic_kind = CYCLIC

-- an EF with records is linear fixed or cyclic (8.2.2)
abbrev pub has_records : ℕ → Bool
has_records kind = kind == linear_kind || kind == cyclic_kind

-- an EF is transparent, linear fixed or cyclic
abbrev pub is_ef_kind : ℕ → Bool
is_ef_kind kind = kind == transparent_kind || has_records kind

-- the identifier of the MF: 3F00
abbrev pub mf_id : ℕ
mf_id = MF.0

-- the identifier that stands for the current application in a path
abbrev pub current_adf_id : ℕ
current_adf_id = CURRENT_ADF.0

-- the life cycle status of a file in use: 05 (11.1.1.4.9)
abbrev pub activated : ℕ
activated = ACTIVATED

-- the life cycle status of an EF that is out of use: 04 (11.1.1.4.9)
abbrev pub deactivated : ℕ
deactivated = DEACTIVATED

-- each event that an applet may be registered for: its code, and its bit in a row. The codes below 40 are the standard's (ETSI TS 102 223, 8.25),
-- those from 40 on the card's own.
abbrev pub event_codes : List (ℕ × ℕ)
event_codes =
    (MT_CALL, 0) ∷ (CALL_CONNECTED, 1) ∷ (CALL_DISCONNECTED, 2) ∷ (LOCATION_STATUS, 3) ∷ (USER_ACTIVITY, 4) ∷ (IDLE_SCREEN, 5) ∷ (LANGUAGE_SELECTION, 6)
    ∷ (DATA_AVAILABLE, 7) ∷ (CHANNEL_STATUS, 8) ∷ (PROFILE_DOWNLOAD, 9) ∷ (STATUS_COMMAND, 10) ∷ (CALL_CONTROL, 11) ∷ []

-- the codes of these events
abbrev pub known_codes : List ℕ
known_codes = map (λ event. event.0) event_codes

-- the codes whose bits are set
abbrev pub codes_of : ℕ → List ℕ
codes_of bits = map (λ event. event.0) (filter (λ event. bit_at bits event.1 == 1) event_codes)

-- bit 11 of a row's events says that its applet is registered for call control
abbrev pub call_control_bit : ℕ
call_control_bit = 11

-- the code of call control: 45, one of the card's own
abbrev pub call_control_code : ℕ
call_control_code = CALL_CONTROL
