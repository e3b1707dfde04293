-- Which persistent states a card may have.
use Rattle.std.specs.Prelude.{◌≡◌, ◌≢◌, ℕ, ◌+◌, ◌≤◌, ◌<◌, ◌⊎◌, Bool, not, ◌==◌, if◌then◌else◌, IsTrue, List, [], ◌∷◌, ◌*◌, length, All, AllPairs, Contains, count_by, None}
use Rattle.uicc_types.specs.declared.keys.TheConstants.{PIN_1, PIN_2, ADM_1}
use Rattle.card_state.specs.declared.sizes.TheConstants.{NODE_COUNT, TEXT_LIMIT, MENU_LIMIT, RECORD_LIMIT, TRIES, UNBLOCK_TRIES}
use Rattle.card_state.specs.Kinds.{df_kind, transparent_kind, has_records, is_ef_kind, mf_id, current_adf_id, activated, deactivated, known_codes, call_control_code}
use Rattle.card_state.specs.Places.{data_place, data_end, row_count, kept_limit}
use Rattle.card_state.specs.Persistent.{Contents, Files, Bytes, Records, File, Pin, Registration, Persistent}
use Rattle.card_state.specs.AppletKinds.{IsAppletKind}

-- a DF, by its kind
abbrev pub IsDf : File → Type 0
IsDf file = file.kind ≡ df_kind

-- an EF, by its kind
abbrev pub IsEf : File → Type 0
IsEf file = IsTrue (is_ef_kind file.kind)

-- the file that everything lies in (ETSI TS 102 221, 8.1)
abbrev pub mf : File
mf = record { number = 0; parent = 0; kind = df_kind; id = mf_id; short = 0; life = activated; rule = None; place = 0; size = 0; contents = Files }

-- records of one length, as many as a record number can name
pub record AreRecords (size : ℕ) (records : List (List ℕ)) : Type 0 where
  pub width : ℕ
  pub some_bytes : 1 ≤ width
  pub whole : All (λ bytes. length bytes ≡ width) records
  pub few : length records ≤ RECORD_LIMIT
  pub fill : length records * width ≡ size

-- what a file of this kind and size holds
abbrev pub AreContents : ℕ → ℕ → Contents → Type 0
AreContents kind size Files = kind ≡ df_kind
AreContents kind size (Bytes bytes) = (kind ≡ transparent_kind) × (length bytes ≡ size)
AreContents kind size (Records records) = IsTrue (has_records kind) × AreRecords size records

-- a file other than the MF: in a DF of smaller number, with an identifier that it may have
pub record IsInTree (files : List File) (file : File) : Type 0 where
  pub id : (file.id ≢ mf_id) × (file.id ≢ current_adf_id)
  pub parent : File
  pub there : Contains files parent
  pub df : IsDf parent
  pub of_it : parent.number ≡ file.parent
  pub above : file.parent < file.number

-- an EF has a short file identifier of at most 30, or 0 for none, is activated or deactivated, and has at least one byte, all among those of the
-- files
pub record IsSoundEf (wide : Bool) (file : File) : Type 0 where
  pub short : file.short ≤ 30
  pub life : (file.life ≡ deactivated) ⊎ (file.life ≡ activated)
  pub from : data_place ≤ file.place
  pub some : 1 ≤ file.size
  pub to : file.place + file.size ≤ data_end wide

-- a DF has an identifier and a parent alone (8.2.1)
pub record IsSoundDf (file : File) : Type 0 where
  pub short : file.short ≡ 0
  pub life : file.life ≡ activated
  pub rule : file.rule ≡ None
  pub place : file.place ≡ 0
  pub size : file.size ≡ 0

-- a file is a DF or an EF, the MF or in the tree below it, has a number below 128, holds what its kind and size say, and has what else its kind asks
-- for
pub record IsSoundFile (wide : Bool) (files : List File) (file : File) : Type 0 where
  pub kind : IsDf file ⊎ IsEf file
  pub tree : (file ≡ mf) ⊎ IsInTree files file
  pub number : file.number < NODE_COUNT
  pub contents : AreContents file.kind file.size file.contents
  pub df : IsDf file → IsSoundDf file
  pub ef : IsEf file → IsSoundEf wide file

-- one ends before the other begins, so no byte is in both
abbrev pub AreApart : File → File → Type 0
AreApart a b = (a.place + a.size ≤ b.place) ⊎ (b.place + b.size ≤ a.place)

-- two files: numbers ascend; in one DF their identifiers and their short identifiers differ; EFs share no byte
pub record AreDistinct (a b : File) : Type 0 where
  pub number : a.number < b.number
  pub id : a.parent ≡ b.parent → a.id ≢ b.id
  pub short : IsEf a → IsEf b → a.parent ≡ b.parent → (a.short ≡ 0) ⊎ (a.short ≢ b.short)
  pub bytes : IsEf a → IsEf b → AreApart a b

-- a PIN has one of the three keys, at most 3 tries, and at most 10 tries for its UNBLOCK PIN
pub record IsSoundPin (pin : Pin) : Type 0 where
  pub key : Contains (PIN_1 ∷ PIN_2 ∷ ADM_1 ∷ []) pin.key
  pub tries : pin.tries ≤ TRIES
  pub unblock_tries : pin.unblock_tries ≤ UNBLOCK_TRIES

-- the place of a key among those of the PINs
abbrev pub slot_of_key : ℕ → ℕ
slot_of_key key = if key == PIN_1 then 0 else if key == PIN_2 then 1 else 2

-- codes of the events that an applet may be registered for, ascending, each once
pub record AreEventCodes (codes : List ℕ) : Type 0 where
  pub known : All (Contains known_codes) codes
  pub ascending : AllPairs (λ a b. a < b) codes

-- a row stands on a shelf that the card has, with a known kind, a priority of at least 1, a sequence number that was given out, codes of events, and
-- a text and kept bytes that are short enough
pub record IsSoundRow (wide : Bool) (next : ℕ) (row : Registration) : Type 0 where
  pub shelf : row.shelf < row_count wide
  pub kind : IsAppletKind row.kind
  pub priority : 1 ≤ row.priority
  pub sequence : row.sequence < next
  pub codes : AreEventCodes row.codes
  pub text : length row.text ≤ TEXT_LIMIT
  pub kept : length row.kept ≤ kept_limit wide

-- two rows: shelves ascend, sequence numbers differ, and only one answers call control
pub record AreDifferent (a b : Registration) : Type 0 where
  pub shelf : a.shelf < b.shelf
  pub sequence : a.sequence ≢ b.sequence
  pub call_control : Contains a.codes call_control_code → Contains b.codes call_control_code → ⊥

-- Each file, PIN and row is sound and differs from the others as it has to, the MF is there, the PINs stand in the order 01, 81, 0A, and at most 16
-- rows have a text.
pub record IsSound (state : Persistent) : Type 0 where
  pub files : All (IsSoundFile state.is_wide state.files) state.files
  pub mf_there : Contains state.files mf
  pub distinct_files : AllPairs AreDistinct state.files
  pub pins : All IsSoundPin state.pins
  pub ordered_pins : AllPairs (λ a b. slot_of_key a.key < slot_of_key b.key) state.pins
  pub rows : All (IsSoundRow state.is_wide state.next_sequence) state.rows
  pub distinct_rows : AllPairs AreDifferent state.rows
  pub texts : count_by (λ row. not (length row.text == 0)) state.rows ≤ MENU_LIMIT
