-- A card as its layout spells it, and the memory in which it is written.
use Rattle.std.specs.Prelude.{◌≡◌, ◌⊎◌, ℕ, ◌+◌, ◌-◌, ◌*◌, ◌≤◌, ◌<◌, Bool, true, List, ◌∷◌, length, slice_index, is_some, Result, Ok, OnOk}
use Rattle.store_form.specs.declared.store.Store.{Ghosts as StoreWords}
use Rattle.store_form.specs.declared.store.StoreFault.{StoreFault}
use Rattle.store_form.specs.Faults.{HasCause}
use Rattle.card_state.specs.declared.places.TheConstants.{PINS, ROWS, NODES, UPPER_ROWS, KEPT_APART}
use Rattle.card_state.specs.declared.sizes.TheConstants.{NODE_COUNT, NODE_WIDTH, ROW_COUNT, ROW_STRIDE, LOWER_ROW_COUNT, KEPT_WIDTH}
use Rattle.card_state.specs.Places.{memory_size, version_of, data_place, data_end}
use Rattle.card_state.specs.Persistent.{Persistent}
use Rattle.card_state.specs.Decoding.{bytes_at}
use Rattle.card_state.specs.Numbers.{two_bytes}
use Rattle.card_state.specs.Sections.{fits_wide, byte_total_of, rows_fit}
use Rattle.card_state.specs.Standing.{stands_for}
use Rattle.layout_section.specs.declared.section.SpelledCard.{SpelledCard}
use Rattle.layout_section.specs.Filing.{SpellsFiles}
use Rattle.layout_section.specs.PinSlots.{SpellsPins}
use Rattle.layout_section.specs.RowTables.{SpellsRows}

-- `UICC`, the version, the byte of the kind of store, and the next sequence number
abbrev pub first_bytes : Bool → ℕ → ℕ → List ℕ
first_bytes wide mark next = 0x55 ∷ 0x49 ∷ 0x43 ∷ 0x43 ∷ version_of wide ∷ mark ∷ two_bytes next

-- the parts spell this state
pub record SpellsCard (mark : ℕ) (state : Persistent) (card : SpelledCard) : Type 0 where
  pub first : card.first ≡ first_bytes card.wide mark state.next_sequence
  pub wide : card.wide ≡ fits_wide (byte_total_of state.files)
  pub state_wide : state.is_wide ≡ card.wide
  pub fit : rows_fit state.rows (byte_total_of state.files) ≡ true
  pub pins : SpellsPins state.pins card.pins
  pub rows : SpellsRows (record { list = state.rows; next = state.next_sequence }) card.rows.lower card.rows.upper card.rows.kept
  pub files : SpellsFiles state.files card.files.entries card.files.bytes.now

-- the bytes of the files end before the rows after them, if there are such, and else in the memory
abbrev pub FitsBefore : SpelledCard → Type 0
FitsBefore card = data_place + length card.files.bytes.now ≤ data_end card.wide

-- the parts after the first bytes stand in their places; those of a wide card alone after its files
pub record IsPrepared (card : SpelledCard) (content : List ℕ) : Type 0 where
  pub long : length content ≡ memory_size
  pub pins : bytes_at content PINS (ROWS - PINS) ≡ card.pins
  pub lower : bytes_at content ROWS (ROW_STRIDE * LOWER_ROW_COUNT) ≡ card.rows.lower
  pub entries : bytes_at content NODES (NODE_WIDTH * NODE_COUNT) ≡ card.files.entries
  pub bytes : bytes_at content data_place (length card.files.bytes.now) ≡ card.files.bytes.now
  pub upper : card.wide ≡ true → bytes_at content UPPER_ROWS (ROW_STRIDE * LOWER_ROW_COUNT) ≡ card.rows.upper
  pub kept : card.wide ≡ true → bytes_at content KEPT_APART (KEPT_WIDTH * ROW_COUNT) ≡ card.rows.kept

-- and so do the first bytes, by which the memory is known to hold a card
pub record IsWritten (card : SpelledCard) (content : List ℕ) : Type 0 where
  pub first : bytes_at content 0 8 ≡ card.first
  pub behind : IsPrepared card content

-- the first eight bytes are the old ones
abbrev pub KeepsFirst : List ℕ → List ℕ → Type 0
KeepsFirst old new = (k : ℕ) → k < 8 → slice_index new k ≡ slice_index old k

-- they are, or all bytes stand for this state
abbrev pub KeepsFirstOr : ℕ → Persistent → List ℕ → List ℕ → Type 0
KeepsFirstOr store_mark state old new = KeepsFirst old new ⊎ (stands_for store_mark new ≡ Ok state)

-- ---- a store in which it is written

-- After Ok no recovery is due. Whether it tells its bytes, its size and its mark stay, and each fault has its cause.
pub record KeepsLaying {S T : Type 0} (words : StoreWords S) (old new : S) (result : Result T StoreFault) : Type 0 where
  pub ready : OnOk result (words.recovered new ≡ true)
  pub told : is_some (words.stable new) ≡ is_some (words.stable old)
  pub size : words.byte_count new ≡ words.byte_count old
  pub mark : words.store_mark new ≡ words.store_mark old
  pub cause : HasCause (words.meter old) (words.meter new) result
