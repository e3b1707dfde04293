-- What a commit of pieces writes: the pages that it touches move, and then their entries in the map change at once.
use Rattle.std.specs.Prelude.{◌≡◌, ℕ, ◌+◌, ◌-◌, ◌*◌, ◌/◌, ◌<◌, ◌≤◌, Bool, ◌&&◌, nat_lt, if◌then◌else◌, List, Option, false, length, take, slice_range, slice_index}
use Rattle.std.specs.Int.{w16, to_be_bytes}
use Rattle.std.specs.List.{fold, flat_map, list_any, count_by, range_with_len}
use Rattle.uicc_types.specs.Told.{Becomes}
use Rattle.eeprom_model.specs.declared.device.TheConstants.{PAGE_LENGTH}
use Rattle.store_form.specs.declared.store.TheConstants.{OWN_START}
use Rattle.store_form.specs.Pieces.{Piece, applied}
use Rattle.page_store.specs.declared.places.TheConstants.{FIRST_MAPPED, FREE, MAP, MAPPED, PAGES, POOL}
use Rattle.page_store.specs.Pages.{through}
use Rattle.page_store.specs.Tables.{Kept, moved, IsPool}

-- some byte of the piece, which has at least one, lies in the page
abbrev pub touches : ℕ → Piece → Bool
touches page piece = nat_lt (PAGE_LENGTH * page) (piece.place + length piece.bytes) && nat_lt piece.place (PAGE_LENGTH * page + PAGE_LENGTH)

-- a commit of these pieces touches the page
abbrev pub is_touched : List Piece → ℕ → Bool
is_touched pieces page = list_any (touches page) pieces

-- the bytes of a page of the content
abbrev pub bytes_of_page : List ℕ → ℕ → List ℕ
bytes_of_page held page = slice_range held (PAGE_LENGTH * page) (PAGE_LENGTH * page + PAGE_LENGTH)

-- the first page that a piece touches, and the one after the last
abbrev pub first_page : Piece → ℕ
first_page piece = piece.place / PAGE_LENGTH

-- the page after the last that a piece touches
abbrev pub end_page : Piece → ℕ
end_page piece = (piece.place + length piece.bytes - 1) / PAGE_LENGTH + 1

-- the entries of the pages that a piece touches, as the map spells them
unfoldable pub entries_piece : List ℕ → Piece → Piece
entries_piece entries piece = record {
  place = MAP + 2 * (first_page piece - FIRST_MAPPED);
  bytes = flat_map (to_be_bytes w16) (slice_range entries (first_page piece - FIRST_MAPPED) (end_page piece - FIRST_MAPPED));
}

-- what is committed below for a piece: its entries, or itself where it lies in the first page
abbrev pub inner_piece : List ℕ → Piece → Piece
inner_piece entries piece = if nat_lt piece.place OWN_START then piece else entries_piece entries piece

-- the page is touched, and lies below another
abbrev pub is_done : List Piece → ℕ → ℕ → Bool
is_done pieces until page = nat_lt page until && is_touched pieces page

-- how many of the pages below this one are touched
unfoldable pub done_count : List Piece → ℕ → ℕ
done_count pieces until = count_by (is_touched pieces) (take (until - FIRST_MAPPED) (range_with_len FIRST_MAPPED MAPPED))

-- what is kept once the touched pages below one have moved, the lowest first
unfoldable pub moved_below : List Piece → ℕ → Kept → Kept
moved_below pieces until kept =
    fold (λ kept page. if is_touched pieces page then moved page kept else kept) kept (take (until - FIRST_MAPPED) (range_with_len FIRST_MAPPED MAPPED))

-- The touched pages below one have moved: each page has its new bytes where it lies now, and what is read through the
-- map that stands in the memory is still the same.
pub record IsMoving (pieces : List Piece) (until : ℕ) (start kept : Kept) (old new : List ℕ) : Type 0 where
  pub long : length new ≡ length old
  pub low : (k : ℕ) → k < PAGE_LENGTH * POOL → slice_index new k ≡ slice_index old k
  pub same : through start.entries new ≡ through start.entries old
  pub there : (page : ℕ) → FIRST_MAPPED ≤ page → page < PAGES
      → bytes_of_page new (slice_index kept.entries (page - FIRST_MAPPED))
      ≡ bytes_of_page (if is_done pieces until page then applied pieces (through start.entries old) else through start.entries old) page

-- the same of what a store may tell, and of the table that is kept
pub record Moves (pieces : List Piece) (until : ℕ) (start kept : Kept) (old new : Option (List ℕ)) : Type 0 where
  pub pool : IsPool kept
  pub fresh : (j : ℕ) → j + done_count pieces until < FREE → slice_index kept.free j ≡ slice_index start.free (j + done_count pieces until)
  pub unmoved : (page : ℕ) → FIRST_MAPPED ≤ page → page < PAGES → is_done pieces until page ≡ false
      → slice_index kept.entries (page - FIRST_MAPPED) ≡ slice_index start.entries (page - FIRST_MAPPED)
  pub images : Becomes (IsMoving pieces until start kept) old new
