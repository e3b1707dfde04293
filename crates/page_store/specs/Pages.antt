-- What a device whose pages move stands for. The content has 1,024 pages. The first 13 lie at their own place, which
-- the store below keeps its own bytes in; each other lies in the page of the pool that the map names.
use Rattle.std.specs.Prelude.{ℕ, ◌+◌, ◌-◌, ◌*◌, ◌/◌, ◌%◌, ◌==◌, Bool, not, ◌&&◌, nat_lt, nat_le, if◌then◌else◌, List, [], ◌∷◌, length, take, map, replicate, slice_index, slice_range, Option, option_map}
use Rattle.std.specs.Int.{w16, from_be_bytes}
use Rattle.std.specs.List.{range_with_len, list_any, list_all, filter}
use Rattle.eeprom_model.specs.declared.device.TheConstants.{PAGE_LENGTH}
use Rattle.page_store.specs.declared.places.TheConstants.{PAGE_COUNT, CONTENT_SIZE, FIRST_MAPPED, MAPPED, MAP, MAP_END, POOL}

-- the number that two bytes spell, the upper one first
abbrev pub number_at : List ℕ → ℕ → ℕ
number_at bytes at = from_be_bytes w16 (slice_index bytes at ∷ slice_index bytes (at + 1) ∷ [])

-- the pages that the bytes of a map name
unfoldable pub entries_of : List ℕ → List ℕ
entries_of bytes = map (λ k. number_at bytes (2 * k)) (range_with_len 0 MAPPED)

-- the map of an image: the page in which each page of the content lies, from the first mapped one on
abbrev pub map_of : List ℕ → List ℕ
map_of image = entries_of (slice_range image MAP MAP_END)

-- a page in which one of the content may lie: from 45 to the end of the device
abbrev pub is_in_pool : ℕ → Bool
is_in_pool page = nat_le POOL page && nat_lt page PAGE_COUNT

-- one of these pages
abbrev pub is_among : List ℕ → ℕ → Bool
is_among pages page = list_any (λ other. other == page) pages

-- the entry of this number is in the pool, and no earlier one names the same page
abbrev pub is_right : List ℕ → ℕ → Bool
is_right pages k = is_in_pool (slice_index pages k) && not (is_among (take k pages) (slice_index pages k))

-- all its entries are in the pool and differ
unfoldable pub is_well_formed : List ℕ → Bool
is_well_formed pages = list_all (is_right pages) (range_with_len 0 (length pages))

-- the pages of the pool that a map doesn't name, in ascending order
unfoldable pub free_pages : List ℕ → List ℕ
free_pages pages = filter (λ page. not (is_among pages page)) (range_with_len POOL (PAGE_COUNT - POOL))

-- the page of the device in which a page of the content lies
abbrev pub page_of : List ℕ → ℕ → ℕ
page_of pages page = if nat_lt page FIRST_MAPPED then page else slice_index pages (page - FIRST_MAPPED)

-- the place on the device of a byte of the content
unfoldable pub place_of : List ℕ → ℕ → ℕ
place_of pages k = PAGE_LENGTH * page_of pages (k / PAGE_LENGTH) + k % PAGE_LENGTH

-- the content that is read through a map
unfoldable pub through : List ℕ → List ℕ → List ℕ
through pages image = map (λ k. slice_index image (place_of pages k)) (range_with_len 0 CONTENT_SIZE)

-- the content of an image: what is read through its map, or FF in all bytes where that isn't well formed
unfoldable pub content_of : List ℕ → List ℕ
content_of image = if is_well_formed (map_of image) then through (map_of image) image else replicate CONTENT_SIZE 255

-- the content of an image that may be told
abbrev pub content : Option (List ℕ) → Option (List ℕ)
content told = option_map content_of told
