-- The map and the free pages, as they are kept.
use Rattle.std.specs.Prelude.{◌≡◌, ◌≢◌, ℕ, ◌-◌, ◌<◌, List, [], ◌∷◌, ◌++◌, length, drop, slice_index, slice_index_or, slice_set, Bool, false, Option, All, IfSome, true}
use Rattle.std.specs.List.{AllPairs}
use Rattle.page_store.specs.declared.places.TheConstants.{FIRST_MAPPED, MAPPED, FREE, PAGE_COUNT, DEVICE_SIZE}
use Rattle.page_store.specs.Pages.{is_in_pool, is_among, is_well_formed, free_pages, map_of}

-- the page in which each mapped page lies, and the free pages, the one that has been free longest first
pub record Kept : Type 0 where
  pub entries : List ℕ
  pub free : List ℕ

-- what is kept of a map that was read: its free pages stand in ascending order
abbrev pub loaded : List ℕ → Kept
loaded entries = record { entries = entries; free = free_pages entries }

-- a well formed map, and whether it names a page
pub record IsNaming (entries : List ℕ) (named : List Bool) : Type 0 where
  pub count : length entries ≡ MAPPED
  pub formed : is_well_formed entries ≡ true
  pub same : (page : ℕ) → page < PAGE_COUNT → slice_index_or named page false ≡ is_among entries page

-- A page of the content moves into the page that has been free longest. The one that it lay in is free from now on.
abbrev pub moved : ℕ → Kept → Kept
moved page kept = record {
  entries = slice_set kept.entries (page - FIRST_MAPPED) (slice_index kept.free 0);
  free = drop 1 kept.free ++ slice_index kept.entries (page - FIRST_MAPPED) ∷ [];
}

-- All pages of the pool, each once: those that the map names and those that are free.
pub record IsPool (kept : Kept) : Type 0 where
  pub count : length kept.entries ≡ MAPPED
  pub free_count : length kept.free ≡ FREE
  pub inside : All (λ page. is_in_pool page ≡ true) kept.entries
  pub free_inside : All (λ page. is_in_pool page ≡ true) kept.free
  pub apart : AllPairs ◌≢◌ kept.entries
  pub free_apart : AllPairs ◌≢◌ kept.free
  pub not_free : (k j : ℕ) → k < length kept.entries → j < length kept.free → slice_index kept.entries k ≢ slice_index kept.free j

-- what is kept is the map of the image, where that is told
pub record IsKept (kept : Kept) (told : Option (List ℕ)) : Type 0 where
  pub pool : IsPool kept
  pub same : IfSome told (λ image. map_of image ≡ kept.entries)

-- the same, of a device of the right size
pub record IsTold (kept : Kept) (told : Option (List ℕ)) : Type 0 where
  pub long : IfSome told (λ image. length image ≡ DEVICE_SIZE)
  pub kept_is : IsKept kept told
