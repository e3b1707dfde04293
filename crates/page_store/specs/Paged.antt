-- A store whose pages move: its device, and what it knows of the map.
use Rattle.std.specs.Prelude.{◌≡◌, ℕ, Bool, true, false, ◌&&◌, List, Option, IfSome, if◌then◌else◌}
use Rattle.update_journal.specs.Journal.{is_recovered as is_below_recovered}
use Rattle.page_store.specs.declared.paged.Known.{Known}
use Rattle.page_store.specs.declared.paged.Known.TheVariants.{Nothing, Blank, Mapped}
use Rattle.page_store.specs.declared.places.TheConstants.{DEVICE_SIZE}
use Rattle.page_store.specs.Blanks.{first_entries}
use Rattle.page_store.specs.Pages.{is_well_formed, map_of}
use Rattle.page_store.specs.Tables.{Kept, loaded, IsKept}

-- what is known of the map is so, where the store below tells its bytes
abbrev pub IsKnown : Known → Option (List ℕ) → Type 0
IsKnown Nothing told = Unit {0}
IsKnown Blank told = IfSome told (λ image. is_well_formed (map_of image) ≡ false)
IsKnown (Mapped kept) told = IsKept kept told

-- it was read whether there is a map
abbrev pub is_known : Known → Bool
is_known Nothing = false
is_known Blank = true
is_known (Mapped kept) = true

-- what a recovery learns from the entries of a map
abbrev pub known_of : List ℕ → Known
known_of entries = if is_well_formed entries then Mapped (loaded entries) else Blank

-- the table that a commit begins with: the one that is kept, or the first one where there is no map
abbrev pub table_of : Known → Kept
table_of Nothing = loaded first_entries
table_of Blank = loaded first_entries
table_of (Mapped kept) = kept

-- the device, what is known of the map, how many commits were answered with Ok, how many reads and recoveries were asked for, and whether the
-- journal below takes no recovery to be due
pub record Paged (E : Type 0) : Type 0 where
  pub device : E
  pub known : Known
  pub commits : ℕ
  pub reads : ℕ
  pub recoveries : ℕ
  pub is_ready : Bool

-- no recovery is due: the map is known, and none of the store below is due
abbrev pub is_recovered : Known → Bool → Option (List ℕ) → Bool
is_recovered known is_ready told = is_known known && is_below_recovered is_ready told

-- what holds of every store of a device of so many bytes
pub record IsPaged (size : ℕ) (known : Known) (told : Option (List ℕ)) : Type 0 where
  pub size_is : size ≡ DEVICE_SIZE
  pub known_is : IsKnown known told
