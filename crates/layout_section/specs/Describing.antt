-- The persistent state that a section describes, and the places and the room for what a line adds to it.
use Rattle.std.specs.Prelude.{◌≡◌, ◌⊎◌, ℕ, ◌+◌, ◌-◌, ◌==◌, Bool, true, false, not, ◌&&◌, ◌||◌, nat_le, List, [], ◌∷◌, ◌++◌, length, if◌then◌else◌, Option, Some, None, is_none, option_and_then}
use Rattle.uicc_types.specs.declared.identifiers.FileId.{FileId}
use Rattle.card_state.specs.declared.sizes.TheConstants.{NODE_COUNT}
use Rattle.card_state.specs.Places.{data_place, data_end}
use Rattle.card_state.specs.Kinds.{df_kind}
use Rattle.card_state.specs.Persistent.{File, Persistent}
use Rattle.card_state.specs.Soundness.{mf}
use Rattle.card_state.specs.Sections.{file_at, df_for, is_new_path, id_for, fits_wide, byte_total_of, rows_fit}
use Rattle.card_state.specs.declared.installation.Installed.{Installed}
use Rattle.layout_section.specs.Adding.{IsPlaceIn}
use Rattle.layout_section.specs.Installing.{wants_wide_card}
use Rattle.layout_section.specs.declared.section.Section.TheInside.{Inside}
use Rattle.layout_section.specs.declared.section.Place.{Place}

-- wide where its files have few enough bytes
abbrev pub described : Inside → Persistent
described inside = record {
  is_wide = fits_wide (byte_total_of inside.files);
  files = inside.files;
  pins = inside.pins;
  rows = inside.rows.list;
  next_sequence = inside.rows.next;
}

-- rows that need a wide card stand only beside so few bytes
abbrev pub RowsFit : Inside → Type 0
RowsFit inside = rows_fit inside.rows.list (byte_total_of inside.files) ≡ true

-- the DF at this path
abbrev pub df_at : List File → List FileId → Option File
df_at files path = option_and_then (λ file. if file.kind == df_kind then Some file else None) (file_at files mf path)

-- no DF is there, or there is such a file in it
abbrev pub HasNoPlaceAt : List File → List FileId → FileId → Type 0
HasNoPlaceAt files front id = (df_at files front ≡ None) ⊎ (is_none (file_at files mf (front ++ id ∷ [])) ≡ false)

-- the DF of a new file, and its identifier
pub record IsPlaceAt (files : List File) (front : List FileId) (id : FileId) (place : Place) : Type 0 where
  pub df : File
  pub there : df_at files front ≡ Some df
  pub number : df.number ≡ place.df
  pub new : is_none (file_at files mf (front ++ id ∷ [])) ≡ true
  pub inside : IsPlaceIn files place.df place.id
  pub same : place.id ≡ id

-- the path names no DF for a new file, or is none of a new file
abbrev pub HasNoPlace : List File → List FileId → Type 0
HasNoPlace files path = (df_for files path ≡ None) ⊎ (is_new_path files path ≡ false)

-- the DF and the identifier of the new file that a path names
pub record IsPlace (files : List File) (path : List FileId) (place : Place) : Type 0 where
  pub df : File
  pub there : df_for files path ≡ Some df
  pub number : df.number ≡ place.df
  pub new : is_new_path files path ≡ true
  pub inside : IsPlaceIn files place.df place.id
  pub id : id_for path ≡ place.id.0

-- room for one file more, of so many bytes
abbrev pub has_room : Persistent → ℕ → Bool
has_room state size =
    nat_le (length state.files + 1) NODE_COUNT && nat_le (byte_total_of state.files + size) (data_end false - data_place)
    && rows_fit state.rows (byte_total_of state.files + size)

-- room for a row on this shelf beside the files
abbrev pub has_room_for_row : Persistent → ℕ → Installed → Bool
has_room_for_row state shelf installed = fits_wide (byte_total_of state.files) || not (wants_wide_card shelf installed)
