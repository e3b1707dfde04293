-- What the calls that add to a section answer and leave.
use Rattle.std.specs.Prelude.{◌≡◌, ℕ, ◌+◌, ◌-◌, ◌≤◌, ◌<◌, ◌==◌, Bool, true, false, not, ◌&&◌, ◌||◌, nat_le, if◌then◌else◌, List, [], ◌++◌, length, map, replicate, slice_set, slice_index_or, Option, Some, None, Result, Ok, Err}
use Rattle.std.specs.List.{list_any}
use Rattle.list_laws.specs.Patches.{patched}
use Rattle.uicc_types.specs.declared.identifiers.FileId.{FileId}
use Rattle.uicc_types.specs.declared.keys.TheConstants.{ADM_1}
use Rattle.card_state.specs.declared.shapes.Shape.{Shape}
use Rattle.card_state.specs.declared.faults.SectionFault.{SectionFault}
use Rattle.card_state.specs.declared.faults.SectionFault.TheVariants.{Bad}
use Rattle.card_state.specs.Persistent.{Rule, Contents, Files, Bytes, Records, File, Pin, Registration, Persistent}
use Rattle.card_state.specs.Kinds.{df_kind, is_ef_kind, activated}
use Rattle.card_state.specs.Places.{data_place}
use Rattle.card_state.specs.Checks.{key_of_slot, is_free_id}
use Rattle.card_state.specs.Soundness.{mf}
use Rattle.card_state.specs.Sections.{SectionLine, line_added, is_key, with_pin, refilled, kind_of, size_of, blank_contents, byte_total_of, child_of}
use Rattle.card_state.specs.AppletKinds.{IsAppletKind}

-- the new state and Ok, or the line's fault and no change
abbrev pub Adds : Result Persistent SectionFault → Persistent → Result (Unit {0}) SectionFault → Persistent → Type 0
Adds (Ok state) old result new = (result ≡ Ok tt) × (new ≡ state)
Adds (Err fault) old result new = (result ≡ Err fault) × (new ≡ old)

-- a call adds what its line says, or answers the line's fault and changes nothing
abbrev pub AddsLine : SectionLine → Persistent → Result (Unit {0}) SectionFault → Persistent → Type 0
AddsLine line old result new = Adds (line_added old line) old result new

-- where a change is allowed it is made, and else it is Bad and nothing changes
abbrev pub Changes : {X : Type 0} → Bool → X → X → Result (Unit {0}) SectionFault → X → Type 0
Changes true changed old result new = (result ≡ Ok tt) × (new ≡ changed)
Changes false changed old result new = (result ≡ Err Bad) × (new ≡ old)

-- ---- PINs

-- a PIN with 3 tries and 10 for its UNBLOCK PIN
abbrev pub new_pin : ℕ → List ℕ → Bool → List ℕ → Pin
new_pin key value enabled unblock = record { key = key; is_enabled = enabled; tries = 3; unblock_tries = 10; value = value; unblock = unblock }

-- the key of a PIN, which is enabled if it is that of an administrator
abbrev pub may_have_pin : ℕ → Bool → Bool
may_have_pin key enabled = is_key key && (enabled || not (key == ADM_1))

-- the slot of a key, where a PIN with it may be so
pub record IsSlotFor (key : ℕ) (enabled : Bool) (slot : ℕ) : Type 0 where
  pub low : slot < 3
  pub own : key ≡ key_of_slot slot
  pub may : (enabled || not (key == ADM_1)) ≡ true

-- a PIN that a section may take: of one of the three keys, of which it has none; ADM1 is always enabled
abbrev pub is_new_pin : List Pin → Pin → Bool
is_new_pin pins pin = is_key pin.key && not (list_any (λ other. other.key == pin.key) pins) && (pin.is_enabled || not (pin.key == ADM_1))

-- a PIN is added, or Bad is answered and nothing changes
abbrev pub AddsPin : Pin → List Pin → Result (Unit {0}) SectionFault → List Pin → Type 0
AddsPin pin old result new = Changes (is_new_pin old pin) (with_pin old pin) old result new

-- ---- rows

-- the registered applets, and the next sequence number
pub record RowList : Type 0 where
  pub list : List Registration
  pub next : ℕ

-- ---- files

-- the file of this number, or the MF
abbrev pub file_numbered : List File → ℕ → File
file_numbered files number = slice_index_or files number mf

-- the file of this number
pub record IsAt (files : List File) (file : File) (number : ℕ) : Type 0 where
  pub low : number < length files
  pub is : file_numbered files number ≡ file
  pub own : file.number ≡ number

-- the number of the file that was looked for, or none
abbrev pub IsFound : List File → Option File → Option ℕ → Type 0
IsFound files None None = Unit {0}
IsFound files (Some file) (Some number) = IsAt files file number
IsFound files None (Some number) = ⊥
IsFound files (Some file) None = ⊥

-- a new file may lie in this DF and have this identifier
pub record IsPlaceIn (files : List File) (df : ℕ) (id : FileId) : Type 0 where
  pub low : df < length files
  pub is_df : (file_numbered files df).kind ≡ df_kind
  pub free : is_free_id id.0 ≡ true
  pub new : child_of files df id ≡ None

-- a new EF of this DF may have this short identifier, or it has none
abbrev pub is_short_for : List File → ℕ → ℕ → Bool
is_short_for files df short =
    nat_le short 30 && (short == 0 || not (list_any (λ file. is_ef_kind file.kind && file.parent == df && file.short == short) files))

-- a new DF with this number
abbrev pub df_numbered : ℕ → ℕ → FileId → File
df_numbered number parent id = record mf { number = number; parent = parent; id = id.0 }

-- a new EF with the next number
abbrev pub ef_numbered : List File → ℕ → FileId → Shape → ℕ → Option Rule → File
ef_numbered files parent id shape short rule = record {
  number = length files;
  parent = parent;
  kind = kind_of shape;
  id = id.0;
  short = short;
  life = activated;
  rule = rule;
  place = data_place + byte_total_of files;
  size = size_of shape;
  contents = blank_contents shape;
}

-- contents with these bytes from an offset on, if they are bytes and so many
abbrev pub filled : ℕ → List ℕ → Contents → Option Contents
filled offset bytes (Bytes old) = if nat_le (offset + length bytes) (length old) then Some (Bytes (patched offset bytes old)) else None
filled offset bytes Files = None
filled offset bytes (Records old) = None

-- contents with these bytes, filled up with FF, as one of its records, if there is one of this number and so long
abbrev pub with_record : ℕ → List ℕ → Contents → Option Contents
with_record number bytes (Records old) =
    let width = length (slice_index_or old 0 []) in
    if nat_le 1 number && nat_le number (length old) && nat_le (length bytes) width
    then Some (Records (slice_set old (number - 1) (bytes ++ replicate (width - length bytes) 0xFF))) else None
with_record number bytes Files = None
with_record number bytes (Bytes old) = None

-- where there are such contents the file has them, and else that is Bad and nothing changes
abbrev pub Rewrites : List File → ℕ → Option Contents → Result (Unit {0}) SectionFault → List File → Type 0
Rewrites old number (Some contents) result new = (result ≡ Ok tt) × (new ≡ map (refilled number contents) old)
Rewrites old number None result new = (result ≡ Err Bad) × (new ≡ old)
