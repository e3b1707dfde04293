-- What a step wants of the store below, what it keeps of it, and what it writes.
use Rattle.std.specs.Prelude.{◌≡◌, ◌⊎◌, ℕ, ◌+◌, ◌%◌, ◌<◌, ◌≤◌, true, false, List, length, Option, option_map, All, Result, OnOk, OnErr}
use Rattle.list_laws.specs.Patches.{patched, Torn}
use Rattle.uicc_types.specs.Told.{Becomes}
use Rattle.eeprom_model.specs.declared.device.TheConstants.{PAGE_LENGTH}
use Rattle.store_form.specs.declared.store.StoreFault.{StoreFault}
use Rattle.store_form.specs.Faults.{HasCause}
use Rattle.store_form.specs.Pieces.{Piece, applied, IsUsable, IsUsablePiece}
use Rattle.page_store.specs.declared.counted.CountedStore.{Ghosts as StoreWords}
use Rattle.page_store.specs.declared.paged.Known.{Known}
use Rattle.page_store.specs.declared.places.TheConstants.{CONTENT_SIZE, DEVICE_SIZE, FIRST_MAPPED, PAGES}
use Rattle.page_store.specs.Commits.{Moves}
use Rattle.page_store.specs.Pages.{content}
use Rattle.page_store.specs.Paged.{IsKnown, is_known}
use Rattle.page_store.specs.Tables.{Kept, IsPool, IsTold}

-- ---- the store below

-- no recovery is due, and it has all bytes of the device
pub record IsBelow {S : Type 0} (words : StoreWords S) (store : S) : Type 0 where
  pub recovered : words.recovered store ≡ true
  pub size : words.byte_count store ≡ DEVICE_SIZE

-- After Ok no recovery is due, and after a fault one is. Its size and its mark stay, and each fault has its cause.
pub record KeepsBelow {S T : Type 0} (words : StoreWords S) (old new : S) (result : Result T StoreFault) : Type 0 where
  pub ready : OnOk result (words.recovered new ≡ true)
  pub due : OnErr result (words.recovered new ≡ false)
  pub size : words.byte_count new ≡ words.byte_count old
  pub mark : words.store_mark new ≡ words.store_mark old
  pub cause : HasCause (words.meter old) (words.meter new) result

-- ---- the map

-- what is known of the map is so, and something is
pub record Knows (known : Known) (told : Option (List ℕ)) : Type 0 where
  pub is_so : IsKnown known told
  pub is_some : is_known known ≡ true

-- what is known of it is so, and after Ok something is
pub record StillKnows {T : Type 0} (known : Known) (told : Option (List ℕ)) (result : Result T StoreFault) : Type 0 where
  pub is_so : IsKnown known told
  pub is_some : OnOk result (is_known known ≡ true)

-- ---- what is read and written

-- a range of the content that one page has
pub record InPage (at count : ℕ) : Type 0 where
  pub some : 0 < count
  pub usable : IsUsable CONTENT_SIZE at count
  pub one_page : at % PAGE_LENGTH + count ≤ PAGE_LENGTH

-- at least one piece, and each in the content
pub record AreToWrite (pieces : List Piece) : Type 0 where
  pub some : 0 < length pieces
  pub usable : All (IsUsablePiece CONTENT_SIZE) pieces

-- after Ok all pieces are written, and after a fault all or none
pub record WritesAll {T : Type 0} (pieces : List Piece) (old new : Option (List ℕ)) (result : Result T StoreFault) : Type 0 where
  pub ok : OnOk result (new ≡ option_map (applied pieces) old)
  pub whole : OnErr result ((new ≡ old) ⊎ (new ≡ option_map (applied pieces) old))

-- after Ok the bytes stand from this place on, and after a fault any bytes may, there alone
pub record WritesRange {T : Type 0} (at : ℕ) (bytes : List ℕ) (old new : Option (List ℕ)) (result : Result T StoreFault) : Type 0 where
  pub ok : OnOk result (new ≡ option_map (patched at bytes) old)
  pub torn : OnErr result (Becomes (Torn at (length bytes)) old new)

-- ---- a page that moves

-- the page is a mapped one, and the table and the pieces are such that it may move
pub record MayMove (pieces : List Piece) (page : ℕ) (table : Kept) : Type 0 where
  pub pool : IsPool table
  pub usable : All (IsUsablePiece CONTENT_SIZE) pieces
  pub from : FIRST_MAPPED ≤ page
  pub to : page < PAGES

-- this holds of whatever a commit began with, if the touched pages below this one have moved since
abbrev pub OnceMoved : List Piece → ℕ → Kept → Option (List ℕ) → (Kept → Option (List ℕ) → Type 0) → Type 0
OnceMoved pieces page table now Then =
    (start : Kept) (told : Option (List ℕ)) → IsTold start told → Moves pieces page start table told now → Then start told

-- Where they have, they and this one have after Ok; after a fault the content is as it was when the commit began.
pub record MovesOn {T : Type 0} (pieces : List Piece) (page : ℕ) (table table_then : Kept) (old new : Option (List ℕ))
    (result : Result T StoreFault) : Type 0 where
  pub ok : OnOk result (OnceMoved pieces page table old (λ start told. Moves pieces (page + 1) start table_then told new))
  pub same : OnErr result (OnceMoved pieces page table old (λ start told. content new ≡ content told))
