-- Which contents of a card's memory stand for a state, and for which.
use Rattle.std.specs.Prelude.{◌≡◌, ◌↔◌, ℕ, ◌<◌, ◌^◌, false, List, ◌∷◌, ◌++◌, length, All, IsTrue, Ok, Err, ⊤}
use Rattle.card_state.specs.Persistent.{Contents, Files, Bytes, Records, Persistent}
use Rattle.card_state.specs.Places.{memory_size}
use Rattle.card_state.specs.Checks.{Check, checks}
use Rattle.card_state.specs.Standing.{state_in, stands_for}
use Rattle.card_state.specs.Soundness.{IsSound}
use Rattle.card_state.specs.Forms.{IsWellFormed}

-- A content stands for no other state than that of its entries, and this is sound.
abbrev pub StandingIsSound : Type 0
StandingIsSound = (store_mark : ℕ) (content : List ℕ) (state : Persistent) → length content ≡ memory_size → stands_for store_mark content ≡ Ok state
    → (state ≡ state_in content) × IsSound state

-- A content stands exactly where it is well formed and the state of its entries is sound.
abbrev pub SoundStands : Type 0
SoundStands = (store_mark : ℕ) (content : List ℕ) → length content ≡ memory_size
    → (stands_for store_mark content ≡ Ok (state_in content)) ↔ (IsWellFormed store_mark content × IsSound (state_in content))

-- the records of a file are so short that a byte can say their length
abbrev pub HasShortRecords : Contents → Type 0
HasShortRecords Files = ⊤
HasShortRecords (Bytes bytes) = ⊤
HasShortRecords (Records records) = All (λ bytes. length bytes < 2 ^ 8) records

-- In a content of bytes the records of files are short.
abbrev pub RecordsAreShort : Type 0
RecordsAreShort = (store_mark : ℕ) (content : List ℕ) (state : Persistent) → length content ≡ memory_size → All (λ byte. byte < 2 ^ 8) content
    → stands_for store_mark content ≡ Ok state → All (λ file. HasShortRecords file.contents) state.files

-- of these checks the first that is not met is about this place
pub record FailsFirst (list : List Check) (place : ℕ) : Type 0 where
  pub before : List Check
  pub failed : Check
  pub behind : List Check
  pub parts : list ≡ before ++ failed ∷ behind
  pub met : All (λ check. IsTrue check.is_met) before
  pub not_met : failed.is_met ≡ false
  pub about : failed.place ≡ place

-- A content is refused at a place exactly where the first check that fails is about it.
abbrev pub RefusedAtFirst : Type 0
RefusedAtFirst = (store_mark : ℕ) (content : List ℕ) (place : ℕ) → (stands_for store_mark content ≡ Err place) ↔ FailsFirst (checks store_mark content) place
