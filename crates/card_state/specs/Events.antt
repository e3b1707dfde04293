-- The events of a row as bits, and what it is to set or clear one of them.
use Rattle.std.specs.Prelude.{◌≡◌, ◌≢◌, ℕ, ◌+◌, ◌*◌, ◌<◌, ◌==◌, not, List, [], ◌∷◌, filter, find, Contains, Option, option_map}
use Rattle.std.specs.Int.{from_bool, bit_at}
use Rattle.std.specs.List.{list_any}
use Rattle.card_state.specs.Kinds.{event_codes, codes_of}
use Rattle.card_state.specs.Sections.{sorted_codes}
use Rattle.card_state.specs.Soundness.{AreEventCodes}

-- one bit for each code of a table, the lowest for the first: whether it is among these
unfoldable pub bits_for : List ℕ → List ℕ → ℕ
bits_for [] codes = 0
bits_for (code ∷ table) codes = from_bool (list_any (λ other. other == code) codes) + 2 * bits_for table codes

-- the bit of a code, if an applet may be registered for it
abbrev pub bit_of : ℕ → Option ℕ
bit_of code = option_map (λ event. event.1) (find (λ event. event.0 == code) event_codes)

-- the bit is set, and each other is as it was
pub record SetsBit (bit old new : ℕ) : Type 0 where
  pub set : bit_at new bit ≡ 1
  pub others : (other : ℕ) → other ≢ bit → bit_at new other ≡ bit_at old other

-- the bit is clear, and each other of a row's is as it was
pub record ClearsBit (bit old new : ℕ) : Type 0 where
  pub clear : bit_at new bit ≡ 0
  pub others : (other : ℕ) → other < 12 → other ≢ bit → bit_at new other ≡ bit_at old other

-- a bit that is set adds its code, and no other
abbrev pub SettingAddsCode : Type 0
SettingAddsCode = (code bit old new : ℕ) → Contains event_codes (code, bit) → SetsBit bit old new → codes_of new ≡ sorted_codes (code ∷ codes_of old)

-- a bit that is cleared removes its code, and no other
abbrev pub ClearingRemovesCode : Type 0
ClearingRemovesCode = (code bit old new : ℕ) → Contains event_codes (code, bit) → ClearsBit bit old new → codes_of new ≡ filter (λ other. not (other == code)) (codes_of old)

-- whatever the bits of a row, its codes are those of events, ascending, each once
abbrev pub CodesAreKnown : Type 0
CodesAreKnown = (bits : ℕ) → AreEventCodes (codes_of bits)
