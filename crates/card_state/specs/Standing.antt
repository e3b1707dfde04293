-- What the content of a card's memory stands for.
use Rattle.std.specs.Prelude.{◌≡◌, ℕ, List, length, Option, Some, None, option_and_then, IfSome, Result, Ok, Err}
use Rattle.std.specs.Result.{result_ok}
use Rattle.card_state.specs.declared.entries.Loaded.{Loaded}
use Rattle.card_state.specs.Places.{memory_size}
use Rattle.card_state.specs.Persistent.{Persistent}
use Rattle.card_state.specs.Decoding.{table_of}
use Rattle.card_state.specs.States.{state_of}
use Rattle.card_state.specs.Checks.{checks, first_failed}

-- the state that the entries of a content have, with what its files hold, whether it stands or not
abbrev pub state_in : List ℕ → Persistent
state_in content = state_of (table_of content) content

-- the place of a check that failed, or else this state
abbrev pub unless_failed : Option ℕ → Persistent → Result Persistent ℕ
unless_failed None state = Ok state
unless_failed (Some at) state = Err at

-- In a store with this mark the content stands for a persistent state, or it is no card's, and a first check fails.
-- Bytes 8 to 831 and 892 to 895, those of no file, and those of an entry beyond what it uses don't count.
unfoldable pub stands_for : ℕ → List ℕ → Result Persistent ℕ
stands_for store_mark content = unless_failed (first_failed (checks store_mark content)) (state_in content)

-- In a store with this mark all bytes of the memory have these entries and stand for this state.
pub record Stands (store_mark : ℕ) (content : List ℕ) (table : Loaded) (state : Persistent) : Type 0 where
  pub long : length content ≡ memory_size
  pub entries : table_of content ≡ table
  pub decoded : stands_for store_mark content ≡ Ok state

-- ---- stores

-- The state that a store with this mark stands for, where it tells its bytes and they stand for one.
unfoldable pub standing : ℕ → Option (List ℕ) → Option Persistent
standing store_mark told = option_and_then (λ content. result_ok (stands_for store_mark content)) told

-- A table is that of some bytes which stand for a state, and where the store tells its bytes, of those.
pub record Agrees (store_mark : ℕ) (told : Option (List ℕ)) (table : Loaded) : Type 0 where
  pub content : List ℕ
  pub state : Persistent
  pub told_is : IfSome told (λ held. held ≡ content)
  pub stands : Stands store_mark content table state
