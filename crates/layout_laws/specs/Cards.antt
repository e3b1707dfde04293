-- A memory that holds a card.
use Rattle.std.specs.Prelude.{◌≡◌, ◌⊎◌, ℕ, ◌+◌, ◌≤◌, Bool, List, length, All}
use Rattle.card_state.specs.declared.entries.Node.{Node}
use Rattle.card_state.specs.declared.entries.Loaded.{Loaded}
use Rattle.card_state.specs.Places.{memory_size, data_place, data_end}
use Rattle.card_state.specs.Decoding.{table_of}
use Rattle.card_state.specs.Persistent.{File, Persistent}
use Rattle.card_state.specs.Standing.{state_in}
use Rattle.card_state.specs.Soundness.{IsEf, IsSound}

-- all bytes of a memory, with a sound state
pub record IsCard (content : List ℕ) : Type 0 where
  pub long : length content ≡ memory_size
  pub sound : IsSound (state_in content)

-- a memory with these entries, which holds this state
pub record Holds (content : List ℕ) (table : Loaded) (state : Persistent) : Type 0 where
  pub entries : table_of content ≡ table
  pub held : state_in content ≡ state

-- No byte of this range is a file's: it lies among the bytes of the files, and each EF ends before it or begins after it.
pub record IsFreeRange (wide : Bool) (files : List File) (place count : ℕ) : Type 0 where
  pub from : data_place ≤ place
  pub to : place + count ≤ data_end wide
  pub beside : All (λ file. IsEf file → (file.place + file.size ≤ place) ⊎ (place + count ≤ file.place)) files

-- the new entry has the kind, the place and the size of the old one
pub record LiesWhere (old new : Node) : Type 0 where
  pub kind : new.kind ≡ old.kind
  pub place : new.place ≡ old.place
  pub size : new.size ≡ old.size
