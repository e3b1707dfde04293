-- What a command that makes or resizes a file has written: its bytes are prepared where no file has any, and then its entry is committed.
use Rattle.std.specs.Prelude.{◌≡◌, ◌⊎◌, ℕ, nat_lt, if◌then◌else◌, List, [], ◌∷◌, Some, option_map, IfSome, Result, Ok, Err, OnOk, OnErr}
use Rattle.list_laws.specs.Patches.{Torn}
use Rattle.uicc_types.specs.Told.{Becomes}
use Rattle.store_form.specs.declared.store.StoreFault.{StoreFault}
use Rattle.store_form.specs.Pieces.{Piece}
use Rattle.card_state.specs.declared.entries.Loaded.{Loaded}
use Rattle.card_state.specs.Changes.{Change, MakeFile, FitFile}
use Rattle.card_state.specs.Memory.{Memory, held}
use Rattle.card_state.specs.Persistent.{Persistent}
use Rattle.file_model.specs.Files.{node_at}
use Rattle.layout_entries.specs.Laws.{after}
use Rattle.card_commits.specs.Writing.{written, all_written}

-- the place and the size of the range that is prepared for a change: that of a new file, and the new one of a file that grows; else none, (0, 0)
abbrev pub range_for : Loaded → Change → ℕ × ℕ
range_for table (MakeFile file) = (file.place, file.size)
range_for table (FitFile number (Some file)) = if nat_lt (node_at table number).size file.size then (file.place, file.size) else (0, 0)
range_for table _ = (0, 0)

-- A fault stopped a change: in the range that is prepared for it stand any bytes, and outside it those before; or it is written. A command has one
-- change at most.
abbrev pub StopsPreparing : List Change → Memory → Memory → Type 0
StopsPreparing [] old new = new.told ≡ old.told
StopsPreparing (change ∷ changes) old new =
    Becomes (Torn (range_for old.table change).0 (range_for old.table change).1) old.told new.told ⊎ (new.told ≡ option_map (written change) old.told)

-- what a command has written over a store that tells its bytes: after Ok what its change writes, and nothing else; where a fault stopped it, as
-- `StopsPreparing` says
abbrev pub WritesTree : {X E : Type 0} → Result X E → Memory → Memory → (Persistent → List Change) → Type 0
WritesTree (Ok done) old new changes = IfSome (held old) (λ state. new.told ≡ option_map (all_written (changes state)) old.told)
WritesTree (Err fault) old new changes = IfSome (held old) (λ state. StopsPreparing (changes state) old new)

-- Bytes are prepared in this range, and then a piece of an entry is committed.
pub record WritesOver {T : Type 0} (old new : Memory) (result : Result T StoreFault) (prepared : List ℕ → List ℕ) (place count : ℕ) (piece : Piece) : Type 0 where
  -- carried out, where it tells its bytes: those that were prepared, with the piece
  pub ok : OnOk result (new.told ≡ option_map (λ content. after piece (prepared content)) old.told)
  -- stopped by a fault: any bytes in the range, or the same as after Ok
  pub stopped : OnErr result (Becomes (Torn place count) old.told new.told ⊎ (new.told ≡ option_map (λ content. after piece (prepared content)) old.told))
