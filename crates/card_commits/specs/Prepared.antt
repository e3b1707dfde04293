-- What a memory holds once free bytes of it were prepared.
use Rattle.std.specs.Prelude.{◌≡◌, ℕ, ◌-◌, List, ◌++◌, replicate, option_map, Result, OnOk}
use Rattle.list_laws.specs.Patches.{patched}
use Rattle.store_form.specs.declared.store.StoreFault.{StoreFault}
use Rattle.card_state.specs.declared.entries.Node.{Node}
use Rattle.card_state.specs.declared.entries.Loaded.{Loaded}
use Rattle.card_state.specs.Decoding.{bytes_at}
use Rattle.card_state.specs.Kinds.{transparent_kind}
use Rattle.card_state.specs.Memory.{Memory, held, Keeps}
use Rattle.card_state.specs.States.{file_bytes}
use Rattle.card_state.specs.Used.{HasNode}

-- so many bytes FF from a place on
abbrev pub filled : ℕ → ℕ → List ℕ → List ℕ
filled place count content = patched place (replicate count 0xFF) content

-- so many bytes that stand at one place, at another place too
abbrev pub copied : ℕ → ℕ → ℕ → List ℕ → List ℕ
copied from place count content = patched place (bytes_at content from count) content

-- the bytes of a file at another place too, and after them FF up to another size
abbrev pub moved : Node → ℕ → ℕ → List ℕ → List ℕ
moved node place size content = patched place (file_bytes content node ++ replicate (size - node.size) 0xFF) content

-- the entry of a transparent file
pub record IsTransparentFile (table : Loaded) (number : ℕ) (node : Node) : Type 0 where
  pub has : HasNode table number node
  pub kind : node.kind ≡ transparent_kind

-- Bytes are prepared, so that the memory holds this after Ok. However that ends, it stands for the same state, and nothing is
-- committed.
pub record Prepares {T : Type 0} (old new : Memory) (result : Result T StoreFault) (change : List ℕ → List ℕ) : Type 0 where
  pub ok : OnOk result (new.told ≡ option_map change old.told)
  pub still : held new ≡ held old
  pub commits : new.commits ≡ old.commits
  pub keeps : Keeps old new result
