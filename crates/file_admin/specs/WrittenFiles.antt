-- What the memory of a card stands for once a file was made or resized: bytes are prepared where none is a file's, which changes
-- nothing, and then its entry is committed.
use Rattle.std.specs.Prelude.{◌≡◌, ℕ, ◌≤◌, ◌<◌, false, List, Option, Some, None, IsTrue, IsSomeAnd}
use Rattle.list_laws.specs.Patches.{patched}
use Rattle.card_state.specs.declared.entries.Node.{Node}
use Rattle.card_state.specs.declared.entries.Loaded.{Loaded}
use Rattle.card_state.specs.Changing.{with_file_at}
use Rattle.card_state.specs.Kinds.{transparent_kind}
use Rattle.card_state.specs.Persistent.{Persistent}
use Rattle.card_state.specs.Ranges.{HasNodeRanges}
use Rattle.card_state.specs.Soundness.{IsSound}
use Rattle.card_state.specs.Standing.{Stands}
use Rattle.card_state.specs.States.{file_bytes, file_of}
use Rattle.card_state.specs.Used.{HasNode}
use Rattle.file_model.specs.declared.descriptors.Descriptor.{Descriptor}
use Rattle.file_model.specs.declared.descriptors.Wanted.TheVariants.{Number}
use Rattle.file_model.specs.declared.selections.Selection.{Selection}
use Rattle.file_model.specs.Files.{descriptors_in, is_df, file_found}
use Rattle.file_model.specs.declared.asked.NewFile.{NewFile}
use Rattle.file_model.specs.Creating.{is_there, file_made, made_in}
use Rattle.file_model.specs.Deleting.{is_in_use}
use Rattle.file_model.specs.TreeOutcomes.{child_named}
use Rattle.file_model.specs.Resizing.{may_have, refitted, file_resized}
use Rattle.file_model.specs.Rooms.{IsRoom, room_at}
use Rattle.file_model.specs.Templates.{may_be_made}
use Rattle.layout_entries.specs.Laws.{after}
use Rattle.layout_entries.specs.Spelling.{node_part}
use Rattle.layout_laws.specs.Cards.{IsFreeRange}
use Rattle.layout_laws.specs.Changes.{with_node}
use Rattle.file_admin.specs.NewEntries.{node_made, byte_count, blank_bytes}

-- a place at which so many bytes may stand is free for them
abbrev pub RoomsAreFree : Type 0
RoomsAreFree = (state : Persistent) (size place : ℕ) → IsSound state → 1 ≤ size → IsRoom state size place → IsFreeRange state.is_wide state.files place size

-- and so is the place of an EF that is made
abbrev pub MadeBytesAreFree : Type 0
MadeBytesAreFree =
    (state : Persistent) (df number place : ℕ) (asked : NewFile)
    → IsSound state → made_in state df asked ≡ Some (file_made number df place asked) → 1 ≤ byte_count asked → IsFreeRange state.is_wide state.files place (byte_count asked)

-- with bytes FF at its place and the whole entry of a new file, the memory stands for the card with that file
abbrev pub MadeFilesStand : Type 0
MadeFilesStand =
    (store_mark : ℕ) (content : List ℕ) (table : Loaded) (state : Persistent) (df number place : ℕ) (asked : NewFile)
    → Stands store_mark content table state → IsSomeAnd (file_found (descriptors_in state) (Number df)) (λ it. IsTrue (is_df it))
    → IsTrue (may_be_made asked) → HasNodeRanges (node_made df place asked) → is_there (descriptors_in state) df asked ≡ false → made_in state df asked ≡ Some (file_made number df place asked)
    → (let node = node_made df place asked in
    Stands store_mark (after (node_part number node 0 16) (patched place (blank_bytes asked) content)) (with_node table number node) (with_file_at state number (Some (file_made number df place asked))))

-- with the bytes that a file held and FF after them where there is room for them all, and its place and size, it stands for the
-- card with the larger file
abbrev pub GrownFilesStand : Type 0
GrownFilesStand =
    (store_mark : ℕ) (content : List ℕ) (table : Loaded) (state : Persistent) (number size place : ℕ) (node : Node)
    → Stands store_mark content table state → HasNode table number node → HasNodeRanges node → node.kind ≡ transparent_kind → IsTrue (may_have size) → node.size < size → room_at state size ≡ Some place
    → (let new = record node { place = place; size = size } in
    Stands store_mark (after (node_part number new 10 14) (patched place (refitted size (file_bytes content node)) content)) (with_node table number new)
    (with_file_at state number (Some (file_resized (room_at state size) size (file_of content number node)))))

-- with its size alone, it stands for the card with the smaller one
abbrev pub ShrunkFilesStand : Type 0
ShrunkFilesStand =
    (store_mark : ℕ) (content : List ℕ) (table : Loaded) (state : Persistent) (number size : ℕ) (node : Node)
    → Stands store_mark content table state → HasNode table number node → HasNodeRanges node → node.kind ≡ transparent_kind → IsTrue (may_have size) → size ≤ node.size
    → (let new = record node { size = size } in
    Stands store_mark (after (node_part number new 12 14) content) (with_node table number new)
    (with_file_at state number (Some (file_resized (room_at state size) size (file_of content number node)))))

-- with the byte that marks its entry as not used, it stands for the card without the file
abbrev pub DeletedFilesStand : Type 0
DeletedFilesStand =
    (store_mark : ℕ) (content : List ℕ) (table : Loaded) (state : Persistent) (channels : List (Option Selection)) (df : ℕ) (bytes : List ℕ) (file : Descriptor) (node : Node)
    → Stands store_mark content table state → child_named (descriptors_in state) df bytes ≡ Some file → is_in_use (descriptors_in state) channels file ≡ false → HasNode table file.number node
    → (let new = record node { used = false } in
    Stands store_mark (after (node_part file.number new 0 1) content) (with_node table file.number new) (with_file_at state file.number None))
