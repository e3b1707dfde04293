-- What the memory stands for once a file has another size, or is deleted.
use Rattle.std.proofs.Common.{◌≡◌, ℕ, ◌+◌, ◌≤◌, Bool, true, false, cond, List, ◌++◌, replicate, take, drop, length, Option, Some, None, refl, sym, ◌∙◌, ap, subst, inl, inr, arith, ◌-◌, ◌==◌, nat_lt, nat_le, if◌then◌else◌, is_none, unwrap_or, IsTrue, append-nil, take-take}
use Rattle.std.proofs.lemmas.Bool.{and_parts, and_left, and_right, lt-ltb, le-ltb, leb-true, eq-eqb, ne_eqb, cond-true, cond-false}
use Rattle.list_laws.proofs.SliceRangeLemmas.{length-range}
use Rattle.list_laws.specs.Patches.{patched}
use Rattle.card_state.specs.declared.entries.Node.{Node}
use Rattle.card_state.specs.declared.entries.Loaded.{Loaded}
use Rattle.card_state.specs.Changing.{with_file_at}
use Rattle.card_state.specs.Decoding.{bytes_at}
use Rattle.card_state.proofs.KeyOfSlotLemmas.{number_of_file}
use Rattle.card_state.specs.Kinds.{df_kind, transparent_kind, is_ef_kind}
use Rattle.card_state.specs.Persistent.{Contents, Files, Bytes, Records, File, Persistent}
use Rattle.card_state.specs.Soundness.{IsSound}
use Rattle.card_state.specs.Standing.{Stands}
use Rattle.card_state.specs.States.{file_bytes, records_of, record_count, from_head, contents_of, ef_file, file_of}
use Rattle.card_state.specs.Used.{file_if}
use Rattle.card_state.proofs.RowPlaceLemmas.{data_end_inside}
use Rattle.card_state.specs.Forms.{HasRightHead}
use Rattle.card_state.specs.StayingSound.{FileFits}
use Rattle.file_model.specs.Files.{descriptor_in}
use Rattle.file_model.specs.Resizing.{may_have, refitted, contents_refitted, has_no_room, file_resized}
use Rattle.file_model.specs.Rooms.{IsRoom, IsSmallestRoom, room_at}
use Rattle.file_model.proofs.ChildNamedLemmas.{deleted_files_may_go}
use Rattle.file_model.proofs.FileResizedLemmas.{length-refitted, resized_files_fit}
use Rattle.file_model.proofs.RoomsLemmas.{rooms_are_smallest}
use Rattle.file_model.proofs.IsNodeInTheWayLemmas.{ef_is, kind_is}
use Rattle.layout_entries.specs.Fields.{merged_node}
use Rattle.layout_entries.specs.Laws.{after}
use Rattle.layout_entries.specs.Spelling.{node_part}
use Rattle.layout_laws.specs.Changes.{with_node}
use Rattle.layout_laws.specs.Known.{StandingIsCard, StandingIsOfTable, NodesAreFiles}
use Rattle.layout_laws.specs.StandingLaws.{FreeBytesDontCount, ChangedFileStands, RemovedFileStands}
use Rattle.layout_laws.specs.Standing.{IsFileEntry}
use Rattle.layout_laws.specs.Writing.{IsFileChange}
use Rattle.file_admin.specs.WrittenFiles.{GrownFilesStand, ShrunkFilesStand, DeletedFilesStand}
use Rattle.file_admin.proofs.MadeFilesStandLemmas.{known, IsPrepared, prepared}

-- ---- the entry

is_no_df : (kind : ℕ) → kind ≡ transparent_kind → (kind == df_kind) ≡ false
is_no_df kind is = ne_eqb kind df_kind (λ same. omega (arith, is, same))

is_ef : (kind : ℕ) → kind ≡ transparent_kind → IsTrue (is_ef_kind kind)
is_ef kind is = subst (λ (k : ℕ). IsTrue (is_ef_kind k)) (sym is) refl

bytes_are : (content : List ℕ) (node : Node) → node.kind ≡ transparent_kind → contents_of content node ≡ Bytes (file_bytes content node)
unfolding contents_of
bytes_are content node is =
    let others : Contents = Records (from_head node.head (records_of node.length (record_count node) (file_bytes content node))) in
    cond-false (node.kind == df_kind) Files (cond (node.kind == transparent_kind) (Bytes (file_bytes content node)) others) (is_no_df node.kind is)
    ∙ cond-true (node.kind == transparent_kind) (Bytes (file_bytes content node)) others (eq-eqb node.kind transparent_kind is)

-- the entry of a file with another size
abbrev node_resized : Option ℕ → ℕ → Node → Node
node_resized room size node = record node { place = if nat_lt node.size size then unwrap_or room node.place else node.place; size = size }

-- Where the bytes that it held stand, as far as there is room for them, and then FF, it stands for the file that is resized.
entries_are_of_files_resized : (content content' : List ℕ) (number size : ℕ) (room : Option ℕ) (node : Node)
    → node.kind ≡ transparent_kind → bytes_at content' (node_resized room size node).place size ≡ refitted size (file_bytes content node)
    → file_of content' number (node_resized room size node) ≡ file_resized room size (file_of content number node)
entries_are_of_files_resized content content' number size room node is bytes =
    let new : Node = node_resized room size node in
    let held : file_bytes content' new ≡ refitted size (file_bytes content node) = bytes in
    let same : contents_of content' new ≡ contents_refitted size (contents_of content node) =
    bytes_are content' new is ∙ ap Bytes held ∙ sym (ap (contents_refitted size) (bytes_are content node is)) in
    ef_is content' number new (is_ef node.kind is)
    ∙ ap (λ (c : Contents). let file : File = record (ef_file content' number new) { contents = c } in file) same
    ∙ ap (file_resized room size) (sym (ef_is content number node (is_ef node.kind is)))

-- ---- the memory

rest_same : (place size : ℕ) (node : Node) → merged_node 10 14 node (record node { place = place; size = size }) ≡ record node { place = place; size = size }
unfolding merged_node
rest_same place size node = refl

size_alone : (size : ℕ) (node : Node) → merged_node 12 14 node (record node { size = size }) ≡ record node { size = size }
unfolding merged_node
size_alone size node = refl

head_stays : (node : Node) (place size : ℕ) → node.kind ≡ transparent_kind → HasRightHead node → HasRightHead (record node { place = place; size = size })
head_stays node place size is head = record { cyclic = λ same. absurd (omega (arith, is, same)); other = λ _. head.other (inl is) }

pub record IsSize (size : ℕ) : Type 0 where
  pub some : 1 ≤ size
  pub low : size ≤ 32767

size_is : (size : ℕ) → IsTrue (may_have size) → IsSize size
size_is size may = let parts = and_parts (nat_le 1 size) (nat_le size 32767) may in record { some = leb-true 1 size parts.0; low = leb-true size 32767 parts.1 }

-- once the entry is changed so, and the bytes at its place are right
changed_stands : ChangedFileStands → FileFits → (store_mark : ℕ) (content mid : List ℕ) (table : Loaded) (state : Persistent) (number from size : ℕ) (node new : Node) (room : Option ℕ)
    → Stands store_mark mid table state → IsSound state → IsFileChange table number from 14 node new → new.used ≡ true → node_resized room size node ≡ new
    → (file_of mid number new ≡ file_resized room size (file_of content number node)) → IsSound (with_file_at state number (Some (file_resized room size (file_of content number node))))
    → Stands store_mark (after (node_part number new from 14) mid) (with_node table number new) (with_file_at state number (Some (file_resized room size (file_of content number node))))
changed_stands changes fits store_mark content mid table state number from size node new room stands sound change used same is new_sound =
    let file : File = file_resized room size (file_of content number node) in
    let told : file_if mid number new ≡ Some file = cond-true new.used (Some (file_of mid number new)) None used ∙ ap (λ (f : File). Some f) is in
    subst (λ (o : Option File). Stands store_mark (after (node_part number new from 14) mid) (with_node table number new) (with_file_at state number o)) told
    (changes store_mark mid table state number from 14 node new stands change (subst (λ (o : Option File). IsSound (with_file_at state number o)) (sym told) new_sound))

pub grown_files_stand : StandingIsCard → StandingIsOfTable → NodesAreFiles → FreeBytesDontCount → ChangedFileStands → FileFits → GrownFilesStand
unfolding descriptor_in
grown_files_stand card of_table entries free changes fits store_mark content table state number size place node stands has ranges kind may more found =
    let asked : IsSize size = size_is size may in
    let is = known card of_table store_mark content table state stands in
    let entry : IsFileEntry content table state number node = entries store_mark content table state number node stands has in
    let file : File = file_of content number node in
    let some : 1 ≤ size = asked.some in
    let room : IsRoom state size place = (subst (IsSmallestRoom state size) found (rooms_are_smallest state size)).0 in
    let bytes : List ℕ = refitted size (file_bytes content node) in
    let long : length bytes ≡ size = length-refitted size (file_bytes content node) in
    let mid : List ℕ = patched place bytes content in
    let ready : IsPrepared store_mark content table state place bytes = prepared free store_mark content table state place bytes stands is (omega (arith, long, some)) (subst (λ (n : ℕ). IsRoom state n place) (sym long) room) in
    let new : Node = record node { place = place; size = size } in
    let grows : nat_lt node.size size ≡ true = lt-ltb node.size size more in
    let same : node_resized (room_at state size) size node ≡ new =
    ap (λ (b : Bool). let n : Node = record node { place = cond b (unwrap_or (room_at state size) node.place) node.place; size = size } in n) grows
    ∙ ap (λ (o : Option ℕ). let n : Node = record node { place = unwrap_or o node.place; size = size } in n) found in
    let there : bytes_at mid place size ≡ bytes = subst (λ (n : ℕ). bytes_at mid place n ≡ bytes) long ready.there in
    let at_place : (node_resized (room_at state size) size node).place ≡ place = ap (λ (n : Node). n.place) same in
    let file_is : file_of mid number new ≡ file_resized (room_at state size) size file =
    ap (file_of mid number) (sym same)
    ∙ entries_are_of_files_resized content mid number size (room_at state size) node kind (ap (λ (p : ℕ). bytes_at mid p size) at_place ∙ there) in
    let kind' : file.kind ≡ transparent_kind = kind_is content number node ∙ kind in
    let has_room : has_no_room state size (descriptor_in file) ≡ false = and_right (nat_lt file.size size) (is_none (room_at state size)) (ap (λ (o : Option ℕ). is_none o) found) in
    let among = resized_files_fit state size file is.sound entry.there kind' may has_room in
    changed_stands changes fits store_mark content mid table state number 10 size node new (room_at state size) ready.stands is.sound
    (record {
      there = has;
      fields = record { order = omega arith; inside = omega arith; uncut = refl };
      rest = rest_same place size node;
      ranges = record { id = ranges.id; arr = ranges.arr; place = omega (arith, room.to, data_end_inside state.is_wide, some); size = omega (arith, asked.low) };
      lies = inr (λ _. (ready.from, omega (arith, ready.to, long)));
      head = head_stays node place size kind entry.head;
    })
    has.used same file_is (fits state number (file_resized (room_at state size) size file) is.sound (number_of_file content number node) among)

first_bytes : (content : List ℕ) (place size whole : ℕ) → size ≤ whole → place + whole ≤ length content → bytes_at content place size ≡ refitted size (bytes_at content place whole)
first_bytes content place size whole less inside =
    let held : List ℕ = bytes_at content place whole in
    let long : length held ≡ whole = length-range content place whole inside in
    let none : size - length held ≡ 0 = omega (arith, long, less) in
    let all : place + size - place ≡ size = omega arith in
    let every : place + whole - place ≡ whole = omega arith in
    ap (λ (n : ℕ). take n (drop place content)) all
    ∙ sym (ap (λ (n : ℕ). take size held ++ replicate n 0xFF) none
    ∙ append-nil (take size held)
    ∙ ap (λ (n : ℕ). take size (take n (drop place content))) every
    ∙ take-take size whole (drop place content) less)

pub shrunk_files_stand : StandingIsCard → StandingIsOfTable → NodesAreFiles → ChangedFileStands → FileFits → ShrunkFilesStand
unfolding descriptor_in
shrunk_files_stand card of_table entries changes fits store_mark content table state number size node stands has ranges kind may less =
    let asked : IsSize size = size_is size may in
    let is = known card of_table store_mark content table state stands in
    let entry : IsFileEntry content table state number node = entries store_mark content table state number node stands has in
    let file : File = file_of content number node in
    let lies = entry.lies (λ df. omega (arith, df, kind)) in
    let new : Node = record node { size = size } in
    let stays : nat_lt node.size size ≡ false = le-ltb node.size size less in
    let same : node_resized (room_at state size) size node ≡ new =
    ap (λ (b : Bool). let n : Node = record node { place = cond b (unwrap_or (room_at state size) node.place) node.place; size = size } in n) stays in
    let inside : node.place + node.size ≤ length content = omega (arith, lies.1, data_end_inside table.wide, stands.long) in
    let there : bytes_at content node.place size ≡ refitted size (file_bytes content node) = first_bytes content node.place size node.size less inside in
    let at_place : (node_resized (room_at state size) size node).place ≡ node.place = ap (λ (n : Node). n.place) same in
    let file_is : file_of content number new ≡ file_resized (room_at state size) size file =
    ap (file_of content number) (sym same)
    ∙ entries_are_of_files_resized content content number size (room_at state size) node kind (ap (λ (p : ℕ). bytes_at content p size) at_place ∙ there) in
    let kind' : file.kind ≡ transparent_kind = kind_is content number node ∙ kind in
    let long : file.size ≡ node.size = ap (λ (f : File). f.size) (ef_is content number node (is_ef node.kind kind)) in
    let has_room : has_no_room state size (descriptor_in file) ≡ false = and_left (nat_lt file.size size) (is_none (room_at state size)) (le-ltb file.size size (omega (arith, less, long))) in
    let among = resized_files_fit state size file is.sound entry.there kind' may has_room in
    changed_stands changes fits store_mark content content table state number 12 size node new (room_at state size) stands is.sound
    (record {
      there = has;
      fields = record { order = omega arith; inside = omega arith; uncut = refl };
      rest = size_alone size node;
      ranges = record { id = ranges.id; arr = ranges.arr; place = ranges.place; size = omega (arith, asked.low) };
      lies = inr (λ _. (lies.0, omega (arith, lies.1, less)));
      head = head_stays node node.place size kind entry.head;
    })
    has.used same file_is (fits state number (file_resized (room_at state size) size file) is.sound (number_of_file content number node) among)

-- ---- a file that is deleted

pub deleted_files_stand : StandingIsCard → StandingIsOfTable → RemovedFileStands → DeletedFilesStand
deleted_files_stand card of_table removed store_mark content table state channels df bytes told node stands named unused has =
    let is = known card of_table store_mark content table state stands in
    let may = deleted_files_may_go state channels df bytes told is.sound named unused in
    removed store_mark content table state told.number node stands has may.0 may.1
