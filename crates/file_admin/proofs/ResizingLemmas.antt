-- What RESIZE FILE has done to a card once the entry of the file was committed.
use Rattle.std.proofs.Common.{◌≡◌, ℕ, ◌-◌, ◌≤◌, ◌<◌, Bool, true, false, List, [], ◌∷◌, ◌++◌, length, replicate, Option, Some, None, option_map, refl, sym, ◌∙◌, ap, subst, arith, ◌≢◌, ◌==◌, ◌&&◌, nat_le, is_none, if◌then◌else◌, IsTrue, Result, Ok, Err, take_all}
use Rattle.std.proofs.lemmas.Bool.{cond-false, cond-true, eq-eqb, ne_eqb, lt-ltb, le-ltb, leb-true, and_parts}
use Rattle.list_laws.proofs.SliceRangeLemmas.{length-range}
use Rattle.list_laws.specs.Patches.{patched}
use Rattle.uicc_types.specs.declared.answers.StatusWord.{StatusWord}
use Rattle.uicc_types.specs.declared.answers.TheConstants.StatusWord.{DONE, NO_ROOM}
use Rattle.card_state.specs.declared.entries.Node.{Node}
use Rattle.card_state.specs.declared.entries.Loaded.{Loaded}
use Rattle.card_state.specs.declared.sizes.TheConstants.{SIZE_LIMIT}
use Rattle.card_state.specs.Changing.{with_file_at}
use Rattle.card_state.specs.Kinds.{df_kind, transparent_kind}
use Rattle.card_state.specs.Persistent.{File, Persistent}
use Rattle.card_state.specs.Ranges.{HasNodeRanges}
use Rattle.card_state.specs.Standing.{Stands}
use Rattle.card_state.specs.States.{file_bytes, file_of, state_of}
use Rattle.card_state.specs.Used.{HasNode}
use Rattle.card_state.proofs.RowPlaceLemmas.{data_end_inside}
use Rattle.file_model.specs.declared.descriptors.Descriptor.{Descriptor}
use Rattle.file_model.specs.declared.selections.Selection.{Selection}
use Rattle.file_model.specs.Chains.{refused_if}
use Rattle.file_model.specs.Files.{df_descriptor, ef_descriptor, descriptor_of}
use Rattle.file_model.specs.Outcomes.{last_of}
use Rattle.file_model.specs.TreeOutcomes.{TreeOutcome}
use Rattle.file_model.specs.Resizing.{may_have, refitted, has_no_room, file_resized, resizing, resized_if_room}
use Rattle.file_model.specs.Rooms.{IsSmallestRoom, room_at}
use Rattle.layout_entries.specs.Laws.{after}
use Rattle.layout_entries.specs.Spelling.{node_part}
use Rattle.layout_laws.specs.Cards.{IsFreeRange}
use Rattle.layout_laws.specs.Changes.{with_node}
use Rattle.layout_laws.specs.Known.{StandingIsCard, StandingIsOfTable, NodesAreFiles, IsBesideNodes}
use Rattle.card_commits.specs.Prepared.{IsTransparentFile, moved}
use Rattle.file_admin.specs.WrittenFiles.{RoomsAreFree, GrownFilesStand, ShrunkFilesStand}
use Rattle.file_admin.specs.Outcomes.{passed_by, changes_by, IsTreeAnswer}
use Rattle.file_admin.specs.Written.{IsWrittenOver, as_it_was, with_file_resized}
use Rattle.file_admin.proofs.AnswersTreeLemmas.{done}
use Rattle.file_admin.proofs.FitsLemmas.{fit}
use Rattle.file_admin.proofs.IsBesideNodesLemmas.{beside_nodes}
use Rattle.file_admin.proofs.StandsLemmas.{same_state, sound_state}

-- ---- the entry

kind_told : (number : ℕ) (node : Node) → (descriptor_of number node).kind ≡ node.kind
unfolding descriptor_of
kind_told number node = of (node.kind == df_kind) where
  of : (b : Bool) → (if b then df_descriptor number node else ef_descriptor number node).kind ≡ node.kind
  of true = refl
  of false = refl

not_df : (kind : ℕ) → kind ≡ transparent_kind → kind ≢ df_kind
not_df kind is df = omega (arith, is, df)

size_told : (number : ℕ) (node : Node) → node.kind ≡ transparent_kind → (descriptor_of number node).size ≡ node.size
unfolding descriptor_of
size_told number node is =
    ap (λ (d : Descriptor). d.size) (cond-false (node.kind == df_kind) (df_descriptor number node) (ef_descriptor number node) (ne_eqb node.kind df_kind (not_df node.kind is)))

module _ (file : Descriptor) (node : Node) (told : descriptor_of file.number node ≡ file) (kind : file.kind ≡ transparent_kind) where
  pub is_transparent : node.kind ≡ transparent_kind
  is_transparent = sym (kind_told file.number node) ∙ ap (λ (d : Descriptor). d.kind) told ∙ kind

  pub same_size : node.size ≡ file.size
  same_size = sym (size_told file.number node is_transparent) ∙ ap (λ (d : Descriptor). d.size) told

-- ---- what it comes to

module _ (state : Persistent) (channels : List (Option Selection)) (size : ℕ) (file : Descriptor) where
  abbrev meaning : Result TreeOutcome StatusWord
  meaning = resized_if_room state channels size file

  with_room : has_no_room state size file ≡ false → meaning ≡ Ok (resizing state channels size file)
  unfolding refused_if
  with_room is = ap (λ (b : Bool). refused_if b NO_ROOM (Ok (resizing state channels size file))) is

  pub without_room : file.size < size → room_at state size ≡ None → meaning ≡ Err NO_ROOM
  unfolding refused_if
  without_room more none =
      ap (λ (b : Bool). refused_if (b && is_none (room_at state size)) NO_ROOM (Ok (resizing state channels size file))) (lt-ltb file.size size more)
      ∙ ap (λ (o : Option ℕ). refused_if (is_none o) NO_ROOM (Ok (resizing state channels size file))) none

  -- of the same size
  pub nothing_passes : size ≡ file.size → passed_by channels meaning ≡ []
  unfolding resizing
  nothing_passes same =
      let fits : has_no_room state size file ≡ false = ap (λ (b : Bool). b && is_none (room_at state size)) (le-ltb file.size size (omega (arith, same))) in
      ap (passed_by channels) (with_room fits) ∙ cond-true (file.size == size) [] (with_file_resized file.number size state ∷ []) (eq-eqb file.size size (sym same))

  -- of another one
  changed : file.size ≢ size → (resizing state channels size file).passed ≡ with_file_resized file.number size state ∷ []
  unfolding resizing
  changed other = cond-false (file.size == size) [] (with_file_resized file.number size state ∷ []) (ne_eqb file.size size other)

  pub fits_fewer : size < file.size → has_no_room state size file ≡ false
  fits_fewer fewer = ap (λ (b : Bool). b && is_none (room_at state size)) (le-ltb file.size size (omega (arith, fewer)))

  pub fits_there : (place : ℕ) → file.size < size → room_at state size ≡ Some place → has_no_room state size file ≡ false
  fits_there place more is =
      ap (λ (b : Bool). b && is_none (room_at state size)) (lt-ltb file.size size more) ∙ ap (λ (o : Option ℕ). is_none o) is

  pub passes_one : has_no_room state size file ≡ false → file.size ≢ size → passed_by channels meaning ≡ with_file_resized file.number size state ∷ []
  passes_one fits other = ap (passed_by channels) (with_room fits) ∙ changed other

  -- the change that it makes
  made : file.size ≢ size → (resizing state channels size file).changes ≡ fit file.number size state ∷ []
  unfolding resizing
  made other = cond-false (file.size == size) [] (fit file.number size state ∷ []) (ne_eqb file.size size other)

  pub makes_one : has_no_room state size file ≡ false → file.size ≢ size → changes_by channels meaning ≡ fit file.number size state ∷ []
  makes_one fits other = ap (changes_by channels) (with_room fits) ∙ made other

  pub makes_none : size ≡ file.size → changes_by channels meaning ≡ []
  unfolding resizing
  makes_none same =
      let fits : has_no_room state size file ≡ false = ap (λ (b : Bool). b && is_none (room_at state size)) (le-ltb file.size size (omega (arith, same))) in
      ap (changes_by channels) (with_room fits) ∙ cond-true (file.size == size) [] (fit file.number size state ∷ []) (eq-eqb file.size size (sym same))

  pub answers_so : (mark : ℕ) (content' : List ℕ) (table' : Loaded) → has_no_room state size file ≡ false → file.size ≢ size → Stands mark content' table' (with_file_resized file.number size state)
      → IsTreeAnswer mark state meaning channels DONE channels table'
  unfolding resizing
  answers_so mark content' table' fits other stands =
      done mark state meaning channels (resizing state channels size file) channels content' table' (with_room fits) refl
      (subst (λ (passed : List Persistent). Stands mark content' table' (last_of state passed)) (sym (changed other)) stands)

  pub answers_same : (mark : ℕ) (content : List ℕ) (table : Loaded) → size ≡ file.size → Stands mark content table state → IsTreeAnswer mark state meaning channels DONE channels table
  unfolding resizing
  answers_same mark content table same stands =
      let fits : has_no_room state size file ≡ false = ap (λ (b : Bool). b && is_none (room_at state size)) (le-ltb file.size size (omega (arith, same))) in
      done mark state meaning channels (resizing state channels size file) channels content table (with_room fits) refl
      (subst (λ (passed : List Persistent). Stands mark content table (last_of state passed)) (sym (cond-true (file.size == size) [] (with_file_resized file.number size state ∷ []) (eq-eqb file.size size (sym same)))) stands)

-- ---- what is written

module _ (nodes : NodesAreFiles) (table : Loaded) (number : ℕ) (node : Node) (has : HasNode table number node) (kind : node.kind ≡ transparent_kind) (ranges : HasNodeRanges node) (size : ℕ) (may : IsTrue (may_have size)) where
  pub transparent : IsTransparentFile table number node
  transparent = record { has = has; kind = kind }

  found_so : (mark : ℕ) (content : List ℕ) (state : Persistent) → Stands mark content table state
      → with_file_at state number (Some (file_resized (room_at state size) size (file_of content number node))) ≡ with_file_resized number size state
  found_so mark content state stands =
      ap (λ (o : Option File). with_file_at state number (option_map (file_resized (room_at state size) size) o)) (sym (nodes mark content table state number node stands has).found)

  pub shrunk_over : ShrunkFilesStand → size ≤ node.size → IsWrittenOver table as_it_was number (record node { size = size }) 12 14 (with_file_resized number size)
  shrunk_over stand fewer mark content state stands =
      subst (Stands mark (after (node_part number (record node { size = size }) 12 14) content) (with_node table number (record node { size = size }))) (found_so mark content state stands)
      (stand mark content table state number size node stands has ranges kind may fewer)

  bytes_long : (mark : ℕ) (content : List ℕ) (state : Persistent) → Stands mark content table state → length (file_bytes content node) ≡ node.size
  bytes_long mark content state stands =
      length-range content node.place node.size (omega (arith, ((nodes mark content table state number node stands has).lies (not_df node.kind kind)).1, data_end_inside table.wide, stands.long))

  refitted_so : (bytes : List ℕ) → length bytes ≡ node.size → node.size < size → refitted size bytes ≡ bytes ++ replicate (size - node.size) 0xFF
  refitted_so bytes long more = (λ i. take_all size bytes (omega (arith, long, more)) i ++ replicate (size - long i) 0xFF)

  pub grown_over : GrownFilesStand → (place : ℕ) → node.size < size → ((content : List ℕ) → Some place ≡ room_at (state_of table content) size) → StandingIsCard → StandingIsOfTable
      → IsWrittenOver table (moved node place size) number (record node { place = place; size = size }) 10 14 (with_file_resized number size)
  grown_over stand place more room card of_table mark content state stands =
      let there : room_at state size ≡ Some place = ap (λ (s : Persistent). room_at s size) (same_state card of_table mark content table state stands) ∙ sym (room content) in
      let stood = stand mark content table state number size place node stands has ranges kind may more there in
      subst (λ (bytes : List ℕ). Stands mark (after (node_part number (record node { place = place; size = size }) 10 14) (patched place bytes content)) (with_node table number (record node { place = place; size = size })) (with_file_resized number size state))
      (refitted_so (file_bytes content node) (bytes_long mark content state stands) more)
      (subst (Stands mark (after (node_part number (record node { place = place; size = size }) 10 14) (patched place (refitted size (file_bytes content node)) content)) (with_node table number (record node { place = place; size = size })))
      (found_so mark content state stands) stood)

-- where there is room no file has bytes
pub room_beside : RoomsAreFree → NodesAreFiles → StandingIsCard → StandingIsOfTable → (mark : ℕ) (content : List ℕ) (table : Loaded) (state : Persistent) → Stands mark content table state → (place size : ℕ) → IsTrue (may_have size)
    → IsSmallestRoom (state_of table content) size (Some place) → IsBesideNodes table place size
room_beside free nodes card of_table mark content table state stands place size may room =
    let sound = sound_state card of_table mark content table state stands in
    let some : 1 ≤ size = leb-true 1 size (and_parts (nat_le 1 size) (nat_le size SIZE_LIMIT) may).0 in
    let here : IsSmallestRoom state size (Some place) = subst (λ (s : Persistent). IsSmallestRoom s size (Some place)) (sym (same_state card of_table mark content table state stands)) room in
    let range = free state size place sound some here.0 in
    beside_nodes nodes mark content table state stands sound place size (subst (λ (w : Bool). IsFreeRange w state.files place size) (of_table mark content table state stands).1.wide range)
