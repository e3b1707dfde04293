-- Files by their entries, and what a card's files keep while other bytes of the memory change.
use Rattle.std.proofs.Common.{◌≡◌, ◌≢◌, ◌⊎◌, ℕ, ◌+◌, ◌≤◌, ◌==◌, Bool, false, if◌then◌else◌, List, ◌<◌, true, IsTrue, length, map, All, AllPairs, Contains, ap, arith, refl, sym, ◌∙◌, inl, inr, ⊎_elim, subst}
use Rattle.std.proofs.lemmas.Bool.Decides.{nat_tests}
use Rattle.std.proofs.lemmas.List.Elements.{All-weaker}
use Rattle.std.proofs.lemmas.List.FromFn.{length-map-range_with_len}
use Rattle.list_laws.proofs.MapLemmas.{all_unmapped, mapped_too, same_mapped}
use Rattle.list_laws.proofs.AllContainsLemmas.{contained, beside}
use Rattle.card_state.specs.declared.entries.Node.{Node}
use Rattle.card_state.specs.Kinds.{df_kind, is_ef_kind}
use Rattle.card_state.specs.Persistent.{File, Contents}
use Rattle.card_state.specs.States.{rule_of, df_file, ef_file, file_of, file_bytes, contents_in, contents_of, used_nodes, files_of, pins_of, rows_of, state_of}
use Rattle.card_state.specs.Decoding.{is_wide, node_at, table_of}
use Rattle.card_state.specs.Soundness.{IsSoundFile, AreDistinct}
use Rattle.card_state.proofs.KeyOfSlotLemmas.{number_of_file}
use Rattle.card_state.specs.Used.{HasNode, LiesAmongFiles}
use Rattle.layout_entries.specs.Fields.{node_there}
use Rattle.layout_laws.proofs.ShownNodeLemmas.{shown_node_there}
use Rattle.layout_laws.specs.Cards.{IsCard}
use Rattle.layout_laws.proofs.EnumerateFromLemmas.{is_shown, got_numbered}

-- ---- one file

abbrev pub file_with : ℕ → Node → Contents → File
file_with number node contents = record {
  number = number;
  parent = node.parent;
  kind = node.kind;
  id = node.id.0;
  short = node.short;
  life = node.life;
  rule = rule_of node;
  place = node.place;
  size = node.size;
  contents = contents;
}

pub ef_of : (content : List ℕ) (number : ℕ) (node : Node) → node.kind ≢ df_kind → file_of content number node ≡ ef_file content number node
ef_of content number node other =
    let is : (node.kind == df_kind) ≡ false = grind (arith, nat_tests) in
    ap (λ (b : Bool). if b then df_file number node else ef_file content number node) is

-- ---- two entries

-- two EFs share no byte
abbrev pub LieApart : Node → Node → Type 0
LieApart a b = a.kind ≢ df_kind → b.kind ≢ df_kind → (a.place + a.size ≤ b.place) ⊎ (b.place + b.size ≤ a.place)

-- a DF has no bytes, and the other files are as they were if their bytes are
same_contents : (content content' : List ℕ) (node : Node) → file_bytes content' node ≡ file_bytes content node → contents_of content' node ≡ contents_of content node
unfolding contents_of
same_contents content content' node is = ap (λ (l : List ℕ). contents_in l node) is

pub same_file : (content content' : List ℕ) (number : ℕ) (node : Node) → (node.kind ≢ df_kind → file_bytes content' node ≡ file_bytes content node) → file_of content' number node ≡ file_of content number node
same_file content content' number node same = by_test (node.kind == df_kind) refl where
  other : (node.kind == df_kind) ≡ false → node.kind ≢ df_kind
  other failed is = absurd (grind (arith, nat_tests))

  by_test : (b : Bool) → (node.kind == df_kind) ≡ b → (if b then df_file number node else ef_file content' number node) ≡ (if b then df_file number node else ef_file content number node)
  by_test true is = refl
  by_test false is = ap (file_with number node) (same_contents content content' node (same (other is)))

is_ef : (wide : Bool) (files : List File) (content : List ℕ) (number : ℕ) (node : Node) → node.kind ≢ df_kind → IsSoundFile wide files (ef_file content number node) → IsTrue (is_ef_kind node.kind)
is_ef wide files content number node other sound = ⊎_elim {C = IsTrue (is_ef_kind node.kind)} (λ df. absurd (other df)) (λ ef. ef) sound.kind

lies_well : (wide : Bool) (files : List File) (content : List ℕ) (number : ℕ) (node : Node) → IsSoundFile wide files (file_of content number node) → LiesAmongFiles wide node
lies_well wide files content number node sound other =
    let sound_ef : IsSoundFile wide files (ef_file content number node) = subst (λ (f : File). IsSoundFile wide files f) (ef_of content number node other) sound in
    let known = sound_ef.ef (is_ef wide files content number node other sound_ef) in
    (known.from, known.to)

distinct_apart : (content : List ℕ) (n m : ℕ) (a b : Node) → a.kind ≢ df_kind → b.kind ≢ df_kind → IsTrue (is_ef_kind a.kind) → IsTrue (is_ef_kind b.kind)
    → AreDistinct (file_of content n a) (file_of content m b) → (a.place + a.size ≤ b.place) ⊎ (b.place + b.size ≤ a.place)
distinct_apart content n m a b other_a other_b ef_a ef_b distinct =
    let first : AreDistinct (ef_file content n a) (file_of content m b) = subst (λ (f : File). AreDistinct f (file_of content m b)) (ef_of content n a other_a) distinct in
    let both : AreDistinct (ef_file content n a) (ef_file content m b) = subst (λ (f : File). AreDistinct (ef_file content n a) f) (ef_of content m b other_b) first in
    both.bytes ef_a ef_b

ef_there : (wide : Bool) (files : List File) (content : List ℕ) (number : ℕ) (node : Node) → node.kind ≢ df_kind → IsSoundFile wide files (file_of content number node) → IsTrue (is_ef_kind node.kind)
ef_there wide files content number node other sound = is_ef wide files content number node other (subst (λ (f : File). IsSoundFile wide files f) (ef_of content number node other) sound)

lie_apart : (wide : Bool) (files : List File) (content : List ℕ) (n m : ℕ) (a b : Node) → IsSoundFile wide files (file_of content n a) → IsSoundFile wide files (file_of content m b)
    → ((AreDistinct (file_of content n a) (file_of content m b)) ⊎ (AreDistinct (file_of content m b) (file_of content n a))) ⊎ (file_of content n a ≡ file_of content m b) → n ≢ m → LieApart a b
lie_apart wide files content n m a b sound_a sound_b how other not_df_a not_df_b =
    let ef_a = ef_there wide files content n a not_df_a sound_a in
    let ef_b = ef_there wide files content m b not_df_b sound_b in
    ⊎_elim {C = (a.place + a.size ≤ b.place) ⊎ (b.place + b.size ≤ a.place)}
    (λ distinct. ⊎_elim {C = (a.place + a.size ≤ b.place) ⊎ (b.place + b.size ≤ a.place)}
    (λ first. distinct_apart content n m a b not_df_a not_df_b ef_a ef_b first)
    (λ second. ⊎_elim {C = (a.place + a.size ≤ b.place) ⊎ (b.place + b.size ≤ a.place)} inr inl (distinct_apart content m n b a not_df_b not_df_a ef_b ef_a second)) distinct)
    (λ same. absurd (other (sym (number_of_file content n a) ∙ ap (λ (f : File). f.number) same ∙ number_of_file content m b)))
    how

-- the entry of a used file
pub entry_there : (content : List ℕ) (number : ℕ) (node : Node) → HasNode (table_of content) number node → (number < 128) × (node_there content number ≡ node)
unfolding table_of
entry_there content number node has =
    let found : (number < 128) × (node_at content (0 + number) ≡ node) = got_numbered (node_at content) 0 128 number node has.there in
    let same : 0 + number ≡ number = omega arith in
    (found.0, shown_node_there (node_there content number) node (ap (node_at content) (sym same) ∙ found.1) has.used)

module _ (content : List ℕ) (card : IsCard content) where
  abbrev pub used : List (ℕ × Node)
  used = used_nodes (table_of content).nodes

  abbrev pub file : ℕ × Node → File
  file e = file_of content e.0 e.1

  sound_files : All (IsSoundFile (table_of content).wide (map file used)) (map file used)
  unfolding state_of files_of pins_of rows_of
  sound_files = card.sound.files

  distinct_files : AllPairs AreDistinct (map file used)
  unfolding state_of files_of pins_of rows_of
  distinct_files = card.sound.distinct_files

  pub node_count : length (table_of content).nodes ≡ 128
  unfolding table_of
  node_count = length-map-range_with_len (node_at content) 0 128

  wide_there : (table_of content).wide ≡ is_wide content
  unfolding table_of
  wide_there = refl

  pub all_lie_well : All (λ e. LiesAmongFiles (is_wide content) e.1) used
  all_lie_well =
      let sound : All (λ (e : ℕ × Node). IsSoundFile (table_of content).wide (map file used) (file e)) used = all_unmapped (IsSoundFile (table_of content).wide (map file used)) file used sound_files in
      All-weaker (λ (e : ℕ × Node). IsSoundFile (table_of content).wide (map file used) (file e)) (λ (e : ℕ × Node). LiesAmongFiles (is_wide content) e.1)
      (λ e h. subst (λ (w : Bool). LiesAmongFiles w e.1) wide_there (lies_well (table_of content).wide (map file used) content e.0 e.1 h)) used sound

  pub all_efs : All (λ e. e.1.kind ≢ df_kind → IsTrue (is_ef_kind e.1.kind)) used
  all_efs k d low other =
      ef_there (table_of content).wide (map file used) content _ _ other (all_unmapped (IsSoundFile (table_of content).wide (map file used)) file used sound_files k d low)

  pub in_used : (number : ℕ) (node : Node) → HasNode (table_of content) number node → Contains used (number, node)
  in_used number node has = is_shown (λ (n : Node). n.used) 0 number number (table_of content).nodes node (omega arith) has.there has.used

  pub lies_where : (number : ℕ) (node : Node) → HasNode (table_of content) number node → LiesAmongFiles (is_wide content) node
  lies_where number node has = contained (λ (e : ℕ × Node). LiesAmongFiles (is_wide content) e.1) used (number, node) all_lie_well (in_used number node has)

  -- each other used file lies apart from this one
  pub all_apart : (number : ℕ) (node : Node) → HasNode (table_of content) number node → All (λ e. e.0 ≢ number → LieApart e.1 node) used
  all_apart number node has k d low =
      let wide : Bool = (table_of content).wide in
      let this : File = file (number, node) in
      let in_files : Contains (map file used) this = mapped_too file used (number, node) (in_used number node has) in
      let how = all_unmapped (λ (f : File). ((AreDistinct f this) ⊎ (AreDistinct this f)) ⊎ (f ≡ this)) file used (beside AreDistinct (map file used) this distinct_files in_files) in
      let sound = all_unmapped (IsSoundFile wide (map file used)) file used sound_files in
      lie_apart wide (map file used) content _ number _ node (sound k d low) (contained (IsSoundFile wide (map file used)) (map file used) this sound_files in_files) (how k d low)

  -- bytes apart from all files leave them as they were
  pub same_files : (content' : List ℕ) → All (λ e. e.1.kind ≢ df_kind → file_bytes content' e.1 ≡ file_bytes content e.1) used → map (λ e. file_of content' e.0 e.1) used ≡ map file used
  same_files content' each = same_mapped (λ e. file_of content' e.0 e.1) file used (All-weaker _ (λ e. file_of content' e.0 e.1 ≡ file e) (λ e same. same_file content content' e.0 e.1 same) used each)
