-- A memory in which a card is written stands for it.
use Rattle.std.proofs.Common.{suc, get_or, ◌≡◌, ℕ, ◌+◌, ◌-◌, ◌≤◌, ◌<◌, Bool, true, false, cond, List, [], ◌∷◌, length, take, map, refl, sym, ◌∙◌, ap, ⊎_elim, arith, Option, filter, Result, Ok, IsTrue, ne_eqb}
use Rattle.std.specs.List.{enumerate_from, range_with_len}
use Rattle.std.proofs.lemmas.List.{same_lists, get_or-take, length-take}
use Rattle.std.proofs.lemmas.List.Sums.{sum_by_more_le}
use Rattle.std.proofs.lemmas.List.FromFn.{length-map-range_with_len, get_or-map-range_with_len}
use Rattle.std.proofs.lemmas.Grind.{same_number_lists}
use Rattle.list_laws.proofs.SliceRangeLemmas.{length-range, get_or-range}
use Rattle.card_state.specs.declared.entries.Node.{Node}
use Rattle.card_state.specs.declared.entries.PinSlot.{PinSlot}
use Rattle.card_state.specs.declared.entries.Row.{Row}
use Rattle.card_state.specs.Blank.{unused_node}
use Rattle.card_state.specs.Kinds.{df_kind, is_ef_kind}
use Rattle.card_state.specs.Persistent.{Contents, File, Persistent}
use Rattle.card_state.specs.Decoding.{bytes_at, node_at, table_of}
use Rattle.card_state.specs.States.{file_bytes, contents_in, contents_of, df_file, ef_file, file_of, pin_state, present_pins, registration_of, used_nodes, used_rows, files_of, pins_of, rows_of, state_of}
use Rattle.card_state.specs.Standing.{stands_for, unless_failed}
use Rattle.card_state.specs.NewFiles.{df_node}
use Rattle.layout_section.specs.declared.section.SpelledCard.{SpelledCard}
use Rattle.layout_section.specs.Filing.{all_bytes, size_total, file_in, files_in, IsEfBehind}
use Rattle.layout_section.specs.Laying.{SpellsCard, IsWritten}
use Rattle.layout_section.proofs.NumberedLemmas.{length-numbered, numbered_there}
use Rattle.layout_section.proofs.FilingLemmas.{length-files}
use Rattle.layout_section.proofs.IsWrittenLemmas.{part_again, wide_there, next_there, node_there, node_used, node_none, pins_there, rows_there}
use Rattle.layout_section.proofs.ChecksLemmas.{passes}

-- the used entries are those in front
used_step : (b : Bool) (n : ℕ) (x : Node) (es : List (ℕ × Node)) → b ≡ true → cond b ((n, x) ∷ es) es ≡ (n, x) ∷ es
used_step true n x es is = refl
used_step false n x es is = absurd (cc is)

skip_step : (b : Bool) (n : ℕ) (x : Node) (es : List (ℕ × Node)) → b ≡ false → cond b ((n, x) ∷ es) es ≡ es
skip_step true n x es is = absurd (cc is)
skip_step false n x es is = refl

used_front : (n : ℕ) (xs nodes : List Node) → length nodes ≤ length xs → ((k : ℕ) → k < length nodes → get_or xs k unused_node ≡ get_or nodes k unused_node)
    → ((k : ℕ) → k < length nodes → (get_or nodes k unused_node).used ≡ true) → ((k : ℕ) → length nodes ≤ k → k < length xs → (get_or xs k unused_node).used ≡ false)
    → filter (λ entry. entry.1.used) (enumerate_from n xs) ≡ enumerate_from n nodes
used_front n [] [] few same used none = refl
used_front n [] (node ∷ nodes) few same used none = absurd (omega arith)
used_front n (x ∷ xs) [] few same used none =
    skip_step x.used n x (filter (λ entry. entry.1.used) (enumerate_from (n + 1) xs)) (none 0 (omega arith) (omega arith))
    ∙ used_front (n + 1) xs [] (omega arith) (λ k low. absurd (omega arith)) (λ k low. absurd (omega arith)) (λ k high low. none (suc k) (omega arith) (omega arith))
used_front n (x ∷ xs) (node ∷ nodes) few same used none =
    let here : x ≡ node = same 0 (omega arith) in
    used_step x.used n x (filter (λ entry. entry.1.used) (enumerate_from (n + 1) xs)) (ap (λ (m : Node). m.used) here ∙ used 0 (omega arith))
    ∙ ap (λ (l : List (ℕ × Node)). (n, x) ∷ l)
    (used_front (n + 1) xs nodes (omega arith) (λ k low. same (suc k) (omega arith)) (λ k low. used (suc k) (omega arith)) (λ k high low. none (suc k) (omega arith) (omega arith)))
    ∙ ap (λ (m : Node). (n, m) ∷ enumerate_from (n + 1) nodes) here

same_state : (a b : Persistent) → a.is_wide ≡ b.is_wide → a.files ≡ b.files → a.pins ≡ b.pins → a.rows ≡ b.rows → a.next_sequence ≡ b.next_sequence → a ≡ b
same_state a b wide files pins rows next =
    ap (λ w. let s : Persistent = record a { is_wide = w } in s) wide ∙ ap (λ f. let s : Persistent = record a { is_wide = b.is_wide; files = f } in s) files
    ∙ ap (λ p. let s : Persistent = record a { is_wide = b.is_wide; files = b.files; pins = p } in s) pins
    ∙ ap (λ r. let s : Persistent = record a { is_wide = b.is_wide; files = b.files; pins = b.pins; rows = r } in s) rows
    ∙ ap (λ n. let s : Persistent = record b { next_sequence = n } in s) next

-- a part of the bytes that a front has
front_part : (bytes : List ℕ) (total at count : ℕ) → total ≤ length bytes → at + count ≤ total → bytes_at (take total bytes) at count ≡ bytes_at bytes at count
front_part bytes total at count fits low =
    let long : length (take total bytes) ≡ total = omega (arith, length-take total bytes) in
    let first : length (bytes_at (take total bytes) at count) ≡ count = length-range (take total bytes) at count (omega arith) in
    same_number_lists _ _ (first ∙ sym (length-range bytes at count (omega arith)))
    (λ k h.
    let below : k < count = omega arith in
    get_or-range (take total bytes) at count k below ∙ get_or-take total bytes (at + k) 0 (omega arith) ∙ sym (get_or-range bytes at count k below))

module _ (mark : ℕ) (state : Persistent) (card : SpelledCard) (content : List ℕ) (spells : SpellsCard mark state card) (is : IsWritten card content) where
  abbrev nodes : List Node
  nodes = spells.files.nodes

  abbrev bytes : List ℕ
  bytes = spells.files.bytes

  held_long : length card.files.bytes.now ≡ spells.files.total
  held_long = ap (λ (l : List ℕ). length l) spells.files.held_is ∙ omega (arith, length-take spells.files.total bytes, spells.files.are.fits)

  range_there : (at count : ℕ) → at + count ≤ spells.files.total → 3968 + spells.files.total ≤ length content → bytes_at content (3968 + at) count ≡ bytes_at bytes at count
  range_there at count low fits =
      sym (part_again content 3968 (length card.files.bytes.now) at count (omega (arith, held_long)) (omega (arith, held_long))) ∙ ap (λ (l : List ℕ). bytes_at l at count) (is.behind.bytes ∙ spells.files.held_is)
      ∙ front_part bytes spells.files.total at count spells.files.are.fits low

  ef_step : (k : ℕ) (node : Node) (before : ℕ) → IsEfBehind before node → before + node.size ≤ spells.files.total → file_of content k node ≡ file_in bytes k node
  unfolding contents_of all_bytes
  ef_step k node before ef inside =
      let start : 3968 + before ≡ node.place = omega (arith, ef.place) in
      let back : node.place - 3968 ≡ before = omega (arith, ef.place) in
      let held : file_bytes content node ≡ bytes_at bytes (node.place - 3968) node.size =
      ap (λ (n : ℕ). bytes_at content n node.size) (sym start) ∙ range_there before node.size inside (omega (arith, is.behind.long, spells.files.are.fits, spells.files.are.long)) ∙ ap (λ (n : ℕ). bytes_at bytes n node.size) (sym back) in
      ap (λ b. let file : File = cond b (df_file k node) (ef_file content k node) in file) (ne_eqb node.kind df_kind (λ e. not_df node.kind e ef.kind))
      ∙ ap (λ (c : Contents). let file : File = record (file_in bytes k node) { contents = c } in file) (ap (λ (l : List ℕ). contents_in l node) held) where
        not_df : (kind : ℕ) → kind ≡ df_kind → IsTrue (is_ef_kind kind) → ⊥
        not_df kind same ef = absurd (cc (sym ef ∙ ap is_ef_kind same))

  df_step : (k parent : ℕ) (node : Node) → node ≡ df_node node.parent node.id → file_of content k node ≡ file_in bytes k node
  df_step k parent node df = ap (file_of content k) df ∙ sym (ap (file_in bytes k) df)

  file_same : (k : ℕ) → k < length nodes → file_of content k (get_or nodes k unused_node) ≡ file_in bytes k (get_or nodes k unused_node)
  file_same k low =
      ⊎_elim {C = file_of content k (get_or nodes k unused_node) ≡ file_in bytes k (get_or nodes k unused_node)} (λ df. df_step k 0 (get_or nodes k unused_node) df)
      (λ ef. ef_step k (get_or nodes k unused_node) (size_total (take k nodes)) ef (omega (arith, sum_by_more_le (λ (n : Node). n.size) nodes k unused_node low, spells.files.are.sum)))
      (spells.files.are.each k low)

  abbrev table_nodes : List Node
  table_nodes = map (node_at content) (range_with_len 0 128)

  table_long : length table_nodes ≡ 128
  table_long = length-map-range_with_len (node_at content) 0 128

  table_node : (k : ℕ) → k < 128 → get_or table_nodes k unused_node ≡ get_or nodes k unused_node
  table_node k low = get_or-map-range_with_len (node_at content) 0 128 k k unused_node low (omega arith) ∙ node_there mark state card content spells is k low

  files_there : map (λ entry. file_of content entry.0 entry.1) (used_nodes table_nodes) ≡ state.files
  files_there =
      let front : used_nodes table_nodes ≡ enumerate_from 0 nodes =
      used_front 0 table_nodes nodes (omega (arith, table_long, spells.files.few)) (λ k low. table_node k (omega (arith, spells.files.few))) (λ k low. node_used mark state card content spells is k low)
      (λ k high low. ap (λ (n : Node). n.used) (table_node k (omega (arith, table_long)) ∙ node_none mark state card content spells is k high)) in
      let same : map (λ entry. file_of content entry.0 entry.1) (enumerate_from 0 nodes) ≡ files_in bytes nodes =
      same_lists (map (λ entry. file_of content entry.0 entry.1) (enumerate_from 0 nodes)) (files_in bytes nodes) (length-numbered (file_of content) nodes ∙ sym (length-files bytes nodes))
      (λ k d h.
      let low : k < length nodes = omega (arith, length-numbered (file_of content) nodes) in
      numbered_there (file_of content) nodes k unused_node d low ∙ file_same k low ∙ sym (numbered_there (file_in bytes) nodes k unused_node d low)) in
      ap (map (λ entry. file_of content entry.0 entry.1)) front ∙ same ∙ spells.files.is

  state_there : state_of (table_of content) content ≡ state
  unfolding state_of files_of pins_of rows_of table_of
  state_there =
      same_state _ state (wide_there mark state card content spells is ∙ sym spells.state_wide) files_there (ap (λ (l : List PinSlot). map pin_state (present_pins l)) (pins_there mark state card content spells is) ∙ spells.pins.is)
      (ap (λ (l : List Row). map (λ entry. registration_of entry.0 entry.1) (used_rows l)) (rows_there mark state card content spells is) ∙ spells.rows.is) (next_there mark state card content spells is)

  pub stands : stands_for mark content ≡ Ok state
  unfolding stands_for
  stands =
      ap (λ (o : Option ℕ). unless_failed o (state_of (table_of content) content)) (passes mark state card content spells is)
      ∙ ap (λ (s : Persistent). let r : Result Persistent ℕ = Ok s in r) state_there
