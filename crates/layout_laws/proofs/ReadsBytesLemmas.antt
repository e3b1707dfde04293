-- What is read of the bytes of a file.
use Rattle.std.proofs.Common.{◌≡◌, ◌≢◌, ℕ, ◌+◌, ◌*◌, ◌-◌, ◌%◌, ◌≤◌, ◌<◌, ◌==◌, List, [], length, take, drop, slice_range, get_or, sym, ◌∙◌, ap, ⊎_elim, arith}
use Rattle.std.proofs.lemmas.Bool.{cases_lt}
use Rattle.std.proofs.lemmas.Grind.{same_number_lists}
use Rattle.std.proofs.lemmas.List.{length-drop, get_or-take, get_or-drop, get_or_append_left, get_or-append_right}
use Rattle.std.proofs.lemmas.List.FromFn.{length-map-range_with_len, get_or-map-range_with_len}
use Rattle.std.proofs.Math.Nat.{add-mod_left, mod-eq_of_lt, div-mul-le_self}
use Rattle.list_laws.proofs.SliceRangeLemmas.{length-range, one_behind}
use Rattle.card_state.specs.declared.entries.Node.{Node}
use Rattle.card_state.specs.Kinds.{df_kind, transparent_kind}
use Rattle.card_state.specs.Places.{data_place, data_end}
use Rattle.card_state.specs.Decoding.{bytes_at, is_wide, table_of}
use Rattle.card_state.specs.Persistent.{Bytes, Records}
use Rattle.card_state.specs.States.{file_bytes, contents_of, records_of, record_count, from_head}
use Rattle.card_state.specs.Used.{HasNode}
use Rattle.card_state.proofs.RowPlaceLemmas.{data_end_inside}
use Rattle.layout_laws.specs.Cards.{IsCard}
use Rattle.layout_laws.specs.ChangeLaws.{place_in_ring}
use Rattle.layout_laws.proofs.LiesAmongFilesLemmas.{lies_where}
use Rattle.layout_laws.proofs.FromHeadLemmas.{length-from_head}
use Rattle.layout_laws.proofs.WritesBytesLemmas.{held_bytes, held_records, not_df}

get_or-bytes_at : (content : List ℕ) (at count k : ℕ) → k < count → get_or (bytes_at content at count) k 0 ≡ get_or content (at + k) 0
get_or-bytes_at content at count k low = get_or-take (at + count - at) (drop at content) k 0 (omega arith) ∙ get_or-drop at content k 0

-- a part of a part
part_again : (bytes : List ℕ) (from count k n : ℕ) → from + count ≤ length bytes → k + n ≤ count → bytes_at bytes (from + k) n ≡ bytes_at (bytes_at bytes from count) k n
part_again bytes from count k n fits inside =
    let whole : length (bytes_at bytes from count) ≡ count = length-range bytes from count fits in
    let first : length (bytes_at (bytes_at bytes from count) k n) ≡ n = length-range (bytes_at bytes from count) k n (omega arith) in
    let second : length (bytes_at bytes (from + k) n) ≡ n = length-range bytes (from + k) n (omega arith) in
    same_number_lists _ _ (second ∙ sym first)
    (λ j h.
    let low : j < n = omega arith in
    get_or-bytes_at bytes (from + k) n j low ∙ ap (λ (i : ℕ). get_or bytes i 0) (omega arith) ∙ sym (get_or-bytes_at (bytes_at bytes from count) k n j low ∙ get_or-bytes_at bytes from count (k + j) (omega arith)))

-- the record of this number after the head, and round
ring_read : (head index : ℕ) (records : List (List ℕ)) (d : List ℕ) → head < length records → index < length records → get_or (from_head head records) index d ≡ get_or records (place_in_ring head (length records) index) d
ring_read head index records d head_low low =
    let behind : length (drop head records) ≡ length records - head = length-drop head records in
    ⊎_elim {C = get_or (from_head head records) index d ≡ get_or records (place_in_ring head (length records) index) d}
    (λ before.
    let small : head + index < length records = omega arith in
    get_or_append_left (drop head records) (take head records) d index (omega arith) ∙ get_or-drop head records index d ∙ ap (λ (k : ℕ). get_or records k d) (sym (mod-eq_of_lt small)))
    (λ round.
    let over : ℕ = index - (length records - head) in
    let sum : head + index ≡ length records + over = omega arith in
    let is : place_in_ring head (length records) index ≡ over = ap (λ (k : ℕ). k % length records) sum ∙ add-mod_left (length records) over ∙ mod-eq_of_lt (omega arith) in
    get_or-append_right (drop head records) (take head records) (length records - head) index d behind round ∙ get_or-take head records over d (omega arith) ∙ ap (λ (k : ℕ). get_or records k d) (sym is))
    (cases_lt index (length records - head))

ring_low : (head count index : ℕ) → head < count → index < count → place_in_ring head count index < count
ring_low head count index head_low low =
    ⊎_elim {C = place_in_ring head count index < count}
    (λ small. let is : place_in_ring head count index ≡ head + index = mod-eq_of_lt small in omega arith)
    (λ large.
    let sum : head + index ≡ count + (head + index - count) = omega arith in
    let is : place_in_ring head count index ≡ head + index - count = ap (λ (k : ℕ). k % count) sum ∙ add-mod_left count (head + index - count) ∙ mod-eq_of_lt (omega arith) in
    omega arith)
    (cases_lt (head + index) count)

module _ (content : List ℕ) (card : IsCard content) (number : ℕ) (node : Node) (has : HasNode (table_of content) number node) where
  file_inside : node.kind ≢ df_kind → node.place + node.size ≤ length content
  file_inside is_ef =
      let bounds : (data_place ≤ node.place) × (node.place + node.size ≤ data_end (is_wide content)) = lies_where content card number node has is_ef in
      omega (arith, bounds.1, data_end_inside (is_wide content), card.long)

  pub bytes_read : (offset count : ℕ) (held : List ℕ) → contents_of content node ≡ Bytes held → offset + count ≤ length held → bytes_at content (node.place + offset) count ≡ bytes_at held offset count
  unfolding contents_of
  bytes_read offset count held holds fits =
      let found = held_bytes (node.kind == df_kind) (node.kind == transparent_kind) (file_bytes content node) held (from_head node.head (records_of node.length (record_count node) (file_bytes content node))) holds in
      let inside : node.place + node.size ≤ length content = file_inside (not_df node.kind found.0) in
      let size : length (file_bytes content node) ≡ node.size = length-range content node.place node.size inside in
      part_again content node.place node.size offset count inside (omega (arith, ap length found.2)) ∙ ap (λ (l : List ℕ). bytes_at l offset count) found.2

  pub record_read : (index : ℕ) (held : List (List ℕ)) → contents_of content node ≡ Records held → node.head < length held → index < length held
      → bytes_at content (node.place + place_in_ring node.head (length held) index * node.length) node.length ≡ get_or held index []
  unfolding contents_of
  record_read index held holds head_low low =
      let bytes : List ℕ = file_bytes content node in
      let lying : List (List ℕ) = records_of node.length (record_count node) bytes in
      let found = held_records (node.kind == df_kind) (node.kind == transparent_kind) bytes (from_head node.head lying) held holds in
      let inside : node.place + node.size ≤ length content = file_inside (not_df node.kind found.0) in
      let count : length lying ≡ record_count node = length-map-range_with_len (λ (k : ℕ). slice_range bytes (k * node.length) (k * node.length + node.length)) 0 (record_count node) in
      let long : length held ≡ length lying = sym (sym (length-from_head node.head lying) ∙ ap length found.2) in
      let at : ℕ = place_in_ring node.head (length held) index in
      let at_low : at < length held = ring_low node.head (length held) index head_low low in
      let end : at * node.length + node.length ≤ record_count node * node.length = one_behind node.length at (record_count node) (omega arith) in
      let whole : record_count node * node.length ≤ node.size = div-mul-le_self node.size node.length in
      let there : get_or lying at [] ≡ bytes_at bytes (at * node.length) node.length =
      get_or-map-range_with_len (λ (k : ℕ). slice_range bytes (k * node.length) (k * node.length + node.length)) 0 (record_count node) at at [] (omega arith) (omega arith) in
      part_again content node.place node.size (at * node.length) node.length inside (omega arith)
      ∙ sym (ap (λ (l : List (List ℕ)). get_or l index []) (sym found.2) ∙ ring_read node.head index lying [] (omega arith) (omega arith)
      ∙ ap (λ (n : ℕ). get_or lying (place_in_ring node.head n index) []) (sym long) ∙ there)
