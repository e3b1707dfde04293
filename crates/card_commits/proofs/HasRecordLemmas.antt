-- Where the records of a file lie, and what stands there.
use Rattle.std.proofs.Common.{◌≡◌, ◌≢◌, ◌⊎◌, ℕ, ◌+◌, ◌-◌, ◌*◌, ◌%◌, ◌≤◌, ◌<◌, ◌==◌, ◌||◌, Bool, true, false, IsTrue, List, [], ◌∷◌, length, slice_range, slice_index_or, slice_set, if◌then◌else◌, All, Option, refl, sym, ◌∙◌, ap, subst, inl, inr, ⊎_elim, arith, mul-le-mul_right, mod-eq_of_lt}
use Rattle.std.proofs.lemmas.Bool.{false≢true}
use Rattle.std.proofs.lemmas.Bool.Decides.{nat_tests}
use Rattle.std.proofs.lemmas.List.Elements.{All-nil, All-cons}
use Rattle.std.proofs.lemmas.Nat.{mod_below}
use Rattle.store_form.specs.Pieces.{Piece, applied, IsUsable, IsUsablePiece}
use Rattle.card_state.specs.declared.entries.Node.{Node}
use Rattle.card_state.specs.declared.entries.Loaded.{Loaded}
use Rattle.card_state.specs.Blank.{unused_node}
use Rattle.card_state.specs.Kinds.{df_kind, linear_kind, cyclic_kind, has_records, is_ef_kind, activated, deactivated}
use Rattle.card_state.specs.Places.{memory_size}
use Rattle.card_state.specs.Changing.{with_record, with_newest_record, with_life}
use Rattle.card_state.specs.States.{file_of, record_count}
use Rattle.card_state.specs.Standing.{Stands, Agrees}
use Rattle.card_state.specs.Used.{HasNode}
use Rattle.card_state.specs.Holding.{HasFullRecords, StandingRecordsAreFull}
use Rattle.file_model.specs.Holdings.{records_held, records_in}
use Rattle.file_model.specs.Laws.{NumbersAreEntries}
use Rattle.layout_entries.specs.Spelling.{node_spelled, node_part}
use Rattle.layout_laws.specs.Changes.{with_node}
use Rattle.layout_laws.specs.ChangeLaws.{place_in_ring, oldest}
use Rattle.layout_laws.specs.Known.{NodesAreFiles}
use Rattle.layout_laws.specs.StandingLaws.{RecordIsRead, RingIsRead, WrittenRecordStands, NewestRecordStands, LifeCycleStands}
use Rattle.card_commits.specs.Commits.{Commits}
use Rattle.card_commits.specs.Entries.{HasRecord, HasLinearRecord, HasRing, with_node_at, with_head_moved}
use Rattle.card_commits.proofs.EntriesLemmas.{LieAt, lie, usable, told_of, kind_told, records_told}
use Rattle.card_commits.proofs.HeldByLemmas.{entry, numbered, held_is}

-- one of so many records of one width, that fill a file
place_inside : (index count width size : ℕ) → index < count → count * width ≡ size → index * width + width ≤ size
place_inside index count width size low full =
    let step : (index + 1) * width ≤ count * width = mul-le-mul_right width (omega arith) in
    let split : (index + 1) * width ≡ index * width + width = grind arith in
    omega (arith, step, split, full)

-- a kind of files with records
by_kind : (kind : ℕ) → IsTrue (has_records kind) → (kind ≡ linear_kind) ⊎ (kind ≡ cyclic_kind)
by_kind kind records = by_test (kind == linear_kind) refl (kind == cyclic_kind) refl records where
  by_test : (a : Bool) → (kind == linear_kind) ≡ a → (b : Bool) → (kind == cyclic_kind) ≡ b → IsTrue (a || b) → (kind ≡ linear_kind) ⊎ (kind ≡ cyclic_kind)
  by_test true is b other either = inl (grind (arith, nat_tests))
  by_test false is true other either = inr (grind (arith, nat_tests))
  by_test false is false other either = absurd (false≢true either)

-- the records of an entry: how many, how long, and where
pub record HaveRecords (node : Node) : Type 0 where
  pub kind : IsTrue (has_records node.kind)
  pub full : HasFullRecords node
  pub whole : LieAt node 0 node.size
  pub head : node.head < record_count node

module _ (numbers : NumbersAreEntries) (nodes_are_files : NodesAreFiles) (full : StandingRecordsAreFull) (mark : ℕ) (told : Option (List ℕ)) (table : Loaded) (agrees : Agrees mark told table) (number : ℕ) (node : Node) (has : HasNode table number node) where
  no_df : IsTrue (has_records node.kind) → node.kind ≢ df_kind
  no_df records is = absurd (false≢true (subst (λ (kind : ℕ). IsTrue (has_records kind)) is records))

  pub have_records : IsTrue (has_records node.kind) → HaveRecords node
  have_records records =
      let filled = full mark agrees.content table agrees.state number node agrees.stands has records in
      let right = (nodes_are_files mark agrees.content table agrees.state number node agrees.stands has).head in
      let head : node.head < record_count node =
      ⊎_elim {C = node.head < record_count node} (λ linear. let none = right.other (inr linear) in omega (arith, none, filled.some)) (λ cyclic. right.cyclic cyclic) (by_kind node.kind records) in
      record { kind = records; full = filled; whole = lie numbers nodes_are_files mark told table agrees number node has 0 node.size (no_df records) (omega arith); head = head }

  -- a record that the table tells of
  pub record RecordLies (index width : ℕ) : Type 0 where
    pub have : HaveRecords node
    pub low : index < record_count node
    pub width_is : node.length ≡ width

  pub record_lies : (index width : ℕ) → HasRecord table number index width → RecordLies index width
  record_lies index width file =
      let tells = told_of numbers table number node (λ file. IsTrue (has_records file.kind) × (index < file.count) × (file.width ≡ width)) has file in
      let kind : IsTrue (has_records node.kind) = subst (λ (kind : ℕ). IsTrue (has_records kind)) (kind_told number node) tells.0 in
      let told' = records_told number node kind in
      record { have = have_records kind; low = omega (arith, tells.1, told'.0); width_is = sym told'.1 ∙ tells.2 }

  -- a record of a linear fixed file
  pub record LinearLies (index width : ℕ) : Type 0 where
    pub kind : node.kind ≡ linear_kind
    pub lies : RecordLies index width

  of_kind : (kind : ℕ) → IsTrue (has_records kind) → node.kind ≡ kind → IsTrue (has_records node.kind)
  of_kind kind records is = subst (λ (k : ℕ). IsTrue (has_records k)) (sym is) records

  pub linear_lies : (index width : ℕ) → HasLinearRecord table number index width → LinearLies index width
  linear_lies index width file =
      let tells = told_of numbers table number node (λ file. (file.kind ≡ linear_kind) × (index < file.count) × (file.width ≡ width)) has file in
      let kind : node.kind ≡ linear_kind = sym (kind_told number node) ∙ tells.0 in
      let told' = records_told number node (of_kind linear_kind refl kind) in
      record { kind = kind; lies = record { have = have_records (of_kind linear_kind refl kind); low = omega (arith, tells.1, told'.0); width_is = sym told'.1 ∙ tells.2 } }

  -- the records of a cyclic file
  pub record RingLies (width : ℕ) : Type 0 where
    pub kind : node.kind ≡ cyclic_kind
    pub have : HaveRecords node
    pub width_is : node.length ≡ width

  pub ring_lies : (width : ℕ) → HasRing table number width → RingLies width
  ring_lies width file =
      let tells = told_of numbers table number node (λ file. (file.kind ≡ cyclic_kind) × (file.width ≡ width)) has file in
      let kind : node.kind ≡ cyclic_kind = sym (kind_told number node) ∙ tells.0 in
      let told' = records_told number node (of_kind cyclic_kind refl kind) in
      record { kind = kind; have = have_records (of_kind cyclic_kind refl kind); width_is = sym told'.1 ∙ tells.1 }

  -- what stands at the place of a record
  pub record_read : RecordIsRead → RingIsRead → (index width : ℕ) → RecordLies index width
      → (let place = node.place + place_in_ring node.head (record_count node) index * node.length in
      slice_range agrees.content place (place + width) ≡ slice_index_or (records_in agrees.state number) index [])
  record_read linear_read ring_read index width lies =
      let file = file_of agrees.content number node in
      let known = entry nodes_are_files mark agrees.content table agrees.state agrees.stands number node has in
      let this = numbered nodes_are_files mark agrees.content table agrees.state agrees.stands number node has in
      let holds = known.holds.in_records lies.have.kind in
      let is : records_in agrees.state number ≡ holds.records = ap records_held (held_is nodes_are_files mark agrees.content table agrees.state agrees.stands number node has ∙ holds.held) in
      let low : index < length holds.records = omega (arith, lies.low, holds.many) in
      let many : record_count node ≡ length holds.records = sym holds.many in
      let right = known.head in
      let place : ℕ → ℕ = λ at. node.place + at * node.length in
      let read : (at : ℕ) → slice_range agrees.content (place at) (place at + node.length) ≡ slice_index_or holds.records index [] → slice_range agrees.content (place at) (place at + width) ≡ slice_index_or (records_in agrees.state number) index [] =
      λ at stood. rw (sym lies.width_is, is) stood in
      ⊎_elim {C = slice_range agrees.content (place (place_in_ring node.head (record_count node) index)) (place (place_in_ring node.head (record_count node) index) + width) ≡ slice_index_or (records_in agrees.state number) index []}
      (λ linear.
      let start : 0 + index ≡ index = omega arith in
      let none : node.head ≡ 0 = right.other (inr linear) in
      let same : place_in_ring node.head (record_count node) index ≡ index = ap (λ (h : ℕ). (h + index) % record_count node) none ∙ ap (λ (n : ℕ). n % record_count node) start ∙ mod-eq_of_lt lies.low in
      rw same (read index (linear_read mark agrees.content table agrees.state number index node file holds.records agrees.stands has this linear holds.held low)))
      (λ cyclic.
      read (place_in_ring node.head (record_count node) index)
      (rw many (ring_read mark agrees.content table agrees.state number index node file holds.records agrees.stands has this cyclic holds.held low)))
      (by_kind node.kind lies.have.kind)

-- the place of any of them may be named
pub record_usable : (node : Node) (at : ℕ) → HaveRecords node → at < record_count node → IsUsable memory_size (node.place + at * node.length) node.length
record_usable node at have low =
    usable node (at * node.length) node.length
    (record { inside = place_inside at (record_count node) node.length node.size low have.full.full; from = have.whole.from; to = have.whole.to })

-- it lies below the end of the memory
pub record_below : (node : Node) (at : ℕ) → HaveRecords node → at < record_count node → node.place + at * node.length < 65536
record_below node at have low =
    let inside = place_inside at (record_count node) node.length node.size low have.full.full in
    omega (arith, inside, have.whole.to, have.full.width)

pub ring_below : (node : Node) (index : ℕ) → HaveRecords node → place_in_ring node.head (record_count node) index < record_count node
ring_below node index have = mod_below (node.head + index) (record_count node) (omega (arith, have.full.some))

-- ---- what is committed

module _ (mark : ℕ) (told : Option (List ℕ)) (table : Loaded) (number : ℕ) (node : Node) (has : HasNode table number node) where
  pub record_commit : WrittenRecordStands → (index : ℕ) (bytes : List ℕ) (pieces : List Piece) → node.kind ≡ linear_kind → index < record_count node → node.length ≡ length bytes
      → pieces ≡ record { place = node.place + index * node.length; bytes = bytes } ∷ [] → Commits mark told table pieces table (with_record number index bytes)
  record_commit written index bytes pieces kind low width is agrees =
      subst (λ (list : List Piece). Stands mark (applied list agrees.content) table (with_record number index bytes agrees.state)) (sym is)
      (written mark agrees.content table agrees.state number index node bytes agrees.stands has kind low (sym width))

-- an entry that is used is shown as it is
pub shown : (table : Loaded) (number : ℕ) (node : Node) → node.used ≡ true → with_node table number node ≡ with_node_at table number node
shown table number node used =
    ap (λ (b : Bool). let set : Loaded = record table { nodes = slice_set table.nodes number (if b then node else unused_node) } in set) used

module _ (mark : ℕ) (told : Option (List ℕ)) (table : Loaded) (number : ℕ) (node : Node) (has : HasNode table number node) where
  pub newest_commit : NewestRecordStands → (bytes : List ℕ) (pieces : List Piece) (moved : Node) (place : ℕ) → node.kind ≡ cyclic_kind → node.length ≡ length bytes → moved ≡ with_head_moved node
      → place ≡ moved.place + moved.head * moved.length → pieces ≡ record { place = place; bytes = bytes } ∷ node_part number moved 15 16 ∷ []
      → Commits mark told table pieces (with_node_at table number moved) (with_newest_record number bytes)
  newest_commit newest bytes pieces moved place kind width same at is agrees =
      let stood = newest mark agrees.content table agrees.state number node bytes agrees.stands has kind (sym width) in
      let here = subst (λ (t : Loaded). Stands mark (applied (record { place = (with_head_moved node).place + (with_head_moved node).head * (with_head_moved node).length; bytes = bytes } ∷ node_part number (with_head_moved node) 15 16 ∷ []) agrees.content) t (with_newest_record number bytes agrees.state)) (shown table number (with_head_moved node) has.used) stood in
      rw (is, at, same) here

-- a byte of a file's entry may be named
pub node_usable : (number from to : ℕ) (node : Node) → number < 128 → from < to → to ≤ 16 → length (node_part number node from to).bytes ≡ to - from → IsUsablePiece memory_size (node_part number node from to)
node_usable number from to node low order inside long =
    record { some = omega (arith, long); range = record { inside = omega (arith, long); outside = λ some below. absurd (omega arith) } }

pub head_long : (number : ℕ) (node : Node) → length (node_part number node 15 16).bytes ≡ 1
unfolding node_spelled
head_long number node = refl

pub life_long : (number : ℕ) (node : Node) → length (node_part number node 6 7).bytes ≡ 1
unfolding node_spelled
life_long number node = refl

pub two_usable : (first second : Piece) (pieces : List Piece) → pieces ≡ first ∷ second ∷ [] → IsUsablePiece memory_size first → IsUsablePiece memory_size second → All (IsUsablePiece memory_size) pieces
two_usable first second pieces is a b =
    subst (All (IsUsablePiece memory_size)) (sym is) (All-cons (IsUsablePiece memory_size) first (second ∷ []) a (All-cons (IsUsablePiece memory_size) second [] b (All-nil (IsUsablePiece memory_size))))

pub one_usable : (piece : Piece) (pieces : List Piece) → pieces ≡ piece ∷ [] → IsUsablePiece memory_size piece → All (IsUsablePiece memory_size) pieces
one_usable piece pieces is a = subst (All (IsUsablePiece memory_size)) (sym is) (All-cons (IsUsablePiece memory_size) piece [] a (All-nil (IsUsablePiece memory_size)))

pub oldest_low : (node : Node) → HaveRecords node → oldest node.head (record_count node) < record_count node
oldest_low node have = mod_below (node.head + record_count node - 1) (record_count node) (omega (arith, have.full.some))

module _ (mark : ℕ) (told : Option (List ℕ)) (table : Loaded) (number : ℕ) (node : Node) (has : HasNode table number node) where
  pub life_commit : LifeCycleStands → (life : ℕ) (pieces : List Piece) → IsTrue (is_ef_kind node.kind) → (life ≡ deactivated) ⊎ (life ≡ activated) → pieces ≡ node_part number (record node { life = life }) 6 7 ∷ []
      → Commits mark told table pieces (with_node_at table number (record node { life = life })) (with_life number life)
  life_commit stands life pieces ef which is agrees =
      let stood = stands mark agrees.content table agrees.state number life node agrees.stands has ef which in
      let here = subst (λ (t : Loaded). Stands mark (applied (node_part number (record node { life = life }) 6 7 ∷ []) agrees.content) t (with_life number life agrees.state)) (shown table number (record node { life = life }) has.used) stood in
      rw is here
