-- What the files of a card that stands hold by their kinds, and which keys its PINs have.
use Rattle.std.proofs.Common.{◌≡◌, ℕ, ◌<◌, true, false, List, length, map, sym, ◌∙◌, ap, subst, ⊎_elim, arith, ◌≢◌, ◌*◌, ◌==◌, slice_get, Some, None}
use Rattle.std.specs.List.{range_with_len}
use Rattle.std.proofs.lemmas.Bool.{cases_eq, cases_lt, not_from_false, ne_eqb}
use Rattle.std.proofs.lemmas.Option.{same_Some}
use Rattle.std.proofs.Math.Nat.{div-add-mod, mul_comm}
use Rattle.card_state.specs.declared.entries.Node.{Node}
use Rattle.card_state.specs.declared.entries.PinSlot.{PinSlot}
use Rattle.card_state.specs.declared.entries.Loaded.{Loaded}
use Rattle.card_state.specs.Kinds.{df_kind, has_records}
use Rattle.card_state.specs.Places.{memory_size}
use Rattle.card_state.specs.Persistent.{Contents, Bytes, Records, File, Persistent}
use Rattle.card_state.specs.Decoding.{is_wide, node_at, pin_at, table_of}
use Rattle.card_state.specs.States.{contents_of, record_count, file_bytes, records_of, from_head, file_of}
use Rattle.card_state.specs.Checks.{nodes_below}
use Rattle.card_state.specs.Used.{HasNode, HasOwnKeys}
use Rattle.card_state.specs.Standing.{Stands}
use Rattle.card_state.specs.Holding.{HoldsByKind, HasBytes, HasFullRecords, StandingFilesHold, StandingFilesHaveBytes, StandingRecordsAreFull, StandingKeysAreOwn}
use Rattle.card_state.proofs.RangeWithLenLemmas.{got_below, past_below}
use Rattle.card_state.proofs.StandsForLemmas.{stands_told}
use Rattle.card_state.proofs.IsNodeLemmas.{IsPlacedEf}
use Rattle.card_state.proofs.AreNodesRightLemmas.{AreNodesRight, pins_told, nodes_told}
use Rattle.card_state.proofs.IsSoundPinLemmas.{own_key}
use Rattle.card_state.proofs.FileOfLemmas.{file_of_df, file_of_ef, file_bytes_length, length_from_head, HasRecords, holds_bytes, holds_records, each_whole, not_none}
use Rattle.card_state.proofs.IsSoundFileLemmas.{records_are_no_bytes}

-- an entry of a list by its number
entry_is : {A : Type 0} (at : ℕ → A) (count k : ℕ) (x : A) → slice_get (map at (range_with_len 0 count)) k ≡ Some x → (k < count) × (x ≡ at k)
entry_is at count k x got =
    ⊎_elim {C = (k < count) × (x ≡ at k)} (λ low. (low, same_Some _ _ (sym got ∙ got_below at count k low)))
    (λ high. let none : None ≡ Some x = sym (past_below at count k high) ∙ got in absurd (cc none)) (cases_lt k count)

module _ (content : List ℕ) (long : length content ≡ memory_size) (right : AreNodesRight content) (number : ℕ) (node : Node) (has : HasNode (table_of content) number node) where
  is : (number < 128) × (node ≡ node_at content number)
  unfolding table_of
  is = entry_is (node_at content) 128 number node has.there

  placed : node.kind ≢ df_kind → IsPlacedEf (is_wide content) (nodes_below content number) node
  placed other =
      let same : node ≡ node_at content number = is.1 in
      subst (IsPlacedEf (is_wide content) (nodes_below content number)) (sym same)
      (⊎_elim {C = IsPlacedEf (is_wide content) (nodes_below content number) (node_at content number)}
      (λ first. absurd (other (ap (λ (n : Node). n.kind) same ∙ ap (λ (k : ℕ). (node_at content k).kind) first ∙ right.first.kind)))
      (λ not_first. (right.each number is.0 not_first (ap (λ (n : Node). n.used) (sym same) ∙ has.used)).ef (λ df. other (ap (λ (n : Node). n.kind) same ∙ df)))
      (cases_eq number 0))

  pub has_bytes : node.kind ≢ df_kind → HasBytes (table_of content) node
  unfolding table_of
  has_bytes other = let ef = placed other in record { from = ef.from; some = ef.some; to = ef.to }

  no_df : has_records node.kind ≡ true → node.kind ≢ df_kind
  no_df records df = let none : false ≡ true = sym (ap has_records df) ∙ records in absurd (cc none)

  its_records : has_records node.kind ≡ true → HasRecords node
  its_records records = let are = (placed (no_df records)).records records in record { some = are.length; whole = are.whole; few = are.few }

  pub has_records_full : has_records node.kind ≡ true → HasFullRecords node
  has_records_full records =
      let are = its_records records in
      let full : record_count node * node.length ≡ node.size = omega (arith, are.whole, div-add-mod node.size node.length, mul_comm (record_count node) node.length) in
      record { width = are.some; some = not_none (record_count node) node.length node.size full (placed (no_df records)).some; few = are.few; full = full }

  contents_are : node.kind ≢ df_kind → (c : Contents) → contents_of content node ≡ c → (file_of content number node).contents ≡ c
  contents_are other c held = ap (λ (f : File). f.contents) (file_of_ef content number node other) ∙ held

  pub holds : HoldsByKind node (file_of content number node).contents
  holds =
      let whole : node.kind ≢ df_kind → length (file_bytes content node) ≡ node.size = λ other. file_bytes_length (is_wide content) content node long (placed other).to in
      record {
        df = λ df. ap (λ (f : File). f.contents) (file_of_df content number node df);
        transparent = λ plain.
            let other : node.kind ≢ df_kind = λ df. absurd (omega arith) in
            record { bytes = file_bytes content node; held = contents_are other (Bytes (file_bytes content node)) (holds_bytes content node plain); long = whole other };
        in_records = λ records.
            let other : node.kind ≢ df_kind = no_df records in
            let count = record_count node in
            record {
              records = from_head node.head (records_of node.length count (file_bytes content node));
              held = contents_are other (Records (from_head node.head (records_of node.length count (file_bytes content node)))) (holds_records content node other (records_are_no_bytes node.kind records));
              many = length_from_head node.length count (file_bytes content node) node.head;
              whole = each_whole content node (whole other) (its_records records);
            };
      }

module _ (store_mark : ℕ) (content : List ℕ) (table : Loaded) (state : Persistent) (stands : Stands store_mark content table state) where
  nodes : AreNodesRight content
  nodes = nodes_told content (stands_told store_mark content state stands.decoded).0.nodes

  there : (number : ℕ) (node : Node) → HasNode table number node → HasNode (table_of content) number node
  there number node has = subst (λ (t : Loaded). HasNode t number node) (sym stands.entries) has

  pub bytes_there : (number : ℕ) (node : Node) → HasNode table number node → node.kind ≢ df_kind → HasBytes table node
  bytes_there number node has other = subst (λ (t : Loaded). HasBytes t node) stands.entries (has_bytes content stands.long nodes number node (there number node has) other)

  keys : HasOwnKeys (table_of content)
  unfolding table_of
  keys slot pin has =
      let is = entry_is (pin_at content) 3 slot pin has.there in
      let key : pin.key ≡ (pin_at content slot).key = ap (λ (p : PinSlot). p.key) is.1 in
      key ∙ own_key content (pins_told content (stands_told store_mark content state stands.decoded).0.pins) slot is.0 (not_from_false ((pin_at content slot).key == 0) (ne_eqb (pin_at content slot).key 0 (λ none. has.key (key ∙ none))))

  pub keys_there : HasOwnKeys table
  keys_there = subst HasOwnKeys stands.entries keys

pub files_hold : StandingFilesHold
files_hold store_mark content table state number node stands has = holds content stands.long (nodes store_mark content table state stands) number node (there store_mark content table state stands number node has)

pub files_have_bytes : StandingFilesHaveBytes
files_have_bytes store_mark content table state number node stands has other = bytes_there store_mark content table state stands number node has other

pub records_are_full : StandingRecordsAreFull
records_are_full store_mark content table state number node stands has records =
    has_records_full content stands.long (nodes store_mark content table state stands) number node (there store_mark content table state stands number node has) records

pub keys_are_own : StandingKeysAreOwn
keys_are_own store_mark content table state stands = keys_there store_mark content table state stands
