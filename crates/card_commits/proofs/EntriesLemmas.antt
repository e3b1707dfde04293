-- The entry of a file that is there, and where its bytes lie.
use Rattle.std.proofs.Common.{◌≡◌, ◌≢◌, ℕ, ◌+◌, ◌≤◌, ◌<◌, ◌==◌, Bool, true, false, IsTrue, if◌then◌else◌, List, [], ◌∷◌, length, All, Option, Some, None, IsSome, IsSomeAnd, option_and_then, slice_get, refl, sym, ◌∙◌, ap, subst, arith}
use Rattle.std.proofs.lemmas.Option.{get_or_from_slice_get}
use Rattle.std.proofs.lemmas.List.Elements.{All-nil, All-cons}
use Rattle.std.proofs.lemmas.Bool.{false≢true}
use Rattle.std.proofs.lemmas.Bool.Decides.{nat_tests}
use Rattle.store_form.specs.Pieces.{Piece, applied, IsUsable, IsUsablePiece}
use Rattle.card_state.specs.declared.entries.Node.{Node}
use Rattle.card_state.specs.declared.entries.Loaded.{Loaded}
use Rattle.card_state.specs.Blank.{unused_node}
use Rattle.card_state.specs.Kinds.{df_kind, transparent_kind, has_records, is_ef_kind}
use Rattle.card_state.specs.Places.{memory_size}
use Rattle.card_state.specs.Standing.{Stands, Agrees}
use Rattle.card_state.specs.Changing.{with_bytes}
use Rattle.card_state.specs.States.{record_count}
use Rattle.card_state.specs.Used.{HasNode}
use Rattle.card_state.proofs.RowPlaceLemmas.{data_end_inside}
use Rattle.file_model.specs.declared.descriptors.Descriptor.{Descriptor}
use Rattle.file_model.specs.declared.descriptors.Wanted.TheVariants.{Number}
use Rattle.file_model.specs.Files.{df_descriptor, ef_descriptor, descriptor_of, descriptor_if, descriptors_of, file_found, node_at}
use Rattle.file_model.specs.Laws.{NumbersAreEntries}
use Rattle.layout_laws.specs.Known.{NodesAreFiles}
use Rattle.layout_laws.specs.StandingLaws.{WrittenBytesStand}
use Rattle.card_commits.specs.Commits.{Commits}
use Rattle.card_commits.specs.Entries.{IsThere, HasFile, HasBytes, HasEf}

-- ---- the entry

-- a file that is there has an entry that is used
pub entry_of : NumbersAreEntries → (table : Loaded) (number : ℕ) → IsThere table number → HasNode table number (node_at table number)
entry_of numbers table number there = by_entry (slice_get table.nodes number) refl (subst IsSome (numbers table number) there) where
  by_use : (node : Node) → slice_get table.nodes number ≡ Some node → (b : Bool) → node.used ≡ b → IsSome (if b then Some (descriptor_of number node) else None) → HasNode table number (node_at table number)
  by_use node is false unused some = absurd (false≢true some)
  by_use node is true used some =
      let same : node_at table number ≡ node = get_or_from_slice_get table.nodes number node unused_node is in
      rw same (record { there = is; used = used })

  by_entry : (entry : Option Node) → slice_get table.nodes number ≡ entry → IsSome (option_and_then (descriptor_if number) entry) → HasNode table number (node_at table number)
  by_entry None is some = absurd (false≢true some)
  by_entry (Some node) is some = by_use node is node.used refl some

-- what is found by its number is what the entry tells
pub found_is : NumbersAreEntries → (table : Loaded) (number : ℕ) (node : Node) → HasNode table number node → file_found (descriptors_of table) (Number number) ≡ Some (descriptor_of number node)
found_is numbers table number node has =
    numbers table number ∙ ap (λ (entry : Option Node). option_and_then (descriptor_if number) entry) has.there
    ∙ ap (λ (b : Bool). let file : Option Descriptor = if b then Some (descriptor_of number node) else None in file) has.used

pub told_of : NumbersAreEntries → (table : Loaded) (number : ℕ) (node : Node) (is : Descriptor → Type 0) → HasNode table number node → HasFile table number is → is (descriptor_of number node)
told_of numbers table number node is has file = subst (λ (found : Option Descriptor). IsSomeAnd found is) (found_is numbers table number node has) file

-- ---- what the entry tells

module _ (number : ℕ) (node : Node) where
  pub kind_told : (descriptor_of number node).kind ≡ node.kind
  unfolding descriptor_of
  kind_told = by_test (node.kind == df_kind) where
    by_test : (b : Bool) → (if b then df_descriptor number node else ef_descriptor number node).kind ≡ node.kind
    by_test true = refl
    by_test false = refl

  size_told : (descriptor_of number node).size ≤ node.size
  unfolding descriptor_of
  size_told = by_test (node.kind == df_kind) where
    by_test : (b : Bool) → (if b then df_descriptor number node else ef_descriptor number node).size ≤ node.size
    by_test true = omega arith
    by_test false = omega arith

  -- a file with records is no DF
  pub records_told : IsTrue (has_records node.kind) → ((descriptor_of number node).count ≡ record_count node) × ((descriptor_of number node).width ≡ node.length)
  unfolding descriptor_of
  records_told records = by_test (node.kind == df_kind) refl where
    by_kind : (b : Bool) → IsTrue b → ((if b then record_count node else 0) ≡ record_count node) × ((if b then node.length else 0) ≡ node.length)
    by_kind true is = (refl, refl)
    by_kind false is = absurd (false≢true is)

    no_df : node.kind ≡ df_kind → ⊥
    no_df is = false≢true (subst (λ (kind : ℕ). IsTrue (has_records kind)) is records)

    by_test : (b : Bool) → (node.kind == df_kind) ≡ b
        → ((if b then df_descriptor number node else ef_descriptor number node).count ≡ record_count node) × ((if b then df_descriptor number node else ef_descriptor number node).width ≡ node.length)
    by_test true is = absurd (no_df (grind (arith, nat_tests)))
    by_test false is = by_kind (has_records node.kind) records

-- ---- where its bytes lie

-- so many bytes from an offset on, among those of the files
pub record LieAt (node : Node) (offset count : ℕ) : Type 0 where
  pub inside : offset + count ≤ node.size
  pub from : 3968 ≤ node.place
  pub to : node.place + node.size ≤ 65536

pub usable : (node : Node) (offset count : ℕ) → LieAt node offset count → IsUsable memory_size (node.place + offset) count
usable node offset count lie = record { inside = omega (arith, lie.inside, lie.to); outside = λ some low. absurd (omega (arith, lie.from)) }

module _ (numbers : NumbersAreEntries) (nodes_are_files : NodesAreFiles) (mark : ℕ) (told : Option (List ℕ)) (table : Loaded) (agrees : Agrees mark told table) (number : ℕ) (node : Node) (has : HasNode table number node) where
  pub lie : (offset count : ℕ) → node.kind ≢ df_kind → offset + count ≤ node.size → LieAt node offset count
  lie offset count other inside =
      let lies = (nodes_are_files mark agrees.content table agrees.state number node agrees.stands has).lies other in
      record { inside = inside; from = lies.0; to = omega (arith, lies.1, data_end_inside table.wide) }

  pub record BytesLie (offset count : ℕ) : Type 0 where
    pub kind : node.kind ≡ transparent_kind
    pub at : LieAt node offset count

  pub bytes_lie : (offset count : ℕ) → HasBytes table number offset count → BytesLie offset count
  bytes_lie offset count file =
      let told' = told_of numbers table number node (λ file. (file.kind ≡ transparent_kind) × (offset + count ≤ file.size)) has file in
      let kind : node.kind ≡ transparent_kind = sym (kind_told number node) ∙ told'.0 in
      let other : node.kind ≢ df_kind = λ is. absurd (let same : transparent_kind ≡ df_kind = sym kind ∙ is in cc) in
      record { kind = kind; at = lie offset count other (omega (arith, told'.1, size_told number node)) }

  -- bytes that are written there are a commit of them
  pub bytes_commit : WrittenBytesStand → (offset : ℕ) (bytes : List ℕ) (pieces : List Piece) → pieces ≡ record { place = node.place + offset; bytes = bytes } ∷ [] → BytesLie offset (length bytes)
      → Commits mark told table pieces table (with_bytes number offset bytes)
  bytes_commit written offset bytes pieces is lies agrees' =
      subst (λ (list : List Piece). Stands mark (applied list agrees'.content) table (with_bytes number offset bytes agrees'.state)) (sym is)
      (written mark agrees'.content table agrees'.state number offset node bytes agrees'.stands has lies.kind lies.at.inside)

-- one piece that may be committed
pub usable_piece : (place : ℕ) (bytes : List ℕ) (pieces : List Piece) (size : ℕ) → pieces ≡ record { place = place; bytes = bytes } ∷ [] → 0 < length bytes → IsUsable size place (length bytes) → All (IsUsablePiece size) pieces
usable_piece place bytes pieces size is some range = subst (All (IsUsablePiece size)) (sym is) (All-cons (IsUsablePiece size) _ [] (record { some = some; range = range }) (All-nil (IsUsablePiece size)))

pub number_low : NodesAreFiles → (mark : ℕ) (told : Option (List ℕ)) (table : Loaded) (agrees : Agrees mark told table) (number : ℕ) (node : Node) → HasNode table number node → number < 128
number_low nodes_are_files mark told table agrees number node has = (nodes_are_files mark agrees.content table agrees.state number node agrees.stands has).low

pub ef_there : NumbersAreEntries → (table : Loaded) (number : ℕ) (node : Node) → HasNode table number node → HasEf table number → IsTrue (is_ef_kind node.kind)
ef_there numbers table number node has ef = subst (λ (kind : ℕ). IsTrue (is_ef_kind kind)) (kind_told number node) (told_of numbers table number node (λ file. IsTrue (is_ef_kind file.kind)) has ef)
