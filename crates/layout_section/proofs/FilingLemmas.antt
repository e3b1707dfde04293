-- The files of a section, as a contract sees them.
use Rattle.std.proofs.Common.{zero, suc, get_or, ◌≡◌, ◌≢◌, ℕ, ◌+◌, ◌-◌, ◌≤◌, ◌<◌, Bool, true, false, cond, List, [], ◌∷◌, ◌++◌, length, take, map, refl, sym, ◌∙◌, ap, subst, inl, inr, ⊎_elim, arith, Vec, Global, ◌⊎◌, ◌&&◌, ◌||◌, ◌==◌, not, find, nat_le, slice_get, Option, Some, None}
use Rattle.std.specs.Option.{option_map_or}
use Rattle.std.proofs.lemmas.Option.{slice_get-get_or}
use Rattle.std.specs.Vec.{with_items}
use Rattle.std.specs.List.{list_any}
use Rattle.std.proofs.lemmas.Bool.{cases_lt, cases_eq, eq-eqb, ne_eqb, or_parts, or_from, or_left, or_right, or_cases, and_from, and_right, and_parts, not_from_false, not-true, both_ways}
use Rattle.std.proofs.lemmas.List.{same_lists, get_or-map, length-map, length_push, get_or_append_left, get_or_push, get_or-take, take-take, take-append-le, take_at, length-take, with_items_is}
use Rattle.std.proofs.lemmas.List.Sums.{sum_by_push, sum_by_more_le}
use Rattle.std.proofs.lemmas.List.Recursion.{found_at, found_nowhere, or_from_places}
use Rattle.list_laws.specs.Patches.{patched}
use Rattle.list_laws.proofs.PatchesLemmas.{range-patched_apart}
use Rattle.uicc_types.specs.declared.identifiers.FileId.{FileId}
use Rattle.card_state.specs.Ranges.{HasNodeRanges}
use Rattle.card_state.specs.declared.entries.Node.{Node}
use Rattle.card_state.specs.Blank.{unused_node}
use Rattle.card_state.specs.Kinds.{df_kind, is_ef_kind, mf_id, current_adf_id}
use Rattle.card_state.specs.Places.{data_place}
use Rattle.card_state.specs.Persistent.{Contents, File}
use Rattle.card_state.specs.Decoding.{bytes_at}
use Rattle.card_state.specs.States.{contents_in}
use Rattle.card_state.specs.Checks.{has_place_in_tree, has_own_short, has_own_id, has_id_of, has_parent, is_used_df, is_sibling, is_known_kind, is_free_id, is_new_short, has_short_of}
use Rattle.card_state.specs.Soundness.{mf}
use Rattle.card_state.specs.Sections.{child_of, byte_total_of, refilled}
use Rattle.card_state.specs.NewFiles.{df_node}
use Rattle.layout_section.specs.Entries.{is_child, has_short, HasNoChild, IsFirstChild}
use Rattle.layout_section.specs.Adding.{file_numbered, IsAt, IsFound, IsPlaceIn, is_short_for}
use Rattle.layout_section.specs.Filing.{all_bytes, file_in, files_in, size_total, IsNodeBehind, AreFilesOf}
use Rattle.layout_section.proofs.NumberedLemmas.{length-numbered, numbered_there, numbered_push, sum_by-numbered, list_any-numbered}

-- ---- what is read off the files

module _ (bytes : List ℕ) (nodes : List Node) where
  abbrev files : List File
  files = files_in bytes nodes

  pub length-files : length files ≡ length nodes
  length-files = length-numbered (file_in bytes) nodes

  pub file_there : (k : ℕ) (d : Node) → k < length nodes → file_numbered files k ≡ file_in bytes k (get_or nodes k d)
  file_there k d low = numbered_there (file_in bytes) nodes k d mf low

  pub total_is : byte_total_of files ≡ size_total nodes
  total_is = sum_by-numbered (file_in bytes) (λ file. file.size) (λ node. node.size) (λ k node. refl) 0 nodes

  pub short_is : (df short : ℕ) → list_any (λ file. is_ef_kind file.kind && file.parent == df && file.short == short) files ≡ list_any (has_short df short) nodes
  short_is df short = list_any-numbered (file_in bytes) (λ file. is_ef_kind file.kind && file.parent == df && file.short == short) (has_short df short) (λ k node. refl) 0 nodes

  pub number_is : (k : ℕ) → k < length nodes → IsAt files (file_numbered files k) k
  number_is k low = record { low = omega (arith, length-files); is = refl; own = ap (λ (file : File). file.number) (file_there k unused_node low) }

  abbrev test : ℕ → FileId → File → Bool
  test df id file = not (file.number == 0) && file.parent == df && file.id == id.0

  test_is : (df : ℕ) (id : FileId) (k : ℕ) → 1 ≤ k → k < length nodes → test df id (file_numbered files k) ≡ is_child df id (get_or nodes k unused_node)
  test_is df id k some low =
      ap (test df id) (file_there k unused_node low) ∙ ap (λ b. not b && (get_or nodes k unused_node).parent == df && (get_or nodes k unused_node).id.0 == id.0) (ne_eqb k 0 (λ e. omega arith))

  test_first : (df : ℕ) (id : FileId) → 0 < length nodes → test df id (file_numbered files 0) ≡ false
  test_first df id low = ap (test df id) (file_there 0 unused_node low)

  none_before : (df : ℕ) (id : FileId) (end : ℕ) → end ≤ length nodes → HasNoChild df id nodes end → (k : ℕ) → k < end → test df id (file_numbered files k) ≡ false
  none_before df id end within none zero low = test_first df id (omega arith)
  none_before df id end within none (suc k) low = test_is df id (suc k) (omega arith) (omega arith) ∙ none (suc k) (omega arith) low

  pub child_found : (df : ℕ) (id : FileId) (number : ℕ) → IsFirstChild df id nodes number → IsFound files (child_of files df id) (Some number)
  child_found df id number is =
      let found : child_of files df id ≡ Some (file_numbered files number) =
      found_at (find (test df id)) (test df id) (λ file. Some file) None refl (λ _ _. refl) files number mf (omega (arith, is.low, length-files))
      (none_before df id number (omega (arith, is.low)) is.before) (test_is df id number is.some is.low ∙ is.here) in
      subst (λ (o : Option File). IsFound files o (Some number)) (sym found) (number_is number is.low)

  pub child_missing : (df : ℕ) (id : FileId) → HasNoChild df id nodes (length nodes) → IsFound files (child_of files df id) None
  child_missing df id none =
      let nowhere : child_of files df id ≡ None =
      found_nowhere (find (test df id)) (test df id) (λ file. Some file) None refl (λ _ _. refl) files mf
      (λ k low. none_before df id (length nodes) (omega arith) none k (omega (arith, length-files))) in
      subst (λ (o : Option File). IsFound files o None) (sym nowhere) tt

-- ---- one file more

pub filed_push : (nodes : List Node) (bytes bytes' : List ℕ) (total total' : ℕ) (node : Node) → AreFilesOf nodes bytes total → length bytes' ≡ length bytes → total' ≡ total + node.size
    → total' ≤ length bytes → IsNodeBehind total node → has_place_in_tree nodes node ≡ true → (is_ef_kind node.kind ≡ true → has_own_short nodes node ≡ true) → HasNodeRanges node
    → AreFilesOf (nodes ++ node ∷ []) bytes' total'
filed_push nodes bytes bytes' total total' node are long more fits new tree short ranges = record {
  some = omega (arith, length_push nodes node);
  sum = omega (arith, more, are.sum, sum_by_push (λ (n : Node). n.size) nodes node);
  fits = omega arith;
  long = long ∙ are.long;
  mf = get_or_append_left nodes (node ∷ []) unused_node 0 (omega (arith, are.some)) ∙ are.mf;
  each = λ k low.
      ⊎_elim {C = IsNodeBehind (size_total (take k (nodes ++ node ∷ []))) (get_or (nodes ++ node ∷ []) k unused_node)}
      (λ before.
      subst (λ (l : List Node). IsNodeBehind (size_total l) (get_or (nodes ++ node ∷ []) k unused_node)) (sym (take-append-le k nodes (node ∷ []) (omega arith)))
      (subst (IsNodeBehind (size_total (take k nodes))) (sym (get_or_append_left nodes (node ∷ []) unused_node k before)) (are.each k before)))
      (λ high.
      let at : length nodes ≡ k = omega (arith, length_push nodes node) in
      subst (λ (l : List Node). IsNodeBehind (size_total l) (get_or (nodes ++ node ∷ []) k unused_node)) (sym (take_at nodes (node ∷ []) k at))
      (subst (λ (n : ℕ). IsNodeBehind n (get_or (nodes ++ node ∷ []) k unused_node)) are.sum (subst (IsNodeBehind total) (sym (get_or_push nodes node unused_node k at)) new)))
      (cases_lt k (length nodes));
  tree = λ k some low.
      ⊎_elim {C = has_place_in_tree (take k (nodes ++ node ∷ [])) (get_or (nodes ++ node ∷ []) k unused_node) ≡ true}
      (λ before. ap (λ (l : List Node). has_place_in_tree l (get_or (nodes ++ node ∷ []) k unused_node)) (take-append-le k nodes (node ∷ []) (omega arith))
      ∙ ap (has_place_in_tree (take k nodes)) (get_or_append_left nodes (node ∷ []) unused_node k before) ∙ are.tree k some before)
      (λ high.
      let at : length nodes ≡ k = omega (arith, length_push nodes node) in
      ap (λ (l : List Node). has_place_in_tree l (get_or (nodes ++ node ∷ []) k unused_node)) (take_at nodes (node ∷ []) k at)
      ∙ ap (has_place_in_tree nodes) (get_or_push nodes node unused_node k at) ∙ tree)
      (cases_lt k (length nodes));
  short = λ k low ef.
      ⊎_elim {C = has_own_short (take k (nodes ++ node ∷ [])) (get_or (nodes ++ node ∷ []) k unused_node) ≡ true}
      (λ before. let same : get_or (nodes ++ node ∷ []) k unused_node ≡ get_or nodes k unused_node = get_or_append_left nodes (node ∷ []) unused_node k before in
      ap (λ (l : List Node). has_own_short l (get_or (nodes ++ node ∷ []) k unused_node)) (take-append-le k nodes (node ∷ []) (omega arith))
      ∙ ap (has_own_short (take k nodes)) same ∙ are.short k before (sym (ap (λ (n : Node). is_ef_kind n.kind) same) ∙ ef))
      (λ high.
      let at : length nodes ≡ k = omega (arith, length_push nodes node) in
      let same : get_or (nodes ++ node ∷ []) k unused_node ≡ node = get_or_push nodes node unused_node k at in
      ap (λ (l : List Node). has_own_short l (get_or (nodes ++ node ∷ []) k unused_node)) (take_at nodes (node ∷ []) k at)
      ∙ ap (has_own_short nodes) same ∙ short (sym (ap (λ (n : Node). is_ef_kind n.kind) same) ∙ ef))
      (cases_lt k (length nodes));
  ranges = λ k low.
      ⊎_elim {C = HasNodeRanges (get_or (nodes ++ node ∷ []) k unused_node)}
      (λ before. subst HasNodeRanges (sym (get_or_append_left nodes (node ∷ []) unused_node k before)) (are.ranges k before))
      (λ high. let at : length nodes ≡ k = omega (arith, length_push nodes node) in subst HasNodeRanges (sym (get_or_push nodes node unused_node k at)) ranges) (cases_lt k (length nodes));
}

-- ---- a file's place in the tree

none_found : {X : Type 0} (p : X → Bool) (xs : List X) (k : ℕ) (d : X) → find p xs ≡ None → k < length xs → p (get_or xs k d) ≡ false
none_found p [] k d none low = absurd (omega arith)
none_found p (x ∷ xs) zero d none low = first_step (p x) none where
  first_step : (b : Bool) → cond b (Some x) (find p xs) ≡ None → b ≡ false
  first_step true none = absurd (cc none)
  first_step false none = refl
none_found p (x ∷ xs) (suc k) d none low = none_found p xs k d (rest_step (p x) none) (omega arith) where
  rest_step : (b : Bool) → cond b (Some x) (find p xs) ≡ None → find p xs ≡ None
  rest_step true none = absurd (cc none)
  rest_step false none = none

any_weaker : {X : Type 0} (p q : X → Bool) → ((x : X) → q x ≡ false → p x ≡ false) → (xs : List X) → list_any q xs ≡ false → list_any p xs ≡ false
any_weaker p q each [] none = refl
any_weaker p q each (x ∷ xs) none =
    let parts = or_parts (q x) (list_any q xs) none in
    or_from (p x) (list_any p xs) (each x parts.0) (any_weaker p q each xs parts.1)

sibling_step : (used parent id : Bool) → (parent && id) ≡ false → (used && parent && id) ≡ false
sibling_step true parent id is = is
sibling_step false parent id is = refl

short_step : (ef used parent short : Bool) → (ef && parent && short) ≡ false → (used && parent && ef && short) ≡ false
short_step true true parent short is = and_again parent short is where
  and_again : (a b : Bool) → (a && b) ≡ false → (a && true && b) ≡ false
  and_again true b is = is
  and_again false b is = refl
short_step true false parent short is = refl
short_step false true true short is = refl
short_step false true false short is = refl
short_step false false parent short is = refl

module _ (bytes : List ℕ) (nodes : List Node) (total : ℕ) (are : AreFilesOf nodes bytes total) (parent : ℕ) (id : FileId) (place : IsPlaceIn (files_in bytes nodes) parent id) where
  inside_nodes : parent < length nodes
  inside_nodes = omega (arith, place.low, length-files bytes nodes)

  used_at : (k : ℕ) → k < length nodes → (get_or nodes k unused_node).used ≡ true
  used_at k low = ⊎_elim {C = (get_or nodes k unused_node).used ≡ true} (λ df. ap (λ (n : Node). n.used) df) (λ ef. ef.used) (are.each k low)

  parent_there : (node : Node) → node.parent ≡ parent → has_parent nodes node ≡ true
  parent_there node at =
      let kind : (get_or nodes parent unused_node).kind ≡ df_kind = sym (ap (λ (file : File). file.kind) (file_there bytes nodes parent unused_node inside_nodes)) ∙ place.is_df in
      ap (λ (n : ℕ). option_map_or is_used_df (slice_get nodes n) false) at ∙ ap (λ (o : Option Node). option_map_or is_used_df o false) (slice_get-get_or nodes parent unused_node inside_nodes)
      ∙ and_from (get_or nodes parent unused_node).used ((get_or nodes parent unused_node).kind == df_kind) (used_at parent inside_nodes) (eq-eqb (get_or nodes parent unused_node).kind df_kind kind)

  not_mf : id.0 ≢ mf_id
  not_mf same = both_ways (id.0 == mf_id) (not-true (id.0 == mf_id) (and_parts (not (id.0 == mf_id)) (not (id.0 == current_adf_id)) place.free).0) (eq-eqb id.0 mf_id same)

  id_new : (node : Node) → node.parent ≡ parent → node.id ≡ id → has_own_id nodes node ≡ true
  id_new node at same =
      not_from_false (list_any (has_id_of node) nodes)
      (or_from_places (list_any (has_id_of node)) (has_id_of node) refl (λ _ _. refl) nodes unused_node
      (λ k low. ⊎_elim {C = has_id_of node (get_or nodes k unused_node) ≡ false} (λ first. other_mf k first low) (λ later. other k (omega arith) low) (cases_eq k 0))) where
        other_mf : (k : ℕ) → k ≡ 0 → k < length nodes → has_id_of node (get_or nodes k unused_node) ≡ false
        other_mf k first low =
            ap (λ (n : ℕ). has_id_of node (get_or nodes n unused_node)) first ∙ ap (has_id_of node) are.mf
            ∙ and_right (is_sibling node (df_node 0 (record { 0 = mf_id }))) (mf_id == node.id.0) (ne_eqb mf_id node.id.0 (λ e. not_mf (sym (e ∙ ap (λ (i : FileId). i.0) same))))

        other : (k : ℕ) → 1 ≤ k → k < length nodes → has_id_of node (get_or nodes k unused_node) ≡ false
        other k some low =
            let them : Node = get_or nodes k unused_node in
            let none : is_child parent id (get_or nodes k unused_node) ≡ false =
            sym (test_is bytes nodes parent id k some low) ∙ none_found (test bytes nodes parent id) (files_in bytes nodes) k mf place.new (omega (arith, length-files bytes nodes)) in
            ap (λ (n : ℕ). (get_or nodes k unused_node).used && (get_or nodes k unused_node).parent == n && (get_or nodes k unused_node).id.0 == node.id.0) at
            ∙ ap (λ (i : FileId). (get_or nodes k unused_node).used && (get_or nodes k unused_node).parent == parent && (get_or nodes k unused_node).id.0 == i.0) same
            ∙ sibling_step (get_or nodes k unused_node).used ((get_or nodes k unused_node).parent == parent) ((get_or nodes k unused_node).id.0 == id.0) none

  pub tree_for : (node : Node) → node.parent ≡ parent → node.id ≡ id → is_known_kind node.kind ≡ true → has_place_in_tree nodes node ≡ true
  tree_for node at same known =
      and_from (is_known_kind node.kind && is_free_id node.id.0 && has_own_id nodes node) (has_parent nodes node)
      (and_from (is_known_kind node.kind && is_free_id node.id.0) (has_own_id nodes node)
      (and_from (is_known_kind node.kind) (is_free_id node.id.0) known (ap (λ (i : FileId). is_free_id i.0) same ∙ place.free)) (id_new node at same))
      (parent_there node at)

  pub short_for : (node : Node) → node.parent ≡ parent → is_short_for (files_in bytes nodes) parent node.short ≡ true → has_own_short nodes node ≡ true
  short_for node at may =
      let parts = and_parts (nat_le node.short 30) (node.short == 0 || not (list_any (λ file. is_ef_kind file.kind && file.parent == parent && file.short == node.short) (files_in bytes nodes))) may in
      and_from (nat_le node.short 30) (node.short == 0 || is_new_short nodes node) parts.0
      (⊎_elim {C = (node.short == 0 || is_new_short nodes node) ≡ true} (λ none. or_left (node.short == 0) (is_new_short nodes node) none)
      (λ free.
      or_right (node.short == 0) (is_new_short nodes node)
      (not_from_false (list_any (has_short_of node) nodes)
      (any_weaker (has_short_of node) (has_short parent node.short)
      (λ x none. ap (λ (n : ℕ). x.used && x.parent == n && is_ef_kind x.kind && x.short == node.short) at ∙ short_step (is_ef_kind x.kind) x.used (x.parent == parent) (x.short == node.short) none) nodes
      (sym (short_is bytes nodes parent node.short) ∙ not-true (list_any (λ file. is_ef_kind file.kind && file.parent == parent && file.short == node.short) (files_in bytes nodes)) free))))
      (or_cases (node.short == 0) (not (list_any (λ file. is_ef_kind file.kind && file.parent == parent && file.short == node.short) (files_in bytes nodes))) parts.1))

pub files_push : (bytes : List ℕ) (nodes : List Node) (node : Node) → files_in bytes (nodes ++ node ∷ []) ≡ files_in bytes nodes ++ file_in bytes (length nodes) node ∷ []
files_push bytes nodes node = numbered_push (file_in bytes) 0 nodes node ∙ ap (λ k. files_in bytes nodes ++ file_in bytes k node ∷ []) (omega arith)

-- ---- other bytes

abbrev pub held : List ℕ → Node → Contents
held bytes node = contents_in (bytes_at bytes (node.place - data_place) node.size) node

with_held : (old new : List ℕ) (k : ℕ) (node : Node) (contents : Contents) → held new node ≡ contents → file_in new k node ≡ record (file_in old k node) { contents = contents }
with_held old new k node contents is = ap (λ (c : Contents). let file : File = record (file_in old k node) { contents = c } in file) is

pub same_files : (old new : List ℕ) (nodes : List Node) → ((k : ℕ) → k < length nodes → held new (get_or nodes k unused_node) ≡ held old (get_or nodes k unused_node)) → files_in new nodes ≡ files_in old nodes
same_files old new nodes each =
    same_lists (files_in new nodes) (files_in old nodes) (length-files new nodes ∙ sym (length-files old nodes))
    (λ k d h.
    let low : k < length nodes = omega (arith, length-files new nodes) in
    numbered_there (file_in new) nodes k unused_node d low ∙ with_held old new k (get_or nodes k unused_node) (held old (get_or nodes k unused_node)) (each k low)
    ∙ sym (numbered_there (file_in old) nodes k unused_node d low))

pub rewritten : (old new : List ℕ) (nodes : List Node) (number : ℕ) (contents : Contents) → number < length nodes → held new (get_or nodes number unused_node) ≡ contents
    → ((k : ℕ) → k < length nodes → k ≢ number → held new (get_or nodes k unused_node) ≡ held old (get_or nodes k unused_node)) → files_in new nodes ≡ map (refilled number contents) (files_in old nodes)
rewritten old new nodes number contents inside is others =
    let before : length (files_in old nodes) ≡ length nodes = length-files old nodes in
    same_lists (files_in new nodes) (map (refilled number contents) (files_in old nodes)) (length-files new nodes ∙ sym (length-map (files_in old nodes) (refilled number contents) ∙ before))
    (λ k d h.
    let low : k < length nodes = omega (arith, length-files new nodes) in
    let node : Node = get_or nodes k unused_node in
    let then : get_or (map (refilled number contents) (files_in old nodes)) k d ≡ refilled number contents (file_in old k node) =
    get_or-map (refilled number contents) (files_in old nodes) k d d (omega arith) ∙ ap (refilled number contents) (numbered_there (file_in old) nodes k unused_node d low) in
    numbered_there (file_in new) nodes k unused_node d low
    ∙ ⊎_elim {C = file_in new k node ≡ refilled number contents (file_in old k node)}
    (λ same.
    with_held old new k node contents (ap (λ (n : ℕ). held new (get_or nodes n unused_node)) same ∙ is)
    ∙ sym (ap (λ b. let file : File = cond b (record (file_in old k node) { contents = contents }) (file_in old k node) in file) (eq-eqb k number same)))
    (λ other.
    with_held old new k node (held old node) (others k low other)
    ∙ sym (ap (λ b. let file : File = cond b (record (file_in old k node) { contents = contents }) (file_in old k node) in file) (ne_eqb k number other)))
    (cases_eq k number)
    ∙ sym then)

-- ---- files lie apart

-- a file ends before those after it begin
pub ends_before : (nodes : List Node) (j k : ℕ) → j < k → k ≤ length nodes → size_total (take j nodes) + (get_or nodes j unused_node).size ≤ size_total (take k nodes)
ends_before nodes j k less within =
    let long : length (take k nodes) ≡ k = omega (arith, length-take k nodes) in
    omega (
      arith,
      sum_by_more_le (λ (node : Node). node.size) (take k nodes) j unused_node (omega arith),
      ap size_total (take-take j k nodes (omega arith)),
      ap (λ (node : Node). node.size) (get_or-take k nodes j unused_node less),
    )

-- a DF holds the same over any bytes
df_held : (old new : List ℕ) (node : Node) → node ≡ df_node node.parent node.id → held new node ≡ held old node
df_held old new node is = ap (held new) is ∙ sym (ap (held old) is)

-- a file whose bytes lie outside a range that others are put into
pub held_apart : (old part : List ℕ) (at before : ℕ) (node : Node) → at + length part ≤ length old → IsNodeBehind before node → before + node.size ≤ length old
    → (before + node.size ≤ at) ⊎ (at + length part ≤ before) → held (patched at part old) node ≡ held old node
held_apart old part at before node fits (inl df) inside apart = df_held old (patched at part old) node df
held_apart old part at before node fits (inr ef) inside apart =
    let start : node.place - data_place ≡ before = omega (arith, ef.place) in
    ap (λ (l : List ℕ). contents_in l node)
    (ap (λ (n : ℕ). bytes_at (patched at part old) n node.size) start ∙ range-patched_apart at part old fits before node.size inside apart ∙ sym (ap (λ (n : ℕ). bytes_at old n node.size) start))

-- all files but one, where bytes are put inside that one
pub others_held : (nodes : List Node) (bytes : List ℕ) (total : ℕ) → AreFilesOf nodes bytes total → (number at : ℕ) (part : List ℕ) → number < length nodes
    → size_total (take number nodes) ≤ at → at + length part ≤ size_total (take number nodes) + (get_or nodes number unused_node).size
    → (k : ℕ) → k < length nodes → k ≢ number → held (patched at part bytes) (get_or nodes k unused_node) ≡ held bytes (get_or nodes k unused_node)
others_held nodes bytes total are number at part inside from to k low other =
    let whole : (j : ℕ) → j < length nodes → size_total (take j nodes) + (get_or nodes j unused_node).size ≤ length bytes =
    λ j below. omega (arith, sum_by_more_le (λ (node : Node). node.size) nodes j unused_node below, are.sum, are.fits) in
    held_apart bytes part at (size_total (take k nodes)) (get_or nodes k unused_node) (omega (arith, whole number inside)) (are.each k low) (whole k low)
    (⊎_elim {C = (size_total (take k nodes) + (get_or nodes k unused_node).size ≤ at) ⊎ (at + length part ≤ size_total (take k nodes))}
    (λ before. inl (omega (arith, ends_before nodes k number before (omega arith)))) (λ after. inr (omega (arith, ends_before nodes number k (omega arith) (omega arith)))) (cases_lt k number))

-- ---- the table of which so many nodes are used

pub used_count : (nodes : List Node) (count : ℕ) → count ≤ 128 → length nodes ≡ 128 → length (take count nodes) ≡ count
used_count nodes count few long = omega (arith, length-take count nodes)

pub file_count : (bytes : List ℕ) (nodes : List Node) (count : ℕ) (seen : List File) → files_in bytes (take count nodes) ≡ seen → count ≤ 128 → length nodes ≡ 128 → length seen ≡ count
file_count bytes nodes count seen is few long = sym (ap (λ (l : List File). length l) is) ∙ length-files bytes (take count nodes) ∙ used_count nodes count few long

pub mf_filed : (bytes : List ℕ) → length bytes ≡ all_bytes → AreFilesOf (df_node 0 (record { 0 = mf_id }) ∷ []) bytes 0
mf_filed bytes long = record {
  some = omega arith;
  sum = refl;
  fits = omega arith;
  long = long;
  mf = refl;
  each = λ k low.
      let first : 0 ≡ k = omega arith in
      inl (subst (λ (n : ℕ). let node : Node = get_or (df_node 0 (record { 0 = mf_id }) ∷ []) n unused_node in node ≡ df_node node.parent node.id) first refl);
  tree = λ k some low. absurd (omega arith);
  short = λ k low ef.
      let first : k ≡ 0 = omega arith in
      absurd (cc (sym (ap (λ (n : ℕ). is_ef_kind (get_or (df_node 0 (record { 0 = mf_id }) ∷ []) n unused_node).kind) first) ∙ ef));
  ranges = λ k low.
      let first : 0 ≡ k = omega arith in
      subst (λ (n : ℕ). HasNodeRanges (get_or (df_node 0 (record { 0 = mf_id }) ∷ []) n unused_node)) first (record { id = omega arith; arr = omega arith; place = omega arith; size = omega arith });
}

pub file_total : (bytes : List ℕ) (nodes : List Node) (total : ℕ) (seen : List File) → files_in bytes nodes ≡ seen → AreFilesOf nodes bytes total → byte_total_of seen ≡ total
file_total bytes nodes total seen is are = sym (ap byte_total_of is) ∙ total_is bytes nodes ∙ sym are.sum

-- ---- the bytes of a Vec that were written

pub items_are : (bytes : Vec ℕ Global) (now : List ℕ) → length now ≡ length bytes.items → (with_items bytes now).items ≡ now
items_are bytes now long = with_items_is bytes now (long ∙ omega (arith, bytes.ok))
