-- What the entries of a table say of where there is room in its state.
use Rattle.std.proofs.Common.{get_or, ◌≡◌, ℕ, ◌+◌, ◌≤◌, ◌<◌, ◌^◌, Bool, true, false, cond, List, [], ◌∷◌, Option, Some, None, refl, ◌∙◌, ap, subst, ⊎_elim, arith, ◌⊎◌, ◌==◌, ◌&&◌, find, slice_get, Contains, IsTrue, option_and_then}
use Rattle.std.proofs.lemmas.Bool.{and_parts, and_from, both_ways, cond-true, cond-false}
use Rattle.std.proofs.lemmas.Option.{slice_get-get_or, get_or_from_slice_get, slice_get_within}
use Rattle.std.proofs.lemmas.List.Elements.{All-contains, Contains-get_or}
use Rattle.list_laws.proofs.FindLemmas.{find_Some}
use Rattle.card_state.specs.declared.entries.Node.{Node}
use Rattle.card_state.specs.declared.entries.Loaded.{Loaded}
use Rattle.card_state.specs.Kinds.{df_kind, is_ef_kind}
use Rattle.card_state.specs.Places.{data_place, data_end}
use Rattle.card_state.specs.Persistent.{File}
use Rattle.card_state.specs.States.{df_file, ef_file, file_of, state_of}
use Rattle.card_state.specs.StateLaws.{FilesAreEntries, FilesComeFromEntries, IsOfNode}
use Rattle.card_state.specs.Used.{HasNode, file_if}
use Rattle.card_state.proofs.IsEfKindLemmas.{not_df}
use Rattle.file_model.specs.Rooms.{IsRoom, share_a_byte}
use Rattle.file_model.specs.RoomTables.{is_node_in_the_way}
use Rattle.file_model.proofs.RoomsLemmas.{Shared, le_or_lt, shared, shares, either_place}

-- the entry of an EF stands for a file of its kind, in its place
pub ef_is : (content : List ℕ) (number : ℕ) (node : Node) → IsTrue (is_ef_kind node.kind) → file_of content number node ≡ ef_file content number node
ef_is content number node ef = cond-false (node.kind == df_kind) (df_file number node) (ef_file content number node) (not_df node.kind ef)

pub kind_is : (content : List ℕ) (number : ℕ) (node : Node) → (file_of content number node).kind ≡ node.kind
kind_is content number node = either (node.kind == df_kind) where
  either : (b : Bool) → (cond b (df_file number node) (ef_file content number node)).kind ≡ node.kind
  either true = refl
  either false = refl

-- the file of an entry that is used is among those of the state
file_there : (table : Loaded) (content : List ℕ) (number : ℕ) (node : Node) → FilesAreEntries → HasNode table number node → Contains (state_of table content).files (file_of content number node)
file_there table content number node law has =
    (find_Some (λ (file : File). file.number == number) (state_of table content).files (file_of content number node)
    (law table content number ∙ ap (option_and_then (file_if content number)) has.there ∙ cond-true node.used (Some (file_of content number node)) None has.used)).0

-- ---- an EF in the way

-- where the bytes have room, none is
pub none_in_the_way : (table : Loaded) (content : List ℕ) (size place : ℕ) → FilesAreEntries → IsRoom (state_of table content) size place
    → find (is_node_in_the_way place size) table.nodes ≡ None
none_in_the_way table content size place law room = either (find (is_node_in_the_way place size) table.nodes) refl where
  taken : (node : Node) → find (is_node_in_the_way place size) table.nodes ≡ Some node → ⊥
  taken node found =
      let known = find_Some (is_node_in_the_way place size) table.nodes node found in
      let number : ℕ = known.0.0 in
      let parts = and_parts (node.used && is_ef_kind node.kind) (share_a_byte place size node.place node.size) known.1 in
      let flags = and_parts node.used (is_ef_kind node.kind) parts.0 in
      let both : Shared place size node.place node.size = shared place size node.place node.size parts.1 in
      let there : slice_get table.nodes number ≡ Some node = slice_get-get_or table.nodes number node known.0.1 ∙ ap Some known.0.2 in
      let has : HasNode table number node = record { there = there; used = flags.0 } in
      let in_files : Contains (state_of table content).files (ef_file content number node) = subst (Contains (state_of table content).files) (ef_is content number node flags.1) (file_there table content number node law has) in
      All-contains (λ (file : File). IsTrue (is_ef_kind file.kind) → (byte : ℕ) → place ≤ byte → byte < place + size → file.place ≤ byte → byte < file.place + file.size → ⊥) (state_of table content).files (ef_file content number node) room.free in_files
      flags.1 both.byte both.after both.before both.other_after both.other_before

  either : (o : Option Node) → find (is_node_in_the_way place size) table.nodes ≡ o → o ≡ None
  either None is = refl
  either (Some node) is = absurd (taken node is)

-- where an EF is in the way, it is so up to its end
pub in_the_way_to_its_end : (size place other : ℕ) (node : Node) → is_node_in_the_way place size node ≡ true → is_node_in_the_way other size node ≡ false
    → place ≤ other → node.place + node.size ≤ other
in_the_way_to_its_end size place other node is is_not later =
    let parts = and_parts (node.used && is_ef_kind node.kind) (share_a_byte place size node.place node.size) is in
    let both : Shared place size node.place node.size = shared place size node.place node.size parts.1 in
    let at = λ (byte : ℕ) (after : other ≤ byte) (before : byte < other + size) (from : node.place ≤ byte) (to : byte < node.place + node.size).
    both_ways (is_node_in_the_way other size node) is_not
    (and_from (node.used && is_ef_kind node.kind) (share_a_byte other size node.place node.size) parts.0 (shares other size node.place node.size byte after before from to)) in
    ⊎_elim {C = node.place + node.size ≤ other} (λ done. done)
    (λ inside. ⊎_elim {C = node.place + node.size ≤ other}
    (λ above. absurd (at node.place above (omega (arith, both.before, both.other_after, later)) (omega arith) (omega (arith, both.other_after, both.other_before))))
    (λ below. absurd (at other (omega arith) (omega (arith, both.after, both.before)) (omega (arith, below)) inside))
    (le_or_lt other node.place))
    (le_or_lt (node.place + node.size) other)

-- ---- no EF in the way

fails_first : {X : Type 0} (p : X → Bool) (y x : X) (ys : List X) (b : Bool) → p y ≡ b → cond b (Some y) (find p ys) ≡ None → (y ≡ x) ⊎ Contains ys x → (find p ys ≡ None → Contains ys x → p x ≡ false) → p x ≡ false
fails_first p y x ys true is none place rest = cc
fails_first p y x ys false is none place rest = ⊎_elim {C = p x ≡ false} (λ same. subst (λ z. p z ≡ false) same is) (λ later. rest none later) place

pub none_found : {X : Type 0} (p : X → Bool) (xs : List X) (x : X) → find p xs ≡ None → Contains xs x → p x ≡ false
none_found p [] x none there = absurd (omega (arith, there.1))
none_found p (y ∷ ys) x none there = fails_first p y x ys (p y) refl none (either_place y ys x there) (λ rest later. none_found p ys x rest later)

pub way_clear : (table : Loaded) (content : List ℕ) (size place : ℕ) → FilesComeFromEntries → data_place ≤ place → place + size ≤ data_end table.wide
    → find (is_node_in_the_way place size) table.nodes ≡ None → IsRoom (state_of table content) size place
unfolding state_of
way_clear table content size place law from to none = record {
  from = from;
  to = to;
  free = λ k d low ef byte after before other_after other_before. clear (get_or (state_of table content).files k d) (law table content (get_or (state_of table content).files k d) (Contains-get_or (state_of table content).files k d low)) ef byte after before other_after other_before;
} where
  clear : (file : File) → IsOfNode table content file → IsTrue (is_ef_kind file.kind) → (byte : ℕ) → place ≤ byte → byte < place + size → file.place ≤ byte → byte < file.place + file.size → ⊥
  clear file of ef byte after before other_after other_before =
      let node : Node = of.node in
      let is_ef : IsTrue (is_ef_kind node.kind) = subst (λ (k : ℕ). IsTrue (is_ef_kind k)) (ap (λ (f : File). f.kind) of.same ∙ kind_is content file.number node) ef in
      let same : file ≡ ef_file content file.number node = of.same ∙ ef_is content file.number node is_ef in
      let begins : file.place ≡ node.place = ap (λ (f : File). f.place) same in
      let long : file.size ≡ node.size = ap (λ (f : File). f.size) same in
      let there : Contains table.nodes node = (file.number, slice_get_within table.nodes file.number node of.has.there, get_or_from_slice_get table.nodes file.number node node of.has.there) in
      both_ways (is_node_in_the_way place size node) (none_found (is_node_in_the_way place size) table.nodes node none there)
      (and_from (node.used && is_ef_kind node.kind) (share_a_byte place size node.place node.size) (and_from node.used (is_ef_kind node.kind) of.has.used is_ef)
      (shares place size node.place node.size byte after before (omega arith) (omega arith)))

-- ---- the search

-- ---- the search through the table

-- how far it has come, where these entries are left
pub record IsBehind (nodes rest : List Node) (place size behind : ℕ) : Type 0 where
  pub later : place ≤ behind
  pub low : behind < 2 ^ 17
  pub clear : behind ≡ place → find (is_node_in_the_way place size) nodes ≡ find (is_node_in_the_way place size) rest
  pub empty : size ≡ 0 → behind ≡ place
  pub skipped : (other : ℕ) → find (is_node_in_the_way other size) nodes ≡ None → place ≤ other → behind ≤ other

-- the next one is in the way
pub behind_one : (nodes rest : List Node) (place size behind : ℕ) (node : Node) → IsBehind nodes (node ∷ rest) place size behind → Contains nodes node
    → is_node_in_the_way behind size node ≡ true → node.place + node.size < 2 ^ 17 → IsBehind nodes rest place size (node.place + node.size)
behind_one nodes rest place size behind node so_far there is low =
    let parts = and_parts (node.used && is_ef_kind node.kind) (share_a_byte behind size node.place node.size) is in
    let both : Shared behind size node.place node.size = shared behind size node.place node.size parts.1 in
    let more : behind < node.place + node.size = omega (arith, both.after, both.other_before) in
    record {
      later = omega (arith, more, so_far.later);
      low = low;
      clear = λ same. absurd (omega (arith, same, more, so_far.later));
      empty = λ none. absurd (omega (arith, none, both.after, both.before));
      skipped = λ other free after. in_the_way_to_its_end size behind other node is (none_found (is_node_in_the_way other size) nodes node free there) (so_far.skipped other free after);
    }

-- it isn't
pub beside_one : (nodes rest : List Node) (place size behind : ℕ) (node : Node) → IsBehind nodes (node ∷ rest) place size behind
    → is_node_in_the_way behind size node ≡ false → IsBehind nodes rest place size behind
beside_one nodes rest place size behind node so_far is = record {
  later = so_far.later;
  low = so_far.low;
  clear = λ same. so_far.clear same ∙ cond-false (is_node_in_the_way place size node) (Some node) (find (is_node_in_the_way place size) rest)
      (subst (λ (n : ℕ). is_node_in_the_way n size node ≡ false) same is);
  empty = so_far.empty;
  skipped = so_far.skipped;
}

-- a place from which so many bytes reach beyond those of the files is too late
pub too_late : (table : Loaded) (content : List ℕ) (size place end other : ℕ) → end ≡ data_end table.wide → end < place + size → IsRoom (state_of table content) size other → place ≤ other → ⊥
unfolding state_of
too_late table content size place end other is beyond room later = omega (arith, room.to)
