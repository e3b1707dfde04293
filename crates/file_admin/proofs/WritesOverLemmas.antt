-- What a store holds once bytes were prepared and an entry was committed over them, by the change that they make.
use Rattle.std.proofs.Common.{◌≡◌, ◌⊎◌, ℕ, ◌+◌, ◌≤◌, zero, suc, true, List, [], ◌∷◌, replicate, Option, Some, None, option_map, Result, Ok, Err, IsTrue, refl, sym, ◌∙◌, ap, subst, inl, inr, ⊎_elim, arith}
use Rattle.std.proofs.lemmas.List.{length-replicate}
use Rattle.std.proofs.lemmas.Result.{on_ok_weaker, on_err_weaker}
use Rattle.list_laws.proofs.IfSomeLemmas.{if_some, if_some_at}
use Rattle.list_laws.proofs.PatchesLemmas.{patched-nil}
use Rattle.list_laws.specs.Patches.{Torn}
use Rattle.uicc_types.specs.Told.{Becomes}
use Rattle.uicc_types.specs.declared.answers.StatusWord.{StatusWord}
use Rattle.uicc_types.specs.declared.identifiers.FileId.{FileId}
use Rattle.store_form.specs.declared.store.StoreFault.{StoreFault}
use Rattle.store_form.specs.Pieces.{Piece, applied}
use Rattle.card_state.specs.declared.entries.Node.{Node}
use Rattle.card_state.specs.declared.shapes.Shape.{Shape}
use Rattle.card_state.specs.declared.shapes.Shape.TheVariants.{Transparent, Linear, Cyclic}
use Rattle.card_state.specs.Blank.{unused_node}
use Rattle.card_state.specs.Changes.{Change, MakeFile}
use Rattle.card_state.specs.Memory.{Memory, held, IsMounted}
use Rattle.card_state.specs.Kinds.{activated}
use Rattle.card_state.specs.NewFiles.{width_of}
use Rattle.card_state.specs.Persistent.{Records, File, Persistent}
use Rattle.card_state.specs.Places.{memory_size}
use Rattle.card_state.specs.Sections.{kind_of, size_of, is_shape, blank_contents}
use Rattle.card_state.specs.Standing.{Stands}
use Rattle.card_state.proofs.NewFileLemmas.{records_parts}
use Rattle.file_model.specs.declared.asked.NewFile.{NewFile}
use Rattle.file_model.specs.declared.asked.NewFile.TheVariants.{Df, Ef}
use Rattle.file_model.specs.declared.selections.Selection.{Selection}
use Rattle.file_model.specs.Creating.{rule_in, file_made}
use Rattle.file_model.specs.Templates.{may_be_made}
use Rattle.file_model.specs.TreeOutcomes.{TreeOutcome}
use Rattle.file_model.proofs.TemplatesLemmas.{parts_of}
use Rattle.layout_entries.specs.Laws.{after}
use Rattle.layout_entries.specs.Spelling.{node_part}
use Rattle.layout_laws.specs.Known.{StandingIsOfTable}
use Rattle.layout_laws.specs.Stores.{AgreeingStands}
use Rattle.card_commits.specs.Prepared.{filled}
use Rattle.card_commits.specs.Writing.{pieces_of, prepared_for, written, all_written, entry_with, entry_ruled, record_width, WritesPieces}
use Rattle.card_commits.proofs.CommitsOverLemmas.{changed_twice}
use Rattle.card_commits.proofs.FilledLemmas.{Told, IsWhole, KeepsTo, filled_keeps, torn_by}
use Rattle.card_commits.proofs.WritesAllLemmas.{none_written, one_written}
use Rattle.file_admin.specs.NewEntries.{node_made}
use Rattle.file_admin.specs.Outcomes.{changes_by, TreeComesTo}
use Rattle.file_admin.specs.Writes.{StopsPreparing, WritesTree, WritesOver}
use Rattle.file_admin.proofs.AnswersTreeLemmas.{of_held}

-- ---- a commit over what was prepared

pub writes_over : {T : Type 0} (old mid new : Memory) (prepared : List ℕ → List ℕ) (place count : ℕ) (piece : Piece) → mid.told ≡ option_map prepared old.told → KeepsTo place count prepared → IsWhole old.told → (result : Result T StoreFault)
    → WritesPieces mid new result (piece ∷ []) → WritesOver old new result prepared place count piece
writes_over old mid new prepared place count piece is keeps whole result wrote =
    let both : option_map (after piece) mid.told ≡ option_map (λ content. after piece (prepared content)) old.told = ap (option_map (after piece)) is ∙ changed_twice prepared (after piece) old.told in
    record {
      ok = on_ok_weaker result (λ put. put ∙ both) wrote.ok;
      stopped =
          on_err_weaker result
          (λ how. ⊎_elim {C = Becomes (Torn place count) old.told new.told ⊎ (new.told ≡ option_map (λ content. after piece (prepared content)) old.told)}
          (λ kept. inl (torn_by place count prepared keeps old.told new.told whole (kept ∙ is))) (λ put. inr (put ∙ both)) how) wrote.whole;
    }

torn_itself : (place : ℕ) (content : List ℕ) → Torn place 0 content content
torn_itself place content = record { same_length = refl; before = λ k low. refl; after = λ k high. refl }

-- bytes FF of a file, which has none where it is a DF
pub blank_keeps : (place count : ℕ) → (1 ≤ count → place + count ≤ memory_size) → KeepsTo place count (filled place count)
blank_keeps place zero inside content long = subst (Torn place 0 content) (sym (patched-nil place content)) (torn_itself place content)
blank_keeps place (suc count) inside content long = filled_keeps place (suc count) (inside (omega arith)) content long

-- ---- the entry of a file that is made

width_first : (width count : ℕ) → 1 ≤ count → record_width (Records (replicate count (replicate width 0xFF))) ≡ width
width_first width zero some = absurd (omega (arith, some))
width_first width (suc count) some = length-replicate {A = ℕ} width 255

width_made : (shape : Shape) → is_shape shape ≡ true → record_width (blank_contents shape) ≡ width_of shape
width_made (Transparent size) is = refl
width_made (Linear width count) is = width_first width count (records_parts width count is).1
width_made (Cyclic width count) is = width_first width count (records_parts width count is).1

abbrev plain_entry : ℕ → ℕ → FileId → Shape → ℕ → ℕ → Node
plain_entry place parent id shape short width = record unused_node {
  used = true;
  kind = kind_of shape;
  id = id;
  parent = parent;
  short = short;
  life = activated;
  place = place;
  size = size_of shape;
  length = width;
}

pub entry_made : (number df place : ℕ) (asked : NewFile) → IsTrue (may_be_made asked) → entry_with (file_made number df place asked) ≡ node_made df place asked
entry_made number df place (Df id) may = refl
entry_made number df place (Ef id shape short None) may =
    ap (λ (width : ℕ). plain_entry place df id shape short width) (width_made shape (parts_of id shape short None may).second)
entry_made number df place (Ef id shape short (Some rule)) may =
    ap (λ (width : ℕ). entry_ruled (Some (rule_in rule)) (plain_entry place df id shape short width)) (width_made shape (parts_of id shape short (Some rule) may).second)

pub place_made : (number df place : ℕ) (asked : NewFile) → (file_made number df place asked).place ≡ (node_made df place asked).place
place_made number df place (Df id) = refl
place_made number df place (Ef id shape short rule) = refl

pub size_made : (number df place : ℕ) (asked : NewFile) → (file_made number df place asked).size ≡ (node_made df place asked).size
size_made number df place (Df id) = refl
size_made number df place (Ef id shape short rule) = refl

-- what a new file's change writes
module _ (number df place : ℕ) (asked : NewFile) (may : IsTrue (may_be_made asked)) (node : Node) (is : node ≡ node_made df place asked) (named : (file_made number df place asked).number ≡ number) where
  abbrev file : File
  file = file_made number df place asked

  node_is : entry_with file ≡ node
  node_is = entry_made number df place asked may ∙ sym is

  lies : file.place ≡ node.place
  lies = place_made number df place asked ∙ ap (λ (n : Node). n.place) (sym is)

  fills : file.size ≡ node.size
  fills = size_made number df place asked ∙ ap (λ (n : Node). n.size) (sym is)

  made_written : (content : List ℕ) → written (MakeFile file) content ≡ after (node_part number node 0 16) (filled node.place node.size content)
  unfolding written pieces_of prepared_for
  made_written content = λ i. applied (node_part (named i) (node_is i) 0 16 ∷ []) (filled (lies i) (fills i) content)

  made_told : (told : Told) → option_map (λ content. after (node_part number node 0 16) (filled node.place node.size content)) told ≡ option_map (written (MakeFile file)) told
  made_told None = refl
  made_told (Some content) = ap (λ (list : List ℕ). let some : Told = Some list in some) (sym (made_written content))

  pub made_writes : {T : Type 0} (done : T) (status : StatusWord) (old new : Memory) → WritesOver old new (Ok done) (filled node.place node.size) node.place node.size (node_part number node 0 16) → WritesTree {E = StoreFault} (Ok status) old new (λ state. MakeFile file ∷ [])
  made_writes done status old new over = if_some (held old) _ (λ state there. over.ok ∙ made_told old.told ∙ one_written (MakeFile file) old.told)

  pub made_stops : {T : Type 0} (fault : StoreFault) (old new : Memory) → WritesOver {T = T} old new (Err fault) (filled node.place node.size) node.place node.size (node_part number node 0 16) → WritesTree {X = StatusWord} (Err fault) old new (λ state. MakeFile file ∷ [])
  made_stops fault old new over = if_some (held old) _ (λ state there.
      ⊎_elim {C = Becomes (Torn file.place file.size) old.told new.told ⊎ (new.told ≡ option_map (written (MakeFile file)) old.told)}
      (λ torn. inl (subst (λ (p : ℕ). Becomes (Torn p file.size) old.told new.told) (sym lies) (subst (λ (n : ℕ). Becomes (Torn node.place n) old.told new.told) (sym fills) torn)))
      (λ put. inr (put ∙ made_told old.told)) over.stopped)

-- ---- what a command has written

pub tree_alike : {X E : Type 0} (result : Result X E) (old new : Memory) (f g : Persistent → List Change) → ((state : Persistent) → held old ≡ Some state → f state ≡ g state) → WritesTree result old new g → WritesTree result old new f
tree_alike (Ok done) old new f g same writes =
    if_some (held old) _ (λ state is. if_some_at (held old) _ state writes is ∙ ap (λ (list : List Change). option_map (all_written list) old.told) (sym (same state is)))
tree_alike (Err fault) old new f g same writes =
    if_some (held old) _ (λ state is. subst (λ (list : List Change). StopsPreparing list old new) (sym (same state is)) (if_some_at (held old) _ state writes is))

module _ (of_table : StandingIsOfTable) (known : AgreeingStands) (before : Memory) (mounted : IsMounted before) (old : List (Option Selection)) (meaning : Persistent → Result TreeOutcome StatusWord) where
  -- it makes this change
  pub tree_makes : (changes : Persistent → List Change) → ((mark : ℕ) (content : List ℕ) (state : Persistent) → Stands mark content before.table state → changes_by old (meaning state) ≡ changes state) → {X E : Type 0} (result : Result X E) (after : Memory)
      → WritesTree result before after changes → WritesTree result before after (λ state. changes_by old (meaning state))
  tree_makes changes makes result after writes =
      tree_alike result before after (λ state. changes_by old (meaning state)) changes (λ state is. of_held of_table known before mounted (λ s. changes_by old (meaning s) ≡ changes s) makes state is) writes

  -- commands that come to the same write the same
  pub tree_comes : (other : Persistent → Result TreeOutcome StatusWord) → TreeComesTo before.table meaning other → {X E : Type 0} (result : Result X E) (after : Memory) → WritesTree result before after (λ state. changes_by old (other state))
      → WritesTree result before after (λ state. changes_by old (meaning state))
  tree_comes other comes result after writes = tree_makes (λ state. changes_by old (other state)) (λ mark content state stands. ap (changes_by old) (comes mark content state stands)) result after writes

  -- a refused command writes nothing
  pub tree_refused : (status : StatusWord) → TreeComesTo before.table meaning (λ state. Err status) → WritesTree {E = StoreFault} (Ok status) before before (λ state. changes_by old (meaning state))
  tree_refused status comes = tree_comes (λ state. Err status) comes (let done : Result StatusWord StoreFault = Ok status in done) before (if_some (held before) _ (λ state is. none_written before.told))
