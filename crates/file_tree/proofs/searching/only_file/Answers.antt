-- Each wanted file has this number, so the entries of other numbers fail, and the search of all finds this entry's file or none.
use Rattle.std.proofs.Common.{◌≡◌, ℕ, Bool, true, false, Some, length, ap, ◌∙◌, sym, subst, arith, ◌&&◌}
use Rattle.card_state.specs.declared.entries.Node.{Node}
use Rattle.file_model.specs.Files.{descriptor_of, descriptors_of, is_wanted}
use Rattle.file_tree.specs.Tables.{IsNumbered}
use Rattle.file_tree.proofs.FirstFileLemmas.{entry_found, no_entry_found, has_entry, entry_numbered, other_fails, one_fails, passes, entry_at}
use Rattle.file_tree.proofs.searching.only_file.Goals.{else-node-via-then-node+else-is_wanted, else-node-via-else-node}
use Rattle.file_tree.proofs.searching.only_file.Goals as goal

pub returns-then-from-ge-NODE_COUNT-clause-value : goal.returns-then-from-ge-NODE_COUNT-clause-value
returns-then-from-ge-NODE_COUNT-clause-value c =
    let nodes = c.args.loaded.now.nodes in
    sym (no_entry_found c.args.loaded.now c.args.wanted (length nodes)
    (one_fails nodes c.args.wanted c.args.number (length nodes) c.requires.only (λ low. absurd (omega (arith, low, c.has_all_nodes.ensures, c.from.ensures, c.if-from-ge-NODE_COUNT.true))))
    (omega arith))

pub descriptor_of-requires : goal.descriptor_of-requires
descriptor_of-requires c =
    rw c.node_at-node.ensures.value (c.requires.files.full c.args.number (entry_at c.args.loaded.now.nodes c.args.number)
    (has_entry c.args.loaded.now c.args.number c.node_at-node.ensures.there (ap (λ (n : Node). n.used) (sym c.node_at-node.ensures.value) ∙ c.if-node.true)))

pub returns-then-is_wanted-clause-value : goal.returns-then-is_wanted-clause-value
returns-then-is_wanted-clause-value c =
    let number : ℕ = c.args.number in
    let here : passes c.args.wanted number c.node_at-node.result.now ≡ true =
    ap (λ (b : Bool). b && is_wanted c.args.wanted (descriptor_of number c.node_at-node.result.now)) c.if-node.true ∙ (sym c.is_wanted.ensures ∙ c.if-is_wanted.true) in
    ap Some c.descriptor_of.ensures
    ∙ ap (λ (node : Node). Some (descriptor_of number node)) c.node_at-node.ensures.value
    ∙ sym (entry_found c.args.loaded.now c.args.wanted number
    (λ k low. other_fails c.args.wanted number k (entry_at c.args.loaded.now.nodes k) c.requires.only (λ same. omega (arith, low, same)))
    c.node_at-node.ensures.there
    (ap (passes c.args.wanted number) (sym c.node_at-node.ensures.value) ∙ here))

pub returns-then-is_wanted-clause-numbered : goal.returns-then-is_wanted-clause-numbered
returns-then-is_wanted-clause-numbered c =
    let used : (entry_at c.args.loaded.now.nodes c.args.number).used ≡ true = ap (λ (n : Node). n.used) (sym c.node_at-node.ensures.value) ∙ c.if-node.true in
    subst (IsNumbered (descriptors_of c.args.loaded.now)) (ap (descriptor_of c.args.number) (sym c.node_at-node.ensures.value) ∙ sym c.descriptor_of.ensures)
    (entry_numbered c.args.loaded.now c.args.number c.node_at-node.ensures.there used)

pub returns-clause-value : goal.returns-clause-value
returns-clause-value c =
    let nodes = c.args.loaded.now.nodes in
    let number : ℕ = c.args.number in
    let wanted : Bool = is_wanted c.args.wanted (descriptor_of number c.node_at-node.result.now) in
    let fails : passes c.args.wanted number c.node_at-node.result.now ≡ false = elim c.else-node.branch [
      | else-node-via-then-node+else-is_wanted w ↦ ap (λ (b : Bool). b && wanted) w.if-node.true ∙ (sym w.is_wanted.ensures ∙ w.if-is_wanted.false)
      | else-node-via-else-node w ↦ ap (λ (b : Bool). b && wanted) w.if-node.false
    ] in
    sym (no_entry_found c.args.loaded.now c.args.wanted (length nodes)
    (one_fails nodes c.args.wanted number (length nodes) c.requires.only (λ low. ap (passes c.args.wanted number) (sym c.node_at-node.ensures.value) ∙ fails))
    (omega arith))
