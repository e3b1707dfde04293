use Rattle.std.proofs.Common.{◌≡◌, ℕ, true, Some, ap, ◌∙◌, sym, subst, arith}
use Rattle.std.proofs.lemmas.Bool.{and_parts}
use Rattle.card_state.specs.declared.entries.Node.{Node}
use Rattle.file_model.specs.Files.{descriptor_of, descriptors_of}
use Rattle.file_tree.specs.Tables.{IsNumbered}
use Rattle.file_tree.proofs.FirstFileLemmas.{entry_found, no_entry_found, has_entry, entry_numbered, passes, entry_at}
use Rattle.file_tree.proofs.searching.first_by_short.Goals as goal

pub descriptor_of-requires : goal.descriptor_of-requires
descriptor_of-requires c =
    rw c.node_at-node.ensures.value (c.requires.files.full c.loop-number.number (entry_at c.args.loaded.now.nodes c.loop-number.number)
    (has_entry c.args.loaded.now c.loop-number.number c.node_at-node.ensures.there (ap (λ (n : Node). n.used) (sym c.node_at-node.ensures.value) ∙ (and_parts _ _ (sym c.is_wanted_by_short.ensures ∙ c.if-is_wanted_by_short.true)).0)))

pub returns-then-is_wanted_by_short-clause-value : goal.returns-then-is_wanted_by_short-clause-value
returns-then-is_wanted_by_short-clause-value c =
    let number : ℕ = c.loop-number.number in
    let here : passes c.args.wanted number c.node_at-node.result.now ≡ true =
    sym c.is_wanted_by_short.ensures ∙ c.if-is_wanted_by_short.true in
    ap Some c.descriptor_of.ensures
    ∙ ap (λ (node : Node). Some (descriptor_of number node)) c.node_at-node.ensures.value
    ∙ sym (entry_found c.args.loaded.now c.args.wanted number c.loop-number.invariant c.node_at-node.ensures.there
    (ap (passes c.args.wanted number) (sym c.node_at-node.ensures.value) ∙ here))

pub returns-then-is_wanted_by_short-clause-numbered : goal.returns-then-is_wanted_by_short-clause-numbered
returns-then-is_wanted_by_short-clause-numbered c =
    let used : (entry_at c.args.loaded.now.nodes c.loop-number.number).used ≡ true = ap (λ (n : Node). n.used) (sym c.node_at-node.ensures.value) ∙ (and_parts _ _ (sym c.is_wanted_by_short.ensures ∙ c.if-is_wanted_by_short.true)).0 in
    subst (IsNumbered (descriptors_of c.args.loaded.now)) (ap (descriptor_of c.loop-number.number) (sym c.node_at-node.ensures.value) ∙ sym c.descriptor_of.ensures)
    (entry_numbered c.args.loaded.now c.loop-number.number c.node_at-node.ensures.there used)

pub returns-clause-value : goal.returns-clause-value
returns-clause-value c =
    sym (no_entry_found c.args.loaded.now c.args.wanted c.loop-number.number c.loop-number.invariant (omega (arith, c.has_all_nodes.ensures, c.loop-number-test.false)))
