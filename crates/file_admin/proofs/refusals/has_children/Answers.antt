use Rattle.std.proofs.Common.{get_or, ◌≡◌, List, length, sym, ap, ◌∙◌, arith}
use Rattle.card_state.specs.Blank.{unused_node}
use Rattle.card_state.specs.declared.entries.Node.{Node}
use Rattle.file_admin.proofs.LiesInLemmas.{lies, one_lies, none_lies}
use Rattle.file_admin.proofs.refusals.has_children.Goals as goal

pub returns-then-lies_in : goal.returns-then-lies_in
returns-then-lies_in c =
    let whole : length c.args.loaded.now.nodes ≡ 128 = sym (ap (λ (nodes : List Node). length nodes) c.all_nodes-nodes.ensures.value) ∙ c.all_nodes-nodes.ensures.long in
    let same : lies c.args.df c.loop-number.number (get_or c.all_nodes-nodes.result.now c.from.result unused_node) ≡ lies c.args.df c.loop-number.number (get_or c.args.loaded.now.nodes c.loop-number.number unused_node) =
    (λ i. lies c.args.df c.loop-number.number (get_or (c.all_nodes-nodes.ensures.value i) (c.from.ensures i) unused_node)) in
    sym (one_lies c.args.loaded.now c.args.df c.loop-number.number (omega (arith, whole, c.loop-number-test.true)) (sym same ∙ (sym c.lies_in.ensures ∙ c.if-lies_in.true)))

pub returns : goal.returns
returns c =
    let whole : length c.args.loaded.now.nodes ≡ 128 = sym (ap (λ (nodes : List Node). length nodes) c.all_nodes-nodes.ensures.value) ∙ c.all_nodes-nodes.ensures.long in
    sym (none_lies c.args.loaded.now c.args.df c.loop-number.number c.loop-number.invariant (omega (arith, whole, c.loop-number-test.false)))
