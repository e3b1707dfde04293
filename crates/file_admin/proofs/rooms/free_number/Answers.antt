use Rattle.std.proofs.Common.{get_or, ◌≡◌, false, List, length, ap, ◌∙◌, sym, arith}
use Rattle.card_state.specs.Blank.{unused_node}
use Rattle.card_state.specs.declared.entries.Node.{Node}
use Rattle.file_admin.proofs.FreeNumberLemmas.{number_found, no_number_found, entry_at}
use Rattle.file_admin.proofs.rooms.free_number.Goals as goal

pub returns-then-not-nodes-number-clause-value : goal.returns-then-not-nodes-number-clause-value
returns-then-not-nodes-number-clause-value c = λ content.
    let whole : length c.args.loaded.now.nodes ≡ 128 = sym (ap (λ (nodes : List Node). length nodes) c.all_nodes-nodes.ensures.value) ∙ c.all_nodes-nodes.ensures.long in
    let free : (entry_at c.args.loaded.now c.loop-number.number).used ≡ false =
    ap (λ (nodes : List Node). (get_or nodes c.loop-number.number unused_node).used) (sym c.all_nodes-nodes.ensures.value) ∙ c.if-not-nodes-number.true in
    number_found c.args.loaded.now content c.states_are_of_entries.ensures.files whole c.args.df c.loop-number.number c.loop-number.invariant (omega (arith, c.from-number.ensures)) c.loop-number-test.true free

pub returns-clause-value : goal.returns-clause-value
returns-clause-value c = λ content.
    let whole : length c.args.loaded.now.nodes ≡ 128 = sym (ap (λ (nodes : List Node). length nodes) c.all_nodes-nodes.ensures.value) ∙ c.all_nodes-nodes.ensures.long in
    no_number_found c.args.loaded.now content c.states_are_of_entries.ensures.files whole c.args.df c.loop-number.number c.loop-number.invariant c.loop-number-test.false
