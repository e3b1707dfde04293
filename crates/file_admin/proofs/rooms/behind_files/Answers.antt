use Rattle.std.proofs.Common.{◌+◌, List, ℕ, ◌∷◌, drop, get_or, sym, ap, subst, ◌∙◌, arith}
use Rattle.std.proofs.lemmas.List.Elements.{Contains-get_or}
use Rattle.std.proofs.lemmas.List.{drop_more}
use Rattle.card_state.specs.Blank.{unused_node}
use Rattle.card_state.specs.declared.entries.Node.{Node}
use Rattle.file_model.proofs.IsNodeInTheWayLemmas.{IsBehind, behind_one, beside_one}
use Rattle.file_admin.proofs.rooms.behind_files.Goals as goal
use Rattle.file_admin.proofs.rooms.behind_files.Goals.{Joined-is_in_the_way, then-is_in_the_way, else-is_in_the_way}

so_far : (c : Joined-is_in_the_way) → IsBehind c.args.nodes.now (get_or c.args.nodes.now c.loop-node.node-index unused_node ∷ drop (c.loop-node.node-index + 1) c.args.nodes.now) c.args.place c.args.size c.loop-node.behind
so_far c = subst (λ (rest : List Node). IsBehind c.args.nodes.now rest c.args.place c.args.size c.loop-node.behind)
    (drop_more c.args.nodes.now c.loop-node.node-index unused_node c.loop-node-test.true) c.loop-node.invariant

pub loop-node-preserved : goal.loop-node-preserved
loop-node-preserved c =
    let nodes : List Node = c.args.nodes.now in
    let at : ℕ = c.loop-node.node-index in
    let node : Node = get_or nodes at unused_node in
    let rest : List Node = drop (at + 1) nodes in
    elim c.if-is_in_the_way.branch [
      | then-is_in_the_way w ↦ subst (λ (behind : ℕ). IsBehind nodes rest c.args.place c.args.size behind)
          (sym (w.behind-is ∙ ap (λ (n : ℕ). n + w.from-then-is_in_the_way.result) w.from.ensures ∙ ap (λ (n : ℕ). node.place + n) w.from-then-is_in_the_way.ensures))
          (behind_one nodes rest c.args.place c.args.size c.loop-node.behind node (so_far c) (Contains-get_or nodes at unused_node c.loop-node-test.true)
          (sym c.is_in_the_way.ensures ∙ w.if-is_in_the_way.true) (omega (arith, w.from.auto, w.from-then-is_in_the_way.auto, w.from.ensures, w.from-then-is_in_the_way.ensures)))
      | else-is_in_the_way w ↦ subst (λ (behind : ℕ). IsBehind nodes rest c.args.place c.args.size behind) (sym w.behind-is)
          (beside_one nodes rest c.args.place c.args.size c.loop-node.behind node (so_far c) (sym c.is_in_the_way.ensures ∙ w.if-is_in_the_way.false))
    ]
