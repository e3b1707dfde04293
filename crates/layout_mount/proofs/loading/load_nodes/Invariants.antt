use Rattle.std.proofs.Common.{◌≡◌, ℕ, ◌<◌, true}
use Rattle.card_state.specs.Blank.{unused_node}
use Rattle.card_state.specs.Decoding.{node_at}
use Rattle.card_state.specs.Checks.{node_check}
use Rattle.layout_mount.proofs.FindsFirstLemmas.{IsFilling}
use Rattle.layout_mount.proofs.loading.load_nodes.Given as goal

abbrev pub invariant-loop-number : goal.invariant-loop-number
invariant-loop-number l = record {
  filling : IsFilling (node_at l.image) unused_node 128 l.number l.nodes;
  met : (k : ℕ) → k < l.number → (node_check l.image k).is_met ≡ true;
}
