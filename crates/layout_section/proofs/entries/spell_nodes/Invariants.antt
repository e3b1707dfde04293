-- The entries that were passed are spelled, 16 bytes each; 128 have 2,048.
use Rattle.std.proofs.Common.{◌≡◌, ℕ, ◌*◌, ◌<◌, length, slice_index_or}
use Rattle.card_state.specs.Blank.{unused_node}
use Rattle.card_state.specs.Decoding.{bytes_at}
use Rattle.layout_entries.specs.Spelling.{node_spelled}
use Rattle.layout_section.proofs.entries.spell_nodes.Given as goal

abbrev pub invariant-loop-number : goal.invariant-loop-number
invariant-loop-number l = record {
  long : length l.bytes ≡ 2048;
  spelled_at : (k : ℕ) → k < l.number → bytes_at l.bytes (16 * k) 16 ≡ node_spelled (slice_index_or l.nodes k unused_node);
}
