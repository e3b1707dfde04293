use Rattle.std.proofs.Common.{List, sym, subst, arith}
use Rattle.card_state.specs.declared.entries.Node.{Node}
use Rattle.layout_section.specs.Filing.{all_bytes, AreFilesOf}
use Rattle.layout_section.proofs.FilingLemmas.{mf_filed}
use Rattle.layout_section.proofs.files.Files.new.Goals as goal

pub invariant_of-result : goal.invariant_of-result
unfolding all_bytes
invariant_of-result c = record {
  few = omega arith;
  table = c.mf_table.ensures.long;
  files = subst (λ (nodes : List Node). AreFilesOf nodes c.in_ok-bytes.bytes.items 0) (sym c.mf_table.ensures.first) (mf_filed c.in_ok-bytes.bytes.items c.in_ok-bytes.ensures);
}
