use Rattle.std.proofs.Common.{take, ap, sym, ◌∙◌}
use Rattle.card_state.specs.Sections.{byte_total_of}
use Rattle.layout_section.proofs.FilingLemmas.{total_is}
use Rattle.layout_section.proofs.files.Files.total.Goals as goal

pub returns-clause-value : goal.returns-clause-value
returns-clause-value c =
    c.self.invariant.files.sum ∙ sym (total_is c.self.inside.bytes.items (take c.self.inside.count c.self.inside.nodes)) ∙ ap byte_total_of c.self.view_is
