use Rattle.std.proofs.Common.{sym}
use Rattle.layout_section.proofs.FilingLemmas.{file_count}
use Rattle.layout_section.proofs.files.Files.len.Goals as goal

pub returns-clause-value : goal.returns-clause-value
returns-clause-value c =
    sym (file_count c.self.inside.bytes.items c.self.inside.nodes c.self.inside.count c.args.self.now c.self.view_is c.self.invariant.few c.self.invariant.table)
