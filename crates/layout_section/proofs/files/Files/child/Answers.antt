use Rattle.std.proofs.Common.{List, take, Some, None, subst}
use Rattle.card_state.specs.Persistent.{File}
use Rattle.card_state.specs.Sections.{child_of}
use Rattle.layout_section.specs.Adding.{IsFound}
use Rattle.layout_section.proofs.FilingLemmas.{child_found, child_missing}
use Rattle.layout_section.proofs.files.Files.child.Goals as goal

pub returns-in-Some : goal.returns-in-Some
returns-in-Some c =
    subst (λ (files : List File). IsFound files (child_of files c.args.df c.args.id) (Some c.in-Some.number)) c.self.view_is
    (child_found c.self.inside.bytes.items (take c.self.inside.count c.self.inside.nodes) c.args.df c.args.id c.in-Some.number c.in-Some.ensures)

pub returns-in-None : goal.returns-in-None
returns-in-None c =
    subst (λ (files : List File). IsFound files (child_of files c.args.df c.args.id) None) c.self.view_is
    (child_missing c.self.inside.bytes.items (take c.self.inside.count c.self.inside.nodes) c.args.df c.args.id c.in-None.ensures)
