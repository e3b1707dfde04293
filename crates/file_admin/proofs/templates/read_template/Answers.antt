use Rattle.std.proofs.Common.{sym, ◌∙◌}
use Rattle.list_laws.proofs.IfSomeLemmas.{if_some}
use Rattle.file_model.proofs.TemplatesLemmas.{asked_found, asked_only}
use Rattle.file_admin.proofs.templates.read_template.Goals as goal

pub returns-clause-found : goal.returns-clause-found
returns-clause-found c = if_some c.asked_in.result _ (λ file is. asked_found c.args.bytes.now file (sym c.asked_in.ensures ∙ is))

pub returns-clause-only : goal.returns-clause-only
returns-clause-only c = λ file may range is. c.asked_in.ensures ∙ asked_only c.args.bytes.now file may range is
