use Rattle.std.proofs.Common.{◌∙◌}
use Rattle.file_admin.proofs.NumberAtLemmas.{number_read}
use Rattle.file_admin.proofs.templates.number_at.Goals as goal

pub returns : goal.returns
returns c = c.from_be_bytes.ensures ∙ number_read c.args.bytes.now c.args.at c.byte_at.result c.byte_at-2.result c.byte_at.ensures c.byte_at-2.ensures
