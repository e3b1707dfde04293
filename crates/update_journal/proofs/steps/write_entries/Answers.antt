use Rattle.std.proofs.Common.{◌∙◌, ap, length, arith}
use Rattle.update_journal.proofs.EntriesLemmas.{entries_some}
use Rattle.update_journal.proofs.steps.write_entries.Goals as goal

pub returns-in-Ok-clause-off : goal.returns-in-Ok-clause-off
returns-in-Ok-clause-off g c = c.write.ensures.off (omega (arith, entries_some c.args.writes.now, ap length (c.as_slice.ensures.value ∙ c.in-Ok.ensures.ok)))
