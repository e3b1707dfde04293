use Rattle.std.proofs.Common.{subst, sym}
use Rattle.card_core.proofs.SettledFileLemmas.{IsReading, reading_changes}
use Rattle.card_core.proofs.WritingLemmas.{reads_write}
use Rattle.card_core.proofs.commands.on_contents.Goals as goal

pub returns-in-ReadBinary-clause-writes : goal.returns-in-ReadBinary-clause-writes
returns-in-ReadBinary-clause-writes g c =
    reads_write c.read_binary.result _ _ _ c.read_binary.ensures.reads (λ state. reading_changes state c.args.seen.now c.args.selection.now c.args.apdu.now c.args.command (subst IsReading (sym c.in-ReadBinary.is) tt))

pub returns-in-ReadRecord-clause-writes : goal.returns-in-ReadRecord-clause-writes
returns-in-ReadRecord-clause-writes g c =
    reads_write c.read_record.result _ _ _ c.read_record.ensures.reads (λ state. reading_changes state c.args.seen.now c.args.selection.now c.args.apdu.now c.args.command (subst IsReading (sym c.in-ReadRecord.is) tt))

pub returns-in-SearchRecord-clause-writes : goal.returns-in-SearchRecord-clause-writes
returns-in-SearchRecord-clause-writes g c =
    reads_write c.search_record.result _ _ _ c.search_record.ensures.reads (λ state. reading_changes state c.args.seen.now c.args.selection.now c.args.apdu.now c.args.command (subst IsReading (sym c.in-SearchRecord.is) tt))
