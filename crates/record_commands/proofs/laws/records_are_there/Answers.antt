use Rattle.std.proofs.Common.{subst}
use Rattle.card_state.specs.States.{state_of}
use Rattle.file_tree.proofs.IsCardTableLemmas.{table_sound}
use Rattle.record_commands.specs.Tables.{HaveRecords}
use Rattle.record_commands.proofs.HaveRecordsLemmas.{all_filled}
use Rattle.record_commands.proofs.laws.records_are_there.Goals as goal

pub returns : goal.returns
returns c =
    let sound = table_sound c.args.loaded.now c.requires in
    subst HaveRecords (c.files_are_found.ensures.told c.args.loaded.now c.requires.content sound) (all_filled (state_of c.args.loaded.now c.requires.content) sound)
