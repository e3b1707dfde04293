use Rattle.std.proofs.Common.{Err}
use Rattle.card_state.specs.Memory.{memory}
use Rattle.file_model.specs.Records.{file_to_update, record_update_in, record_updated}
use Rattle.binary_commands.proofs.GivesLemmas.{file_gives, file_passes, refusal_gives}
use Rattle.binary_commands.proofs.WritesLemmas.{settled_writes, file_writes, refusal_writes}
use Rattle.record_commands.proofs.PutsLemmas.{update_makes}
use Rattle.record_commands.proofs.updating.try_update.Goals as goal

pub returns-in-Ok-clause-gives : goal.returns-in-Ok-clause-gives
unfolding record_updated
returns-in-Ok-clause-gives g c =
    file_gives (memory g.S.Store c.args.store.now c.args.loaded.now) (λ state is. (c.tables_tell_states.ensures (g.S.Store.store_mark c.args.store.now) (g.S.Store.stable c.args.store.now) c.args.loaded.now state c.requires.place.mounted.agrees is).files) (λ files. file_to_update files c.args.selection.now c.args.command.now) (λ state. record_update_in state c.args.seen.now c.args.selection.now c.args.command.now) c.file_to_update.result c.file_to_update.ensures.value
    c.in-Ok.file c.in-Ok.is _ _ _ c.update_file.ensures.gives

pub returns-in-Ok-clause-passes : goal.returns-in-Ok-clause-passes
unfolding record_updated
returns-in-Ok-clause-passes g c =
    file_passes (memory g.S.Store c.args.store.now c.args.loaded.now) (λ state is. (c.tables_tell_states.ensures (g.S.Store.store_mark c.args.store.now) (g.S.Store.stable c.args.store.now) c.args.loaded.now state c.requires.place.mounted.agrees is).files) (λ files. file_to_update files c.args.selection.now c.args.command.now) (λ state. record_update_in state c.args.seen.now c.args.selection.now c.args.command.now) c.file_to_update.result c.file_to_update.ensures.value
    c.in-Ok.file c.in-Ok.is _ _ _ c.update_file.ensures.passes

pub returns-in-Err-clause-gives : goal.returns-in-Err-clause-gives
unfolding record_updated
returns-in-Err-clause-gives g c =
    refusal_gives (memory g.S.Store c.args.store.now c.args.loaded.now) (λ state is. (c.tables_tell_states.ensures (g.S.Store.store_mark c.args.store.now) (g.S.Store.stable c.args.store.now) c.args.loaded.now state c.requires.place.mounted.agrees is).files) (λ files. file_to_update files c.args.selection.now c.args.command.now) (λ state. record_update_in state c.args.seen.now c.args.selection.now c.args.command.now) c.file_to_update.result c.file_to_update.ensures.value
    c.in-Err.status c.in-Err.is c.args.out.now

pub returns-in-Ok-clause-writes : goal.returns-in-Ok-clause-writes
unfolding record_updated
returns-in-Ok-clause-writes g c =
    file_writes (memory g.S.Store c.args.store.now c.args.loaded.now) (λ state is. (c.tables_tell_states.ensures (g.S.Store.store_mark c.args.store.now) (g.S.Store.stable c.args.store.now) c.args.loaded.now state c.requires.place.mounted.agrees is).files) (λ files. file_to_update files c.args.selection.now c.args.command.now) (λ state. record_update_in state c.args.seen.now c.args.selection.now c.args.command.now) c.file_to_update.result (c.file_to_update.ensures.value) c.args.selection.now
    c.in-Ok.file c.in-Ok.is _ _ (settled_writes _ _ c.args.selection.now _ _ (update_makes c.args.seen.now c.args.selection.now c.args.command.now c.in-Ok.file) c.update_file.result _ c.update_file.ensures.gives c.update_file.ensures.passes c.update_file.ensures.puts)

pub returns-in-Err-clause-writes : goal.returns-in-Err-clause-writes
unfolding record_updated
returns-in-Err-clause-writes g c =
    refusal_writes (memory g.S.Store c.args.store.now c.args.loaded.now) (λ state is. (c.tables_tell_states.ensures (g.S.Store.store_mark c.args.store.now) (g.S.Store.stable c.args.store.now) c.args.loaded.now state c.requires.place.mounted.agrees is).files) (λ files. file_to_update files c.args.selection.now c.args.command.now) (λ state. record_update_in state c.args.seen.now c.args.selection.now c.args.command.now) c.file_to_update.result (c.file_to_update.ensures.value) c.args.selection.now
    c.in-Err.status c.in-Err.is (Err c.in-Err.status)
