use Rattle.std.proofs.Common.{Err, ap, ◌∙◌}
use Rattle.card_state.specs.Memory.{memory}
use Rattle.file_model.specs.Binaries.{binary_file, binary_to_update, update_in, binary_updated}
use Rattle.file_model.specs.Files.{descriptors_of}
use Rattle.binary_commands.proofs.GivesLemmas.{file_gives, file_passes, refusal_gives}
use Rattle.binary_commands.proofs.UpdateInLemmas.{update_makes}
use Rattle.binary_commands.proofs.WritesLemmas.{settled_writes, file_writes, refusal_writes}
use Rattle.binary_commands.proofs.binaries.try_update.Goals as goal

pub returns-in-Ok-clause-gives : goal.returns-in-Ok-clause-gives
unfolding binary_updated
returns-in-Ok-clause-gives g c =
    file_gives (memory g.S.Store c.args.store.now c.args.loaded.now) (λ state is. (c.tables_tell_states.ensures (g.S.Store.store_mark c.args.store.now) (g.S.Store.stable c.args.store.now) c.args.loaded.now state c.requires.place.mounted.agrees is).files) (λ files. binary_to_update files c.args.selection.now c.args.command.now) (λ state. update_in state c.args.seen.now c.args.selection.now c.args.command.now) c.binary_file.result (c.binary_file.ensures.value ∙ ap (λ b. binary_file b (descriptors_of c.args.loaded.now) c.args.selection.now c.args.command.now) c.has_data.ensures)
    c.in-Ok.file c.in-Ok.is _ _ _ c.update_file.ensures.gives

pub returns-in-Ok-clause-passes : goal.returns-in-Ok-clause-passes
unfolding binary_updated
returns-in-Ok-clause-passes g c =
    file_passes (memory g.S.Store c.args.store.now c.args.loaded.now) (λ state is. (c.tables_tell_states.ensures (g.S.Store.store_mark c.args.store.now) (g.S.Store.stable c.args.store.now) c.args.loaded.now state c.requires.place.mounted.agrees is).files) (λ files. binary_to_update files c.args.selection.now c.args.command.now) (λ state. update_in state c.args.seen.now c.args.selection.now c.args.command.now) c.binary_file.result (c.binary_file.ensures.value ∙ ap (λ b. binary_file b (descriptors_of c.args.loaded.now) c.args.selection.now c.args.command.now) c.has_data.ensures)
    c.in-Ok.file c.in-Ok.is _ _ _ c.update_file.ensures.passes

pub returns-in-Err-clause-gives : goal.returns-in-Err-clause-gives
unfolding binary_updated
returns-in-Err-clause-gives g c =
    refusal_gives (memory g.S.Store c.args.store.now c.args.loaded.now) (λ state is. (c.tables_tell_states.ensures (g.S.Store.store_mark c.args.store.now) (g.S.Store.stable c.args.store.now) c.args.loaded.now state c.requires.place.mounted.agrees is).files) (λ files. binary_to_update files c.args.selection.now c.args.command.now) (λ state. update_in state c.args.seen.now c.args.selection.now c.args.command.now) c.binary_file.result (c.binary_file.ensures.value ∙ ap (λ b. binary_file b (descriptors_of c.args.loaded.now) c.args.selection.now c.args.command.now) c.has_data.ensures)
    c.in-Err.status c.in-Err.is c.args.out.now

pub returns-in-Ok-clause-writes : goal.returns-in-Ok-clause-writes
unfolding binary_updated
returns-in-Ok-clause-writes g c =
    file_writes (memory g.S.Store c.args.store.now c.args.loaded.now) (λ state is. (c.tables_tell_states.ensures (g.S.Store.store_mark c.args.store.now) (g.S.Store.stable c.args.store.now) c.args.loaded.now state c.requires.place.mounted.agrees is).files) (λ files. binary_to_update files c.args.selection.now c.args.command.now) (λ state. update_in state c.args.seen.now c.args.selection.now c.args.command.now) c.binary_file.result (c.binary_file.ensures.value ∙ ap (λ b. binary_file b (descriptors_of c.args.loaded.now) c.args.selection.now c.args.command.now) c.has_data.ensures) c.args.selection.now
    c.in-Ok.file c.in-Ok.is _ _ (settled_writes _ _ c.args.selection.now _ _ (update_makes c.args.seen.now c.args.selection.now c.args.command.now c.in-Ok.file) c.update_file.result _ c.update_file.ensures.gives c.update_file.ensures.passes c.update_file.ensures.puts)

pub returns-in-Err-clause-writes : goal.returns-in-Err-clause-writes
unfolding binary_updated
returns-in-Err-clause-writes g c =
    refusal_writes (memory g.S.Store c.args.store.now c.args.loaded.now) (λ state is. (c.tables_tell_states.ensures (g.S.Store.store_mark c.args.store.now) (g.S.Store.stable c.args.store.now) c.args.loaded.now state c.requires.place.mounted.agrees is).files) (λ files. binary_to_update files c.args.selection.now c.args.command.now) (λ state. update_in state c.args.seen.now c.args.selection.now c.args.command.now) c.binary_file.result (c.binary_file.ensures.value ∙ ap (λ b. binary_file b (descriptors_of c.args.loaded.now) c.args.selection.now c.args.command.now) c.has_data.ensures) c.args.selection.now
    c.in-Err.status c.in-Err.is (Err c.in-Err.status)
