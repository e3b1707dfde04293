use Rattle.std.specs.Prelude.{false, Ok}
use Rattle.std.proofs.Common.{refl}
use Rattle.uicc_types.specs.declared.answers.StatusWord.{StatusWord}
use Rattle.uicc_types.specs.declared.answers.TheConstants.StatusWord.{DONE}
use Rattle.store_form.specs.declared.store.StoreFault.{StoreFault}
use Rattle.card_state.specs.Changes.{TakeFile}
use Rattle.file_model.specs.Deleting.{deleting}
use Rattle.card_commits.specs.Writing.{prepared_for}
use Rattle.card_commits.proofs.WritesAllLemmas.{one_writes, one_stops}
use Rattle.card_commits.proofs.WritingLemmas.{writes, gone_pieces}
use Rattle.file_admin.proofs.AnswersTreeLemmas.{not_still, carried_out, stopped}
use Rattle.file_admin.proofs.IsWrittenOverLemmas.{commits_alone}
use Rattle.file_admin.proofs.DeletingLemmas.{change, passes_one, written, done_answers}
use Rattle.file_admin.proofs.deleting.delete.Goals as goal

pub returns-in-Ok-clause-done : goal.returns-in-Ok-clause-done
returns-in-Ok-clause-done g c =
    carried_out c.cards_are_known.ensures.table c.stores_stand.ensures.known _ c.requires.mounted c.args.channels.now (λ state. Ok (deleting state c.args.channels.now c.args.file.now)) (change c.args.loaded.now c.args.channels.now c.args.file.now) (passes_one c.args.loaded.now c.args.channels.now c.args.file.now) c.in-Ok.field-0 _ _ _
    (done_answers c.args.loaded.now c.args.channels.now c.args.file.now c.cards_are_known.ensures.card c.cards_are_known.ensures.table c.files_are_found.ensures.told c.written_files_stand.ensures.deleted c.entry_of.result c.entry_of.ensures.has c.requires.named c.requires.unused c.leave.new.channels c.commit_node.new.loaded c.leave.ensures c.in-Ok.ensures.table)
    (c.in-Ok.ensures.committed _ (commits_alone _ c.requires.mounted c.args.file.now.number (record c.entry_of.result { used = false }) 0 1 _ (written c.args.loaded.now c.args.channels.now c.args.file.now c.cards_are_known.ensures.card c.cards_are_known.ensures.table c.files_are_found.ensures.told c.written_files_stand.ensures.deleted c.entry_of.result c.entry_of.ensures.has c.requires.named c.requires.unused)))

pub returns-in-Ok-clause-still : goal.returns-in-Ok-clause-still
returns-in-Ok-clause-still g c = not_still c.cards_are_known.ensures.table c.stores_stand.ensures.known _ c.requires.mounted c.args.channels.now (λ state. Ok (deleting state c.args.channels.now c.args.file.now)) (change c.args.loaded.now c.args.channels.now c.args.file.now) (passes_one c.args.loaded.now c.args.channels.now c.args.file.now)

pub returns-in-Err-clause-done : goal.returns-in-Err-clause-done
returns-in-Err-clause-done g c =
    stopped c.cards_are_known.ensures.table c.stores_stand.ensures.known _ c.requires.mounted c.args.channels.now (λ state. Ok (deleting state c.args.channels.now c.args.file.now)) (change c.args.loaded.now c.args.channels.now c.args.file.now) (passes_one c.args.loaded.now c.args.channels.now c.args.file.now) c.in-Err.fault _ (c.in-Err.ensures.committed _ (commits_alone _ c.requires.mounted c.args.file.now.number (record c.entry_of.result { used = false }) 0 1 _ (written c.args.loaded.now c.args.channels.now c.args.file.now c.cards_are_known.ensures.card c.cards_are_known.ensures.table c.files_are_found.ensures.told c.written_files_stand.ensures.deleted c.entry_of.result c.entry_of.ensures.has c.requires.named c.requires.unused)))

pub returns-in-Err-clause-still : goal.returns-in-Err-clause-still
returns-in-Err-clause-still g c = not_still c.cards_are_known.ensures.table c.stores_stand.ensures.known _ c.requires.mounted c.args.channels.now (λ state. Ok (deleting state c.args.channels.now c.args.file.now)) (change c.args.loaded.now c.args.channels.now c.args.file.now) (passes_one c.args.loaded.now c.args.channels.now c.args.file.now)

pub returns-in-Ok-clause-writes : goal.returns-in-Ok-clause-writes
unfolding prepared_for
returns-in-Ok-clause-writes g c =
    one_writes StoreFault c.in-Ok.field-0 DONE _ _ (TakeFile c.args.file.now.number)
    (writes _ _ _ _ c.args.loaded.now _ (TakeFile c.args.file.now.number) c.requires.mounted.agrees (gone_pieces c.args.loaded.now c.args.file.now.number c.entry_of.result _ c.entry_of.ensures.has refl) (λ content. refl) c.in-Ok.ensures.pieces)

pub returns-in-Err-clause-writes : goal.returns-in-Err-clause-writes
unfolding prepared_for
returns-in-Err-clause-writes g c =
    one_stops StatusWord c.in-Err.fault _ _ (TakeFile c.args.file.now.number)
    (writes _ _ _ _ c.args.loaded.now _ (TakeFile c.args.file.now.number) c.requires.mounted.agrees (gone_pieces c.args.loaded.now c.args.file.now.number c.entry_of.result _ c.entry_of.ensures.has refl) (λ content. refl) c.in-Err.ensures.pieces)
    (c.in-Err.ensures.committed _ (commits_alone _ c.requires.mounted c.args.file.now.number (record c.entry_of.result { used = false }) 0 1 _ (written c.args.loaded.now c.args.channels.now c.args.file.now c.cards_are_known.ensures.card c.cards_are_known.ensures.table c.files_are_found.ensures.told c.written_files_stand.ensures.deleted c.entry_of.result c.entry_of.ensures.has c.requires.named c.requires.unused))).commits
