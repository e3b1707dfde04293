use Rattle.std.proofs.Common.{◌≡◌, arith, [], Ok, Result}
use Rattle.list_laws.proofs.IfSomeLemmas.{if_some}
use Rattle.uicc_types.specs.declared.answers.StatusWord.{StatusWord}
use Rattle.uicc_types.specs.declared.answers.TheConstants.StatusWord.{DONE}
use Rattle.store_form.specs.declared.store.StoreFault.{StoreFault}
use Rattle.card_state.specs.Memory.{memory, held_by}
use Rattle.file_model.specs.Resizing.{resized_if_room}
use Rattle.card_commits.proofs.WritesAllLemmas.{none_written}
use Rattle.file_admin.proofs.AnswersTreeLemmas.{unchanged}
use Rattle.file_admin.proofs.ResizingLemmas.{answers_same, nothing_passes, makes_none}
use Rattle.file_admin.proofs.WritesOverLemmas.{tree_makes}
use Rattle.file_admin.proofs.resizing.resize_to.Goals as goal

pub returns-clause-done : goal.returns-clause-done
returns-clause-done g c =
    let same : c.args.size ≡ c.args.file.now.size = omega (arith, c.if-size-file.false, c.if-file-size.false) in
    λ channels. unchanged c.cards_are_known.ensures.table c.stores_stand.ensures.known _ c.requires.mounted channels (λ state. resized_if_room state channels c.args.size c.args.file.now) _ (λ mark content state stands. answers_same state channels c.args.size c.args.file.now mark content c.args.loaded.now same stands)
    (λ mark content state stands. nothing_passes state channels c.args.size c.args.file.now same)

pub returns-clause-writes : goal.returns-clause-writes
returns-clause-writes g c =
    let same : c.args.size ≡ c.args.file.now.size = omega (arith, c.if-size-file.false, c.if-file-size.false) in
    λ channels. tree_makes c.cards_are_known.ensures.table c.stores_stand.ensures.known _ c.requires.mounted channels (λ state. resized_if_room state channels c.args.size c.args.file.now) (λ state. []) (λ mark content state stands. makes_none state channels c.args.size c.args.file.now same) (let done : Result StatusWord StoreFault = Ok DONE in done) (memory g.S.Store c.args.store.now c.args.loaded.now)
    (if_some (held_by g.S.Store c.args.store.now) _ (λ state is. none_written (g.S.Store.stable c.args.store.now)))
