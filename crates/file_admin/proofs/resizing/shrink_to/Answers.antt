use Rattle.std.proofs.Common.{◌≡◌, sym, subst, arith, ◌≢◌, ◌<◌, [], ◌∷◌, Ok, Err, Result}
use Rattle.uicc_types.specs.declared.answers.StatusWord.{StatusWord}
use Rattle.uicc_types.specs.declared.answers.TheConstants.StatusWord.{DONE}
use Rattle.store_form.specs.declared.store.StoreFault.{StoreFault}
use Rattle.card_state.specs.declared.entries.Loaded.{Loaded}
use Rattle.card_state.specs.Kinds.{transparent_kind}
use Rattle.card_state.specs.Standing.{Stands}
use Rattle.card_state.specs.Memory.{memory}
use Rattle.file_model.specs.Resizing.{resized_if_room}
use Rattle.layout_entries.specs.Laws.{after}
use Rattle.layout_entries.specs.Spelling.{node_part}
use Rattle.file_admin.specs.Written.{with_file_resized, as_it_was}
use Rattle.file_admin.proofs.AnswersTreeLemmas.{not_still, carried_out, stopped}
use Rattle.file_admin.proofs.IsWrittenOverLemmas.{commits_alone}
use Rattle.file_admin.proofs.ResizingLemmas.{is_transparent, same_size, fits_fewer, passes_one, makes_one, answers_so, shrunk_over}
use Rattle.file_admin.proofs.FitsLemmas.{fit, shrunk_told, shrunk_range, over_nothing, fit_writes, fit_stops}
use Rattle.file_admin.proofs.WritesOverLemmas.{tree_makes}
use Rattle.file_admin.proofs.resizing.shrink_to.Goals as goal

pub returns-in-Ok-clause-done : goal.returns-in-Ok-clause-done
returns-in-Ok-clause-done g c =
    let kind : c.entry_of-old.result.kind ≡ transparent_kind = is_transparent c.args.file.now c.entry_of-old.result c.entry_of-old.ensures.told c.requires.kind in
    let sized : c.entry_of-old.result.size ≡ c.args.file.now.size = same_size c.args.file.now c.entry_of-old.result c.entry_of-old.ensures.told c.requires.kind in
    let other : c.args.file.now.size ≢ c.args.size = λ same. omega (arith, same, c.requires.fewer) in
    λ channels. carried_out c.cards_are_known.ensures.table c.stores_stand.ensures.known _ c.requires.mounted channels (λ state. resized_if_room state channels c.args.size c.args.file.now) (with_file_resized c.args.file.now.number c.args.size) (λ mark content state stands. passes_one state channels c.args.size c.args.file.now (fits_fewer state channels c.args.size c.args.file.now c.requires.fewer) other) c.in-Ok.field-0 _ _ channels
    (λ mark content state stands. answers_so state channels c.args.size c.args.file.now mark (after (node_part c.args.file.now.number (record c.entry_of-old.result { size = c.args.size }) 12 14) content) c.commit_node.new.loaded (fits_fewer state channels c.args.size c.args.file.now c.requires.fewer) other
    (subst (λ (t : Loaded). Stands mark (after (node_part c.args.file.now.number (record c.entry_of-old.result { size = c.args.size }) 12 14) content) t (with_file_resized c.args.file.now.number c.args.size state)) (sym c.in-Ok.ensures.table) ((shrunk_over c.cards_are_known.ensures.files c.args.loaded.now c.args.file.now.number c.entry_of-old.result c.entry_of-old.ensures.has kind c.node_ranges.ensures c.args.size c.requires.may c.written_files_stand.ensures.shrunk (omega (arith, sized, c.requires.fewer))) mark content state stands)))
    (c.in-Ok.ensures.committed _ (commits_alone _ c.requires.mounted c.args.file.now.number (record c.entry_of-old.result { size = c.args.size }) 12 14 _ (shrunk_over c.cards_are_known.ensures.files c.args.loaded.now c.args.file.now.number c.entry_of-old.result c.entry_of-old.ensures.has kind c.node_ranges.ensures c.args.size c.requires.may c.written_files_stand.ensures.shrunk (omega (arith, sized, c.requires.fewer)))))

pub returns-in-Ok-clause-still : goal.returns-in-Ok-clause-still
returns-in-Ok-clause-still g c =
    let other : c.args.file.now.size ≢ c.args.size = λ same. omega (arith, same, c.requires.fewer) in
    λ channels. not_still c.cards_are_known.ensures.table c.stores_stand.ensures.known _ c.requires.mounted channels (λ state. resized_if_room state channels c.args.size c.args.file.now) (with_file_resized c.args.file.now.number c.args.size) (λ mark content state stands. passes_one state channels c.args.size c.args.file.now (fits_fewer state channels c.args.size c.args.file.now c.requires.fewer) other)

pub returns-in-Err-clause-done : goal.returns-in-Err-clause-done
returns-in-Err-clause-done g c =
    let kind : c.entry_of-old.result.kind ≡ transparent_kind = is_transparent c.args.file.now c.entry_of-old.result c.entry_of-old.ensures.told c.requires.kind in
    let sized : c.entry_of-old.result.size ≡ c.args.file.now.size = same_size c.args.file.now c.entry_of-old.result c.entry_of-old.ensures.told c.requires.kind in
    let other : c.args.file.now.size ≢ c.args.size = λ same. omega (arith, same, c.requires.fewer) in
    λ channels. stopped c.cards_are_known.ensures.table c.stores_stand.ensures.known _ c.requires.mounted channels (λ state. resized_if_room state channels c.args.size c.args.file.now) (with_file_resized c.args.file.now.number c.args.size) (λ mark content state stands. passes_one state channels c.args.size c.args.file.now (fits_fewer state channels c.args.size c.args.file.now c.requires.fewer) other) c.in-Err.fault _ (c.in-Err.ensures.committed _ (commits_alone _ c.requires.mounted c.args.file.now.number (record c.entry_of-old.result { size = c.args.size }) 12 14 _ (shrunk_over c.cards_are_known.ensures.files c.args.loaded.now c.args.file.now.number c.entry_of-old.result c.entry_of-old.ensures.has kind c.node_ranges.ensures c.args.size c.requires.may c.written_files_stand.ensures.shrunk (omega (arith, sized, c.requires.fewer)))))

pub returns-in-Err-clause-still : goal.returns-in-Err-clause-still
returns-in-Err-clause-still g c =
    let other : c.args.file.now.size ≢ c.args.size = λ same. omega (arith, same, c.requires.fewer) in
    λ channels. not_still c.cards_are_known.ensures.table c.stores_stand.ensures.known _ c.requires.mounted channels (λ state. resized_if_room state channels c.args.size c.args.file.now) (with_file_resized c.args.file.now.number c.args.size) (λ mark content state stands. passes_one state channels c.args.size c.args.file.now (fits_fewer state channels c.args.size c.args.file.now c.requires.fewer) other)

pub returns-in-Ok-clause-writes : goal.returns-in-Ok-clause-writes
returns-in-Ok-clause-writes g c =
    let kind : c.entry_of-old.result.kind ≡ transparent_kind = is_transparent c.args.file.now c.entry_of-old.result c.entry_of-old.ensures.told c.requires.kind in
    let sized : c.entry_of-old.result.size ≡ c.args.file.now.size = same_size c.args.file.now c.entry_of-old.result c.entry_of-old.ensures.told c.requires.kind in
    let fewer : c.args.size < c.entry_of-old.result.size = omega (arith, sized, c.requires.fewer) in
    let other : c.args.file.now.size ≢ c.args.size = λ same. omega (arith, same, c.requires.fewer) in
    λ channels. tree_makes c.cards_are_known.ensures.table c.stores_stand.ensures.known _ c.requires.mounted channels (λ state. resized_if_room state channels c.args.size c.args.file.now) (λ state. fit c.args.file.now.number c.args.size state ∷ []) (λ mark content state stands. makes_one state channels c.args.size c.args.file.now (fits_fewer state channels c.args.size c.args.file.now c.requires.fewer) other) (let done : Result StatusWord StoreFault = Ok DONE in done) (memory g.S.Store c.commit_node.new.store c.commit_node.new.loaded)
    (fit_writes c.cards_are_known.ensures.table c.stores_stand.ensures.known _ c.requires.mounted (fit c.args.file.now.number c.args.size) as_it_was 0 0 (node_part c.args.file.now.number (record c.entry_of-old.result { size = c.args.size }) 12 14) (λ mark content state stands. shrunk_told c.cards_are_known.ensures.files c.args.loaded.now c.args.file.now.number c.entry_of-old.result c.entry_of-old.ensures.has kind c.args.size mark content state stands fewer _ _ c.requires.mounted.agrees) c.in-Ok.field-0 DONE _ (over_nothing _ _ (node_part c.args.file.now.number (record c.entry_of-old.result { size = c.args.size }) 12 14) _ c.in-Ok.ensures.pieces))

pub returns-in-Err-clause-writes : goal.returns-in-Err-clause-writes
returns-in-Err-clause-writes g c =
    let kind : c.entry_of-old.result.kind ≡ transparent_kind = is_transparent c.args.file.now c.entry_of-old.result c.entry_of-old.ensures.told c.requires.kind in
    let sized : c.entry_of-old.result.size ≡ c.args.file.now.size = same_size c.args.file.now c.entry_of-old.result c.entry_of-old.ensures.told c.requires.kind in
    let fewer : c.args.size < c.entry_of-old.result.size = omega (arith, sized, c.requires.fewer) in
    let other : c.args.file.now.size ≢ c.args.size = λ same. omega (arith, same, c.requires.fewer) in
    λ channels. tree_makes c.cards_are_known.ensures.table c.stores_stand.ensures.known _ c.requires.mounted channels (λ state. resized_if_room state channels c.args.size c.args.file.now) (λ state. fit c.args.file.now.number c.args.size state ∷ []) (λ mark content state stands. makes_one state channels c.args.size c.args.file.now (fits_fewer state channels c.args.size c.args.file.now c.requires.fewer) other) (let ended : Result StatusWord StoreFault = Err c.in-Err.fault in ended) _
    (fit_stops c.cards_are_known.ensures.table c.stores_stand.ensures.known _ c.requires.mounted (fit c.args.file.now.number c.args.size) as_it_was 0 0 (node_part c.args.file.now.number (record c.entry_of-old.result { size = c.args.size }) 12 14) (λ mark content state stands. shrunk_told c.cards_are_known.ensures.files c.args.loaded.now c.args.file.now.number c.entry_of-old.result c.entry_of-old.ensures.has kind c.args.size mark content state stands fewer _ _ c.requires.mounted.agrees) c.in-Err.fault _ (λ mark content state stands. shrunk_range c.cards_are_known.ensures.files c.args.loaded.now c.args.file.now.number c.entry_of-old.result c.entry_of-old.ensures.has kind c.args.size mark content state stands fewer) (over_nothing _ _ (node_part c.args.file.now.number (record c.entry_of-old.result { size = c.args.size }) 12 14) _ c.in-Err.ensures.pieces))
