-- The room found in the table is that of every state it stands for: with one the file grows there in a commit, without one it is refused.
use Rattle.std.proofs.Common.{◌≡◌, ℕ, List, ◌<◌, sym, ◌∙◌, ap, subst, arith, ◌≢◌, [], ◌∷◌, Some, Ok, Err, Result}
use Rattle.uicc_types.specs.declared.answers.StatusWord.{StatusWord}
use Rattle.uicc_types.specs.declared.answers.TheConstants.StatusWord.{DONE, NO_ROOM}
use Rattle.store_form.specs.declared.store.StoreFault.{StoreFault}
use Rattle.card_state.specs.declared.entries.Loaded.{Loaded}
use Rattle.card_state.specs.Kinds.{transparent_kind}
use Rattle.card_state.specs.Persistent.{Persistent}
use Rattle.card_state.specs.Standing.{Stands}
use Rattle.card_state.specs.States.{state_of}
use Rattle.card_state.specs.Memory.{memory}
use Rattle.file_model.specs.Resizing.{resized_if_room}
use Rattle.file_model.specs.Rooms.{IsSmallestRoom, room_at}
use Rattle.layout_entries.specs.Laws.{after}
use Rattle.layout_entries.specs.Spelling.{node_part}
use Rattle.card_commits.specs.Prepared.{moved}
use Rattle.file_admin.specs.Written.{with_file_resized}
use Rattle.file_admin.proofs.AnswersTreeLemmas.{refused, not_still, carried_out, stopped}
use Rattle.file_admin.proofs.StandsLemmas.{same_state}
use Rattle.file_admin.proofs.ResizingLemmas.{is_transparent, same_size, transparent, without_room, fits_there, passes_one, makes_one, answers_so, grown_over, room_beside}
use Rattle.file_admin.proofs.FitsLemmas.{fit, grown_told, grown_range, fit_writes, fit_stops}
use Rattle.file_admin.proofs.WritesOverLemmas.{tree_makes, tree_refused}
use Rattle.file_admin.proofs.resizing.grow_to.Goals as goal

pub grow-requires-clause-file : goal.grow-requires-clause-file
grow-requires-clause-file g c =
    let kind : c.entry_of-node.result.kind ≡ transparent_kind = is_transparent c.args.file.now c.entry_of-node.result c.entry_of-node.ensures.told c.requires.kind in
    transparent c.cards_are_known.ensures.files c.args.loaded.now c.args.file.now.number c.entry_of-node.result c.entry_of-node.ensures.has kind c.node_ranges.ensures c.args.size c.requires.may

pub grow-requires-clause-more : goal.grow-requires-clause-more
grow-requires-clause-more g c =
    let sized : c.entry_of-node.result.size ≡ c.args.file.now.size = same_size c.args.file.now c.entry_of-node.result c.entry_of-node.ensures.told c.requires.kind in
    omega (arith, sized, c.requires.more)

pub grow-requires-clause-free : goal.grow-requires-clause-free
grow-requires-clause-free g c =
    room_beside c.written_files_stand.ensures.free c.cards_are_known.ensures.files c.cards_are_known.ensures.card c.cards_are_known.ensures.table (g.S.Store.store_mark c.args.store.now) c.requires.mounted.agrees.content c.args.loaded.now c.requires.mounted.agrees.state c.requires.mounted.agrees.stands c.in-Some.place c.args.size c.requires.may
    (subst (IsSmallestRoom (state_of c.args.loaded.now c.requires.mounted.agrees.content) c.args.size) c.in-Some.is (c.room.ensures.smallest c.requires.mounted.agrees.content))

pub returns-in-Ok-clause-done : goal.returns-in-Ok-clause-done
returns-in-Ok-clause-done g c =
    let kind : c.entry_of-node.result.kind ≡ transparent_kind = is_transparent c.args.file.now c.entry_of-node.result c.entry_of-node.ensures.told c.requires.kind in
    let sized : c.entry_of-node.result.size ≡ c.args.file.now.size = same_size c.args.file.now c.entry_of-node.result c.entry_of-node.ensures.told c.requires.kind in
    let grows : c.entry_of-node.result.size < c.args.size = omega (arith, sized, c.requires.more) in
    let other : c.args.file.now.size ≢ c.args.size = λ same. omega (arith, same, c.requires.more) in
    λ channels. carried_out c.cards_are_known.ensures.table c.stores_stand.ensures.known _ c.requires.mounted channels (λ state. resized_if_room state channels c.args.size c.args.file.now) (with_file_resized c.args.file.now.number c.args.size) (λ mark content state stands. passes_one state channels c.args.size c.args.file.now (fits_there state channels c.args.size c.args.file.now c.in-Some.place c.requires.more (ap (λ (s : Persistent). room_at s c.args.size) (same_state c.cards_are_known.ensures.card c.cards_are_known.ensures.table mark content c.args.loaded.now state stands) ∙ sym (c.room.ensures.value content) ∙ c.in-Some.is)) other) c.in-Ok.field-0 _ _ channels
    (λ mark content state stands. answers_so state channels c.args.size c.args.file.now mark (after (node_part c.args.file.now.number (record c.entry_of-node.result { place = c.in-Some.place; size = c.args.size }) 10 14) (moved c.entry_of-node.result c.in-Some.place c.args.size content)) c.grow.new.loaded (fits_there state channels c.args.size c.args.file.now c.in-Some.place c.requires.more (ap (λ (s : Persistent). room_at s c.args.size) (same_state c.cards_are_known.ensures.card c.cards_are_known.ensures.table mark content c.args.loaded.now state stands) ∙ sym (c.room.ensures.value content) ∙ c.in-Some.is)) other
    (subst (λ (t : Loaded). Stands mark (after (node_part c.args.file.now.number (record c.entry_of-node.result { place = c.in-Some.place; size = c.args.size }) 10 14) (moved c.entry_of-node.result c.in-Some.place c.args.size content)) t (with_file_resized c.args.file.now.number c.args.size state)) (sym c.in-Ok.ensures.table) ((grown_over c.cards_are_known.ensures.files c.args.loaded.now c.args.file.now.number c.entry_of-node.result c.entry_of-node.ensures.has kind c.node_ranges.ensures c.args.size c.requires.may c.written_files_stand.ensures.grown c.in-Some.place grows (λ (content : List ℕ). sym c.in-Some.is ∙ c.room.ensures.value content) c.cards_are_known.ensures.card c.cards_are_known.ensures.table) mark content state stands)))
    (c.in-Ok.ensures.committed _ (grown_over c.cards_are_known.ensures.files c.args.loaded.now c.args.file.now.number c.entry_of-node.result c.entry_of-node.ensures.has kind c.node_ranges.ensures c.args.size c.requires.may c.written_files_stand.ensures.grown c.in-Some.place grows (λ (content : List ℕ). sym c.in-Some.is ∙ c.room.ensures.value content) c.cards_are_known.ensures.card c.cards_are_known.ensures.table))

pub returns-in-Ok-clause-still : goal.returns-in-Ok-clause-still
returns-in-Ok-clause-still g c =
    let other : c.args.file.now.size ≢ c.args.size = λ same. omega (arith, same, c.requires.more) in
    λ channels. not_still c.cards_are_known.ensures.table c.stores_stand.ensures.known _ c.requires.mounted channels (λ state. resized_if_room state channels c.args.size c.args.file.now) (with_file_resized c.args.file.now.number c.args.size) (λ mark content state stands. passes_one state channels c.args.size c.args.file.now (fits_there state channels c.args.size c.args.file.now c.in-Some.place c.requires.more (ap (λ (s : Persistent). room_at s c.args.size) (same_state c.cards_are_known.ensures.card c.cards_are_known.ensures.table mark content c.args.loaded.now state stands) ∙ sym (c.room.ensures.value content) ∙ c.in-Some.is)) other)

pub returns-in-Err-clause-done : goal.returns-in-Err-clause-done
returns-in-Err-clause-done g c =
    let kind : c.entry_of-node.result.kind ≡ transparent_kind = is_transparent c.args.file.now c.entry_of-node.result c.entry_of-node.ensures.told c.requires.kind in
    let sized : c.entry_of-node.result.size ≡ c.args.file.now.size = same_size c.args.file.now c.entry_of-node.result c.entry_of-node.ensures.told c.requires.kind in
    let grows : c.entry_of-node.result.size < c.args.size = omega (arith, sized, c.requires.more) in
    let other : c.args.file.now.size ≢ c.args.size = λ same. omega (arith, same, c.requires.more) in
    λ channels. stopped c.cards_are_known.ensures.table c.stores_stand.ensures.known _ c.requires.mounted channels (λ state. resized_if_room state channels c.args.size c.args.file.now) (with_file_resized c.args.file.now.number c.args.size) (λ mark content state stands. passes_one state channels c.args.size c.args.file.now (fits_there state channels c.args.size c.args.file.now c.in-Some.place c.requires.more (ap (λ (s : Persistent). room_at s c.args.size) (same_state c.cards_are_known.ensures.card c.cards_are_known.ensures.table mark content c.args.loaded.now state stands) ∙ sym (c.room.ensures.value content) ∙ c.in-Some.is)) other) c.in-Err.fault _ (c.in-Err.ensures.committed _ (grown_over c.cards_are_known.ensures.files c.args.loaded.now c.args.file.now.number c.entry_of-node.result c.entry_of-node.ensures.has kind c.node_ranges.ensures c.args.size c.requires.may c.written_files_stand.ensures.grown c.in-Some.place grows (λ (content : List ℕ). sym c.in-Some.is ∙ c.room.ensures.value content) c.cards_are_known.ensures.card c.cards_are_known.ensures.table))

pub returns-in-Err-clause-still : goal.returns-in-Err-clause-still
returns-in-Err-clause-still g c =
    let other : c.args.file.now.size ≢ c.args.size = λ same. omega (arith, same, c.requires.more) in
    λ channels. not_still c.cards_are_known.ensures.table c.stores_stand.ensures.known _ c.requires.mounted channels (λ state. resized_if_room state channels c.args.size c.args.file.now) (with_file_resized c.args.file.now.number c.args.size) (λ mark content state stands. passes_one state channels c.args.size c.args.file.now (fits_there state channels c.args.size c.args.file.now c.in-Some.place c.requires.more (ap (λ (s : Persistent). room_at s c.args.size) (same_state c.cards_are_known.ensures.card c.cards_are_known.ensures.table mark content c.args.loaded.now state stands) ∙ sym (c.room.ensures.value content) ∙ c.in-Some.is)) other)

pub returns-in-None-clause-done : goal.returns-in-None-clause-done
returns-in-None-clause-done g c = λ channels. refused c.cards_are_known.ensures.table c.stores_stand.ensures.known _ c.requires.mounted channels (λ state. resized_if_room state channels c.args.size c.args.file.now) _
    (λ mark content state stands. without_room state channels c.args.size c.args.file.now c.requires.more (ap (λ (s : Persistent). room_at s c.args.size) (same_state c.cards_are_known.ensures.card c.cards_are_known.ensures.table mark content c.args.loaded.now state stands) ∙ sym (c.room.ensures.value content) ∙ c.in-None.is))

pub returns-in-Ok-clause-writes : goal.returns-in-Ok-clause-writes
returns-in-Ok-clause-writes g c =
    let kind : c.entry_of-node.result.kind ≡ transparent_kind = is_transparent c.args.file.now c.entry_of-node.result c.entry_of-node.ensures.told c.requires.kind in
    let sized : c.entry_of-node.result.size ≡ c.args.file.now.size = same_size c.args.file.now c.entry_of-node.result c.entry_of-node.ensures.told c.requires.kind in
    let grows : c.entry_of-node.result.size < c.args.size = omega (arith, sized, c.requires.more) in
    let other : c.args.file.now.size ≢ c.args.size = λ same. omega (arith, same, c.requires.more) in
    let there : (mark : ℕ) (content : List ℕ) (state : Persistent) → Stands mark content c.args.loaded.now state → room_at state c.args.size ≡ Some c.in-Some.place =
    λ mark content state stands. ap (λ (s : Persistent). room_at s c.args.size) (same_state c.cards_are_known.ensures.card c.cards_are_known.ensures.table mark content c.args.loaded.now state stands) ∙ sym (c.room.ensures.value content) ∙ c.in-Some.is in
    λ channels. tree_makes c.cards_are_known.ensures.table c.stores_stand.ensures.known _ c.requires.mounted channels (λ state. resized_if_room state channels c.args.size c.args.file.now) (λ state. fit c.args.file.now.number c.args.size state ∷ []) (λ mark content state stands. makes_one state channels c.args.size c.args.file.now (fits_there state channels c.args.size c.args.file.now c.in-Some.place c.requires.more (there mark content state stands)) other) (let done : Result StatusWord StoreFault = Ok DONE in done) (memory g.S.Store c.grow.new.store c.grow.new.loaded)
    (fit_writes c.cards_are_known.ensures.table c.stores_stand.ensures.known _ c.requires.mounted (fit c.args.file.now.number c.args.size) (moved c.entry_of-node.result c.in-Some.place c.args.size) c.in-Some.place c.args.size (node_part c.args.file.now.number (record c.entry_of-node.result { place = c.in-Some.place; size = c.args.size }) 10 14) (λ mark content state stands. grown_told c.cards_are_known.ensures.files c.args.loaded.now c.args.file.now.number c.entry_of-node.result c.entry_of-node.ensures.has kind c.args.size mark content state stands grows c.in-Some.place (there mark content state stands) _ _ c.requires.mounted.agrees) c.in-Ok.field-0 DONE _ c.in-Ok.ensures.writes)

pub returns-in-Err-clause-writes : goal.returns-in-Err-clause-writes
returns-in-Err-clause-writes g c =
    let kind : c.entry_of-node.result.kind ≡ transparent_kind = is_transparent c.args.file.now c.entry_of-node.result c.entry_of-node.ensures.told c.requires.kind in
    let sized : c.entry_of-node.result.size ≡ c.args.file.now.size = same_size c.args.file.now c.entry_of-node.result c.entry_of-node.ensures.told c.requires.kind in
    let grows : c.entry_of-node.result.size < c.args.size = omega (arith, sized, c.requires.more) in
    let other : c.args.file.now.size ≢ c.args.size = λ same. omega (arith, same, c.requires.more) in
    let there : (mark : ℕ) (content : List ℕ) (state : Persistent) → Stands mark content c.args.loaded.now state → room_at state c.args.size ≡ Some c.in-Some.place =
    λ mark content state stands. ap (λ (s : Persistent). room_at s c.args.size) (same_state c.cards_are_known.ensures.card c.cards_are_known.ensures.table mark content c.args.loaded.now state stands) ∙ sym (c.room.ensures.value content) ∙ c.in-Some.is in
    λ channels. tree_makes c.cards_are_known.ensures.table c.stores_stand.ensures.known _ c.requires.mounted channels (λ state. resized_if_room state channels c.args.size c.args.file.now) (λ state. fit c.args.file.now.number c.args.size state ∷ []) (λ mark content state stands. makes_one state channels c.args.size c.args.file.now (fits_there state channels c.args.size c.args.file.now c.in-Some.place c.requires.more (there mark content state stands)) other) (let ended : Result StatusWord StoreFault = Err c.in-Err.fault in ended) _
    (fit_stops c.cards_are_known.ensures.table c.stores_stand.ensures.known _ c.requires.mounted (fit c.args.file.now.number c.args.size) (moved c.entry_of-node.result c.in-Some.place c.args.size) c.in-Some.place c.args.size (node_part c.args.file.now.number (record c.entry_of-node.result { place = c.in-Some.place; size = c.args.size }) 10 14) (λ mark content state stands. grown_told c.cards_are_known.ensures.files c.args.loaded.now c.args.file.now.number c.entry_of-node.result c.entry_of-node.ensures.has kind c.args.size mark content state stands grows c.in-Some.place (there mark content state stands) _ _ c.requires.mounted.agrees) c.in-Err.fault _ (λ mark content state stands. grown_range c.cards_are_known.ensures.files c.args.loaded.now c.args.file.now.number c.entry_of-node.result c.entry_of-node.ensures.has kind c.args.size mark content state stands grows c.in-Some.place (there mark content state stands)) c.in-Err.ensures.writes)

pub returns-in-None-clause-writes : goal.returns-in-None-clause-writes
returns-in-None-clause-writes g c =
    λ channels. tree_refused c.cards_are_known.ensures.table c.stores_stand.ensures.known _ c.requires.mounted channels (λ state. resized_if_room state channels c.args.size c.args.file.now) NO_ROOM
    (λ mark content state stands. without_room state channels c.args.size c.args.file.now c.requires.more (ap (λ (s : Persistent). room_at s c.args.size) (same_state c.cards_are_known.ensures.card c.cards_are_known.ensures.table mark content c.args.loaded.now state stands) ∙ sym (c.room.ensures.value content) ∙ c.in-None.is))
