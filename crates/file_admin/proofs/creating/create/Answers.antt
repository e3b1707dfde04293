use Rattle.std.proofs.Common.{◌≡◌, false, refl, sym, subst, ℕ, IsTrue, IsSomeAnd, [], ◌∷◌, Ok, Err, Result}
use Rattle.uicc_types.specs.declared.answers.StatusWord.{StatusWord}
use Rattle.uicc_types.specs.declared.answers.TheConstants.StatusWord.{DONE, NO_ROOM}
use Rattle.store_form.specs.declared.store.StoreFault.{StoreFault}
use Rattle.card_state.specs.Changes.{MakeFile}
use Rattle.card_state.specs.Memory.{memory}
use Rattle.file_model.specs.declared.descriptors.Wanted.TheVariants.{Number}
use Rattle.file_model.specs.Files.{descriptors_of, file_found, is_df}
use Rattle.file_model.specs.Creating.{file_made, is_there, created_if_room}
use Rattle.file_admin.proofs.AnswersTreeLemmas.{refused, not_still, carried_out, stopped}
use Rattle.file_admin.proofs.CreatingLemmas.{full, change, named, passes_one, makes_one, beside, written, done_answers}
use Rattle.file_admin.proofs.WritesOverLemmas.{made_writes, made_stops, tree_makes, tree_refused}
use Rattle.file_admin.proofs.creating.create.Goals as goal

pub add_file-requires-clause-free : goal.add_file-requires-clause-free
add_file-requires-clause-free g c =
    beside c.cards_are_known.ensures.card c.cards_are_known.ensures.table c.files_are_found.ensures.told c.args.loaded.now c.args.channels.now c.args.channel c.df_on-df.result c.df_on-df.ensures c.args.file.now c.new_entry.result c.new_entry.ensures.made c.in-Some.entry c.in-Some.is c.in-Some.ensures.node c.written_files_stand.ensures.beside c.cards_are_known.ensures.files
    (g.S.Store.store_mark c.args.store.now) c.requires.mounted.agrees.content c.requires.mounted.agrees.state c.requires.mounted.agrees.stands

pub returns-in-Ok-clause-done : goal.returns-in-Ok-clause-done
returns-in-Ok-clause-done g c =
    let over = (written c.cards_are_known.ensures.card c.cards_are_known.ensures.table c.files_are_found.ensures.told c.args.loaded.now c.args.channels.now c.args.channel c.df_on-df.result c.df_on-df.ensures c.args.file.now c.new_entry.result c.new_entry.ensures.made c.in-Some.entry c.in-Some.is c.in-Some.ensures.node c.written_files_stand.ensures.made c.requires.may
    (subst (λ (n : ℕ). is_there (descriptors_of c.args.loaded.now) n c.args.file.now ≡ false) (sym c.df_on-df.ensures) c.requires.new) c.in-Some.ensures.ranges
    (subst (λ (n : ℕ). IsSomeAnd (file_found (descriptors_of c.args.loaded.now) (Number n)) (λ f. IsTrue (is_df f))) (sym c.df_on-df.ensures) c.requires.df)) in
    carried_out c.cards_are_known.ensures.table c.stores_stand.ensures.known _ c.requires.mounted c.args.channels.now (λ state. created_if_room state c.args.channels.now c.args.channel c.args.file.now) (change c.cards_are_known.ensures.card c.cards_are_known.ensures.table c.files_are_found.ensures.told c.args.loaded.now c.args.channels.now c.args.channel c.df_on-df.result c.df_on-df.ensures c.args.file.now c.new_entry.result c.new_entry.ensures.made c.in-Some.entry c.in-Some.is) (passes_one c.cards_are_known.ensures.card c.cards_are_known.ensures.table c.files_are_found.ensures.told c.args.loaded.now c.args.channels.now c.args.channel c.df_on-df.result c.df_on-df.ensures c.args.file.now c.new_entry.result c.new_entry.ensures.made c.in-Some.entry c.in-Some.is) c.in-Ok.field-0 _ _ _
    (done_answers c.cards_are_known.ensures.card c.cards_are_known.ensures.table c.files_are_found.ensures.told c.args.loaded.now c.args.channels.now c.args.channel c.df_on-df.result c.df_on-df.ensures c.args.file.now c.new_entry.result c.new_entry.ensures.made c.in-Some.entry c.in-Some.is c.in-Some.ensures.node over c.args.channel c.set.new.self c.selection_of.result c.add_file.new.loaded refl c.set.ensures (c.selection_of.ensures c.in-Some.entry.node.place) c.in-Ok.ensures.table)
    (c.in-Ok.ensures.committed _ over)

pub returns-in-Ok-clause-still : goal.returns-in-Ok-clause-still
returns-in-Ok-clause-still g c = not_still c.cards_are_known.ensures.table c.stores_stand.ensures.known _ c.requires.mounted c.args.channels.now (λ state. created_if_room state c.args.channels.now c.args.channel c.args.file.now) (change c.cards_are_known.ensures.card c.cards_are_known.ensures.table c.files_are_found.ensures.told c.args.loaded.now c.args.channels.now c.args.channel c.df_on-df.result c.df_on-df.ensures c.args.file.now c.new_entry.result c.new_entry.ensures.made c.in-Some.entry c.in-Some.is) (passes_one c.cards_are_known.ensures.card c.cards_are_known.ensures.table c.files_are_found.ensures.told c.args.loaded.now c.args.channels.now c.args.channel c.df_on-df.result c.df_on-df.ensures c.args.file.now c.new_entry.result c.new_entry.ensures.made c.in-Some.entry c.in-Some.is)

pub returns-in-Err-clause-done : goal.returns-in-Err-clause-done
returns-in-Err-clause-done g c =
    let over = (written c.cards_are_known.ensures.card c.cards_are_known.ensures.table c.files_are_found.ensures.told c.args.loaded.now c.args.channels.now c.args.channel c.df_on-df.result c.df_on-df.ensures c.args.file.now c.new_entry.result c.new_entry.ensures.made c.in-Some.entry c.in-Some.is c.in-Some.ensures.node c.written_files_stand.ensures.made c.requires.may
    (subst (λ (n : ℕ). is_there (descriptors_of c.args.loaded.now) n c.args.file.now ≡ false) (sym c.df_on-df.ensures) c.requires.new) c.in-Some.ensures.ranges
    (subst (λ (n : ℕ). IsSomeAnd (file_found (descriptors_of c.args.loaded.now) (Number n)) (λ f. IsTrue (is_df f))) (sym c.df_on-df.ensures) c.requires.df)) in
    stopped c.cards_are_known.ensures.table c.stores_stand.ensures.known _ c.requires.mounted c.args.channels.now (λ state. created_if_room state c.args.channels.now c.args.channel c.args.file.now) (change c.cards_are_known.ensures.card c.cards_are_known.ensures.table c.files_are_found.ensures.told c.args.loaded.now c.args.channels.now c.args.channel c.df_on-df.result c.df_on-df.ensures c.args.file.now c.new_entry.result c.new_entry.ensures.made c.in-Some.entry c.in-Some.is) (passes_one c.cards_are_known.ensures.card c.cards_are_known.ensures.table c.files_are_found.ensures.told c.args.loaded.now c.args.channels.now c.args.channel c.df_on-df.result c.df_on-df.ensures c.args.file.now c.new_entry.result c.new_entry.ensures.made c.in-Some.entry c.in-Some.is) c.in-Err.fault _ (c.in-Err.ensures.committed _ over)

pub returns-in-Err-clause-still : goal.returns-in-Err-clause-still
returns-in-Err-clause-still g c = not_still c.cards_are_known.ensures.table c.stores_stand.ensures.known _ c.requires.mounted c.args.channels.now (λ state. created_if_room state c.args.channels.now c.args.channel c.args.file.now) (change c.cards_are_known.ensures.card c.cards_are_known.ensures.table c.files_are_found.ensures.told c.args.loaded.now c.args.channels.now c.args.channel c.df_on-df.result c.df_on-df.ensures c.args.file.now c.new_entry.result c.new_entry.ensures.made c.in-Some.entry c.in-Some.is) (passes_one c.cards_are_known.ensures.card c.cards_are_known.ensures.table c.files_are_found.ensures.told c.args.loaded.now c.args.channels.now c.args.channel c.df_on-df.result c.df_on-df.ensures c.args.file.now c.new_entry.result c.new_entry.ensures.made c.in-Some.entry c.in-Some.is)

pub returns-in-None-clause-done : goal.returns-in-None-clause-done
returns-in-None-clause-done g c = refused c.cards_are_known.ensures.table c.stores_stand.ensures.known _ c.requires.mounted c.args.channels.now (λ state. created_if_room state c.args.channels.now c.args.channel c.args.file.now) _ (full c.cards_are_known.ensures.card c.cards_are_known.ensures.table c.files_are_found.ensures.told c.args.loaded.now c.args.channels.now c.args.channel c.df_on-df.result c.df_on-df.ensures c.args.file.now c.new_entry.result c.new_entry.ensures.made c.in-None.is)

pub returns-in-Ok-clause-writes : goal.returns-in-Ok-clause-writes
returns-in-Ok-clause-writes g c =
    tree_makes c.cards_are_known.ensures.table c.stores_stand.ensures.known _ c.requires.mounted c.args.channels.now (λ state. created_if_room state c.args.channels.now c.args.channel c.args.file.now) (λ state. MakeFile (file_made c.in-Some.entry.number c.df_on-df.result c.in-Some.entry.node.place c.args.file.now) ∷ []) (makes_one c.cards_are_known.ensures.card c.cards_are_known.ensures.table c.files_are_found.ensures.told c.args.loaded.now c.args.channels.now c.args.channel c.df_on-df.result c.df_on-df.ensures c.args.file.now c.new_entry.result c.new_entry.ensures.made c.in-Some.entry c.in-Some.is) (let done : Result StatusWord StoreFault = Ok DONE in done) (memory g.S.Store c.add_file.new.store c.add_file.new.loaded)
    (made_writes c.in-Some.entry.number c.df_on-df.result c.in-Some.entry.node.place c.args.file.now c.requires.may c.in-Some.entry.node c.in-Some.ensures.node (named c.cards_are_known.ensures.card c.cards_are_known.ensures.table c.files_are_found.ensures.told c.args.loaded.now c.args.channels.now c.args.channel c.df_on-df.result c.df_on-df.ensures c.args.file.now c.new_entry.result c.new_entry.ensures.made c.in-Some.entry c.in-Some.is) c.in-Ok.field-0 DONE _ _ c.in-Ok.ensures.writes)

pub returns-in-Err-clause-writes : goal.returns-in-Err-clause-writes
returns-in-Err-clause-writes g c =
    tree_makes c.cards_are_known.ensures.table c.stores_stand.ensures.known _ c.requires.mounted c.args.channels.now (λ state. created_if_room state c.args.channels.now c.args.channel c.args.file.now) (λ state. MakeFile (file_made c.in-Some.entry.number c.df_on-df.result c.in-Some.entry.node.place c.args.file.now) ∷ []) (makes_one c.cards_are_known.ensures.card c.cards_are_known.ensures.table c.files_are_found.ensures.told c.args.loaded.now c.args.channels.now c.args.channel c.df_on-df.result c.df_on-df.ensures c.args.file.now c.new_entry.result c.new_entry.ensures.made c.in-Some.entry c.in-Some.is) (let ended : Result StatusWord StoreFault = Err c.in-Err.fault in ended) _
    (made_stops c.in-Some.entry.number c.df_on-df.result c.in-Some.entry.node.place c.args.file.now c.requires.may c.in-Some.entry.node c.in-Some.ensures.node (named c.cards_are_known.ensures.card c.cards_are_known.ensures.table c.files_are_found.ensures.told c.args.loaded.now c.args.channels.now c.args.channel c.df_on-df.result c.df_on-df.ensures c.args.file.now c.new_entry.result c.new_entry.ensures.made c.in-Some.entry c.in-Some.is) c.in-Err.fault _ _ c.in-Err.ensures.writes)

pub returns-in-None-clause-writes : goal.returns-in-None-clause-writes
returns-in-None-clause-writes g c = tree_refused c.cards_are_known.ensures.table c.stores_stand.ensures.known _ c.requires.mounted c.args.channels.now (λ state. created_if_room state c.args.channels.now c.args.channel c.args.file.now) NO_ROOM (full c.cards_are_known.ensures.card c.cards_are_known.ensures.table c.files_are_found.ensures.told c.args.loaded.now c.args.channels.now c.args.channel c.df_on-df.result c.df_on-df.ensures c.args.file.now c.new_entry.result c.new_entry.ensures.made c.in-None.is)
