use Rattle.card_state.specs.Memory.{memory}
use Rattle.file_model.specs.Records.{file_to_search, search_in, searched}
use Rattle.binary_commands.proofs.GivesLemmas.{file_gives, refusal_gives}
use Rattle.record_commands.proofs.searching.try_search.Goals as goal

pub returns-in-Ok-clause-gives : goal.returns-in-Ok-clause-gives
unfolding searched
returns-in-Ok-clause-gives g c =
    file_gives (memory g.S.Store c.args.store.now c.args.loaded.now) (λ state is. (c.tables_tell_states.ensures (g.S.Store.store_mark c.args.store.now) (g.S.Store.stable c.args.store.now) c.args.loaded.now state c.requires.place.mounted.agrees is).files) (λ files. file_to_search files c.args.selection.now c.args.command.now) (λ state. search_in state c.args.seen.now c.args.selection.now c.args.command.now) c.file_to_search.result c.file_to_search.ensures.value
    c.in-Ok.file c.in-Ok.is _ _ _ c.search_file.ensures.gives

pub returns-in-Err-clause-gives : goal.returns-in-Err-clause-gives
unfolding searched
returns-in-Err-clause-gives g c =
    refusal_gives (memory g.S.Store c.args.store.now c.args.loaded.now) (λ state is. (c.tables_tell_states.ensures (g.S.Store.store_mark c.args.store.now) (g.S.Store.stable c.args.store.now) c.args.loaded.now state c.requires.place.mounted.agrees is).files) (λ files. file_to_search files c.args.selection.now c.args.command.now) (λ state. search_in state c.args.seen.now c.args.selection.now c.args.command.now) c.file_to_search.result c.file_to_search.ensures.value
    c.in-Err.status c.in-Err.is c.args.out.now
