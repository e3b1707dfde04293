use Rattle.std.proofs.Common.{refl}
use Rattle.list_laws.proofs.IfSomeLemmas.{if_some}
use Rattle.card_state.specs.Memory.{held_by}
use Rattle.file_model.specs.Selecting.{file_selected}
use Rattle.binary_commands.proofs.GivesLemmas.{answered}
use Rattle.binary_commands.proofs.selecting.select.Goals as goal

pub returns-clause-performs : goal.returns-clause-performs
returns-clause-performs g c =
    if_some (held_by g.S.Store c.args.store.now) _ (λ state is.
    let told = c.tables_tell_states.ensures (g.S.Store.store_mark c.args.store.now) (g.S.Store.stable c.args.store.now) c.args.loaded.now state c.requires.place.mounted.agrees is in
    answered state _ _ _ _ _ (c.settle.ensures.answers (file_selected state c.args.selection.now c.args.command.now) (c.try_select-tried.ensures.tells state told)) is refl)
