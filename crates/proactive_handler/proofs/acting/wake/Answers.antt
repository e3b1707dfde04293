use Rattle.std.proofs.Common.{◌≡◌, refl, sym, ap, ◌∙◌, get_or, ℕ, List}
use Rattle.applet_trait.specs.Minds.{fresh}
use Rattle.proactive_handler.proofs.HasRowOnLemmas.{kept_there}
use Rattle.proactive_handler.proofs.acting.wake.Goals as goal

pub returns : goal.returns
returns g c =
    let same : get_or c.all_rows.result.now c.from.result c.index-all_rows-from.result ≡ get_or c.args.loaded.now.rows c.args.shelf.0 c.index-all_rows-from.result =
    rw (c.from.ensures, c.all_rows.ensures.value) refl in
    c.wake.ensures
    ∙ ap (λ (kept : List ℕ). fresh (g.B.Applet.mind c.args.applet.now).kind kept)
    (sym (kept_there c.args.loaded.now c.args.shelf.0 c.index-all_rows-from.result c.states_are_of_entries.ensures.tables c.states_are_of_entries.ensures.rows (c.index-all_rows-from.is ∙ same) c.requires.row))
