use Rattle.std.proofs.Common.{get_or, ◌≡◌, ◌∙◌, sym, subst}
use Rattle.std.proofs.lemmas.Option.{slice_get_within, get_or_from_slice_get}
use Rattle.card_state.specs.Used.{HasRow}
use Rattle.card_commits.specs.Entries.{row_at}
use Rattle.card_commits.proofs.RowsLemmas.{row_there}
use Rattle.card_commits.proofs.rows.row_of.Goals as goal

pub bounds-all_rows-from : goal.bounds-all_rows-from
bounds-all_rows-from c = rw (c.from.ensures, c.all_rows.ensures.value) (slice_get_within c.args.loaded.now.rows c.args.shelf.0 _ (row_there c.args.loaded.now c.args.shelf.0 c.requires).there)

pub returns-clause-there : goal.returns-clause-there
returns-clause-there c =
    let has = row_there c.args.loaded.now c.args.shelf.0 c.requires in
    let same : get_or c.all_rows.result.now c.from.result c.index-all_rows-from.result ≡ row_at c.args.loaded.now c.args.shelf.0 =
    rw (c.from.ensures, c.all_rows.ensures.value) (get_or_from_slice_get c.args.loaded.now.rows c.args.shelf.0 (row_at c.args.loaded.now c.args.shelf.0) _ has.there) in
    subst (HasRow c.args.loaded.now c.args.shelf.0) (sym (c.index-all_rows-from.is ∙ same)) has
