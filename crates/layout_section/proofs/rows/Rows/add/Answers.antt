use Rattle.std.proofs.Common.{◌≡◌, ℕ, set, get_or, true, false, ◌+◌, ◌<◌, ◌∙◌, sym, ap, subst, refl, arith}
use Rattle.card_state.specs.declared.entries.Row.{Row}
use Rattle.card_state.specs.Blank.{unused_row}
use Rattle.card_state.specs.Sections.{with_row}
use Rattle.card_state.specs.Installations.{registered}
use Rattle.layout_section.specs.Adding.{RowList}
use Rattle.layout_section.specs.Installing.{may_take}
use Rattle.layout_section.specs.RowTables.{AreRowsOf}
use Rattle.layout_section.proofs.RowTablesLemmas.{rows_in, shelf_taken, row_put, row_kept, may_parts}
use Rattle.layout_section.proofs.rows.Rows.add.Goals as goal

pub bounds-self-inside-from : goal.bounds-self-inside-from
bounds-self-inside-from c =
    let may = may_parts c.self.inside.rows c.args.shelf.0 c.args.priority c.args.installed (ap (λ (rows : RowList). may_take rows.list c.args.shelf.0 c.args.priority c.args.installed) c.self.view_is ∙ c.requires.may) in
    omega (arith, may.0)

pub invariant_of-self : goal.invariant_of-self
invariant_of-self c =
    let row : Row = record { used = true; kind = c.args.kind; priority = c.args.priority; sequence = c.self.inside.next; events = c.args.installed.events; text = c.args.installed.text; kept = c.args.installed.kept } in
    let may = may_parts c.self.inside.rows c.args.shelf.0 c.args.priority c.args.installed (ap (λ (rows : RowList). may_take rows.list c.args.shelf.0 c.args.priority c.args.installed) c.self.view_is ∙ c.requires.may) in
    let same : c.args.shelf.0 ≡ c.from.result = omega arith in
    let low : c.args.shelf.0 < 32 = may.0 in
    let free : (get_or c.self.inside.rows c.args.shelf.0 unused_row).used ≡ false = sym (shelf_taken c.self.inside.rows c.args.shelf.0 unused_row (omega arith)) ∙ may.2 in
    subst (λ (n : ℕ). AreRowsOf (set c.self.inside.rows n row) (c.self.inside.next + 1)) same
    (row_kept c.self.inside.rows c.self.inside.next c.args.shelf.0 row may.3 may.4 (omega arith) low free refl refl
    (record { kind = c.requires.kind; priority = may.1; sequence = omega arith; events = c.requires.parts.events; text = c.requires.parts.text; kept = c.requires.parts.kept }) c.self.invariant)

pub returns-clause-list : goal.returns-clause-list
returns-clause-list c =
    let row : Row = record { used = true; kind = c.args.kind; priority = c.args.priority; sequence = c.self.inside.next; events = c.args.installed.events; text = c.args.installed.text; kept = c.args.installed.kept } in
    let may = may_parts c.self.inside.rows c.args.shelf.0 c.args.priority c.args.installed (ap (λ (rows : RowList). may_take rows.list c.args.shelf.0 c.args.priority c.args.installed) c.self.view_is ∙ c.requires.may) in
    let same : c.args.shelf.0 ≡ c.from.result = omega arith in
    let low : c.args.shelf.0 < 32 = may.0 in
    let free : (get_or c.self.inside.rows c.args.shelf.0 unused_row).used ≡ false = sym (shelf_taken c.self.inside.rows c.args.shelf.0 unused_row (omega arith)) ∙ may.2 in
    subst (λ (n : ℕ). rows_in (set c.self.inside.rows n row) ≡ with_row c.args.self.now.list (registered c.args.shelf.0 c.args.kind c.args.priority c.args.self.now.next c.args.installed)) same
    (row_put c.self.inside.rows c.args.shelf.0 row unused_row (omega arith) free refl
    ∙ ap (λ (rows : RowList). with_row rows.list (registered c.args.shelf.0 c.args.kind c.args.priority rows.next c.args.installed)) c.self.view_is)
