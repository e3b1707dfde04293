use Rattle.std.proofs.Common.{◌≡◌, ℕ, ◌+◌, ◌<◌, ◌++◌, ◌∷◌, [], List, length, get_or, drop, sym, ap, ◌∙◌, arith, rules, length-append}
use Rattle.card_state.specs.declared.entries.Row.{Row}
use Rattle.card_state.specs.States.{rows_of, registration_of}
use Rattle.toolkit_commands.specs.declared.items.Item.{Item}
use Rattle.toolkit_model.specs.Registry.{item_of, menu_of}
use Rattle.applet_registry.proofs.RowsOfLemmas.{items_from, with_item, item_count}
use Rattle.applet_registry.proofs.items.menu.Goals as goal

pub loop-shelf-init : goal.loop-shelf-init
unfolding rows_of
loop-shelf-init c = ap (λ (l : List Item). l ++ items_from 0 c.args.loaded.now.rows) c.new-items.ensures

pub unreachable-requires : goal.unreachable-requires
unreachable-requires c =
    let row : Row = c.index-rows-from.result in
    let shelf : ℕ = c.loop-shelf.shelf in
    let long : length c.args.loaded.now.rows ≡ 32 = sym (ap (λ (l : List Row). length l) c.all_rows-rows.ensures.value) ∙ c.all_rows-rows.ensures.long in
    let read : row ≡ get_or c.args.loaded.now.rows shelf row = search (rules, c.index-rows-from.is, c.from.ensures, c.all_rows-rows.ensures.value) in
    let whole = with_item c.args.loaded.now.rows c.loop-shelf.items (menu_of (rows_of c.args.loaded.now)) shelf row (omega (arith, long, c.loop-shelf-test.true)) read c.loop-shelf.invariant (sym c.shows_item.ensures ∙ c.if-shows_item.true) in
    let rest : List Item = items_from (shelf + 1) (drop (shelf + 1) c.args.loaded.now.rows) in
    let few : length c.loop-shelf.items < 16 =
    omega (
      arith,
      ap (λ (l : List Item). length l) whole,
      length-append (c.loop-shelf.items ++ item_of (registration_of shelf row) ∷ []) rest,
      length-append c.loop-shelf.items (item_of (registration_of shelf row) ∷ []),
      item_count (rows_of c.args.loaded.now),
      c.requires,
    ) in
    cc (c.in-Err.ensures.room.1 few)
