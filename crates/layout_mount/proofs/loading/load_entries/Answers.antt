use Rattle.std.proofs.Common.{◌≡◌, ℕ, List, map, ◌++◌, ap, ◌∙◌, refl, ◌==◌}
use Rattle.std.specs.List.{range_with_len}
use Rattle.std.proofs.lemmas.Result.{on_ok_weaker}
use Rattle.card_state.specs.declared.entries.Loaded.{Loaded}
use Rattle.card_state.specs.Blank.{empty_table}
use Rattle.card_state.specs.Decoding.{is_wide, node_at, number_at, pin_at, row_at, table_of}
use Rattle.card_state.specs.Places.{sequence_place}
use Rattle.card_state.specs.declared.sizes.TheConstants.{NODE_COUNT, PIN_COUNT, ROW_COUNT}
use Rattle.card_state.proofs.KeyOfSlotLemmas.{same_table}
use Rattle.card_state.specs.Checks.{pin_checks, row_checks, node_checks}
use Rattle.layout_mount.proofs.FindsFirstLemmas.{FindsFirst_second, first_failed-append_found}
use Rattle.layout_mount.proofs.loading.load_entries.Goals as goal

pub load_rows_and_nodes-requires-clause-rows : goal.load_rows_and_nodes-requires-clause-rows
unfolding empty_table
load_rows_and_nodes-requires-clause-rows c = ap (λ (t : Loaded). t.rows) c.requires

pub load_rows_and_nodes-requires-clause-nodes : goal.load_rows_and_nodes-requires-clause-nodes
unfolding empty_table
load_rows_and_nodes-requires-clause-nodes c = ap (λ (t : Loaded). t.nodes) c.requires

-- a table whose parts were all read is that of the content
table_read : (content : List ℕ) (old new : Loaded)
    → new ≡ record old { rows = map (row_at content) (range_with_len 0 ROW_COUNT); nodes = map (node_at content) (range_with_len 0 NODE_COUNT) }
    → old.pins ≡ map (pin_at content) (range_with_len 0 PIN_COUNT) → old.next ≡ number_at content sequence_place → old.wide ≡ is_wide content
    → new ≡ table_of content
unfolding table_of
table_read content old new found pins next wide =
    let nodes = map (node_at content) (range_with_len 0 NODE_COUNT) in
    let rows = map (row_at content) (range_with_len 0 ROW_COUNT) in
    found ∙ same_table nodes nodes old.pins _ rows rows old.next _ old.wide _ refl pins refl next wide

pub returns-in-Ok-clause-found : goal.returns-in-Ok-clause-found
returns-in-Ok-clause-found c =
    let table : Loaded = record c.args.into.now { pins = c.in-Ok.pins; next = c.next-into.result; wide = c.byte.result == 2 } in
    on_ok_weaker c.load_rows_and_nodes.result
    (λ found. table_read c.args.image.now table c.load_rows_and_nodes.new.into found c.in-Ok.ensures.found c.next-into.ensures (ap (λ (n : ℕ). n == 2) c.byte.ensures))
    c.load_rows_and_nodes.ensures.found

pub returns-in-Ok-clause-checked : goal.returns-in-Ok-clause-checked
returns-in-Ok-clause-checked c =
    FindsFirst_second (pin_checks c.args.image.now) (row_checks c.args.image.now ++ node_checks c.args.image.now) c.load_rows_and_nodes.result c.in-Ok.ensures.checked c.load_rows_and_nodes.ensures.checked

pub returns-in-Err-clause-checked : goal.returns-in-Err-clause-checked
returns-in-Err-clause-checked c =
    first_failed-append_found (pin_checks c.args.image.now) (row_checks c.args.image.now ++ node_checks c.args.image.now) c.in-Err.at c.in-Err.ensures.checked
