-- The 32 rows are read and checked, and then the 128 entries of files.
use Rattle.std.proofs.Common.{map}
use Rattle.std.specs.List.{range_with_len}
use Rattle.card_state.specs.Decoding.{row_at, node_at}
use Rattle.card_state.specs.Checks.{row_checks, node_checks}
use Rattle.layout_mount.proofs.FindsFirstLemmas.{found_both, FindsFirst_second, first_failed-append_found}
use Rattle.layout_mount.proofs.loading.load_rows_and_nodes.Goals as goal

pub returns-in-Ok-clause-found : goal.returns-in-Ok-clause-found
returns-in-Ok-clause-found c =
    found_both c.load_nodes.result c.args.into.now c.load_rows.new.rows (map (row_at c.args.image.now) (range_with_len 0 32)) c.load_nodes.new.nodes (map (node_at c.args.image.now) (range_with_len 0 128))
    c.in-Ok.ensures.found c.load_nodes.ensures.found

pub returns-in-Ok-clause-checked : goal.returns-in-Ok-clause-checked
returns-in-Ok-clause-checked c = FindsFirst_second (row_checks c.args.image.now) (node_checks c.args.image.now) c.load_nodes.result c.in-Ok.ensures.checked c.load_nodes.ensures.checked

pub returns-in-Err-clause-checked : goal.returns-in-Err-clause-checked
returns-in-Err-clause-checked c = first_failed-append_found (row_checks c.args.image.now) (node_checks c.args.image.now) c.in-Err.at c.in-Err.ensures.checked
