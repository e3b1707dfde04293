use Rattle.std.proofs.Common.{◌++◌}
use Rattle.card_state.specs.Checks.{checks, header_checks, pin_checks, row_checks, node_checks}
use Rattle.layout_mount.proofs.FindsFirstLemmas.{FindsFirst_second, first_failed-append_found}
use Rattle.layout_mount.proofs.loading.load.Goals as goal

pub returns-in-Ok-clause-checked : goal.returns-in-Ok-clause-checked
unfolding checks
returns-in-Ok-clause-checked c =
    FindsFirst_second (header_checks c.args.mark c.args.image.now) (pin_checks c.args.image.now ++ (row_checks c.args.image.now ++ node_checks c.args.image.now)) c.load_entries.result c.in-Ok.ensures
    c.load_entries.ensures.checked

pub returns-in-Err-clause-checked : goal.returns-in-Err-clause-checked
unfolding checks
returns-in-Err-clause-checked c =
    first_failed-append_found (header_checks c.args.mark c.args.image.now) (pin_checks c.args.image.now ++ (row_checks c.args.image.now ++ node_checks c.args.image.now)) c.in-Err.at c.in-Err.ensures
