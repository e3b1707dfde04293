-- The checks of the three slots are looked at in turn, up to the first that fails.
use Rattle.std.proofs.Common.{[], ◌∷◌, ◌∙◌}
use Rattle.card_state.specs.Checks.{pin_check}
use Rattle.layout_mount.proofs.FindsFirstLemmas.{failed_first, met_first}
use Rattle.layout_mount.proofs.loading.load_pins.Goals as goal

pub returns-in-Err-clause-checked : goal.returns-in-Err-clause-checked
returns-in-Err-clause-checked c =
    let check = pin_check c.args.image.now in
    failed_first (check 0) (check 1 ∷ check 2 ∷ []) c.in-Err.at c.in-Err.ensures.0 c.in-Err.ensures.1

pub returns-in-Err-load_pin-clause-checked : goal.returns-in-Err-load_pin-clause-checked
returns-in-Err-load_pin-clause-checked c =
    let check = pin_check c.args.image.now in
    met_first (check 0) (check 1 ∷ check 2 ∷ []) c.in-Ok.ensures.0
    ∙ failed_first (check 1) (check 2 ∷ []) c.in-Err-load_pin.at c.in-Err-load_pin.ensures.0 c.in-Err-load_pin.ensures.1

pub returns-in-Err-load_pin-2-clause-checked : goal.returns-in-Err-load_pin-2-clause-checked
returns-in-Err-load_pin-2-clause-checked c =
    let check = pin_check c.args.image.now in
    met_first (check 0) (check 1 ∷ check 2 ∷ []) c.in-Ok.ensures.0 ∙ met_first (check 1) (check 2 ∷ []) c.in-Ok-load_pin.ensures.0
    ∙ failed_first (check 2) [] c.in-Err-load_pin-2.at c.in-Err-load_pin-2.ensures.0 c.in-Err-load_pin-2.ensures.1

pub returns-in-Ok-load_pin-2-clause-checked : goal.returns-in-Ok-load_pin-2-clause-checked
returns-in-Ok-load_pin-2-clause-checked c =
    let check = pin_check c.args.image.now in
    met_first (check 0) (check 1 ∷ check 2 ∷ []) c.in-Ok.ensures.0 ∙ met_first (check 1) (check 2 ∷ []) c.in-Ok-load_pin.ensures.0
    ∙ met_first (check 2) [] c.in-Ok-load_pin-2.ensures.0
