use Rattle.std.proofs.Common.{sym, ◌∙◌}
use Rattle.card_state.specs.States.{rows_of}
use Rattle.applet_registry.proofs.items.is_menu.Goals as goal

pub loop-shelf-init : goal.loop-shelf-init
unfolding rows_of
loop-shelf-init c = ((λ whole. c.as_slice-rest.ensures.value ∙ whole), (λ same. sym c.as_slice-rest.ensures.value ∙ same))
