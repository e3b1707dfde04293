use Rattle.std.proofs.Common.{◌≡◌, refl, sym, ◌∙◌, true, List}
use Rattle.std.specs.Cmp.Lexicographic.{pointwise}
use Rattle.card_state.specs.States.{rows_of}
use Rattle.toolkit_commands.specs.declared.items.Item.{Item}
use Rattle.toolkit_model.specs.Driving.{is_same_item}
use Rattle.toolkit_model.specs.Registry.{menu_of}
use Rattle.proactive_handler.proofs.IsSameItemLemmas.{same_items}
use Rattle.proactive_handler.proofs.WantedLemmas.{menu_known}
use Rattle.proactive_handler.proofs.wanting.is_menu_known.Goals as goal

pub returns : goal.returns
returns c = λ is.
    let told : List Item = c.args.announced.now.menu in
    let whole : told ≡ menu_of (rows_of c.args.loaded.now) = sym c.menu.ensures ∙ c.is_menu.ensures.0 is in
    let same_is : true ≡ pointwise is_same_item told told = same_items told told true ((λ yes. refl), (λ same. refl)) in
    menu_known c.args.profile.now (rows_of c.args.loaded.now) c.args.announced.now told true whole same_is refl
