use Rattle.std.proofs.Common.{◌≡◌, ap, sym, ◌∙◌, subst, ap₂}
use Rattle.std.specs.Cmp.Lexicographic.{pointwise}
use Rattle.card_state.specs.States.{rows_of}
use Rattle.toolkit_commands.specs.declared.commands.Proactive.TheVariants.{SetUpMenu}
use Rattle.toolkit_model.specs.Orderly.{CanBeSent}
use Rattle.toolkit_model.specs.Driving.{is_same_item}
use Rattle.proactive_handler.proofs.IsSameItemLemmas.{same_items, menu_sent}
use Rattle.proactive_handler.proofs.WantedLemmas.{menu_known, menu_new, sendable_if}
use Rattle.proactive_handler.proofs.wanting.menu_wanted.Goals as goal

pub returns-then-is_same-clause-value : goal.returns-then-is_same-clause-value
returns-then-is_same-clause-value c =
    let same_is : c.is_same.result ≡ pointwise is_same_item c.menu-items.result c.args.announced.now.menu =
    same_items c.menu-items.result c.menu.result.now c.is_same.result c.is_same.ensures ∙ ap (pointwise is_same_item c.menu-items.result) c.menu.ensures in
    menu_known c.args.profile.now (rows_of c.args.loaded.now) c.args.announced.now c.menu-items.result c.is_same.result c.menu-items.ensures same_is c.if-is_same.true

pub returns-clause-value : goal.returns-clause-value
returns-clause-value c =
    let same_is : c.is_same.result ≡ pointwise is_same_item c.menu-items.result c.args.announced.now.menu =
    same_items c.menu-items.result c.menu.result.now c.is_same.result c.is_same.ensures ∙ ap (pointwise is_same_item c.menu-items.result) c.menu.ensures in
    c.if_allowed.ensures.value
    ∙ menu_new c.args.profile.now (rows_of c.args.loaded.now) c.args.announced.now c.from_slice-title.result c.menu-items.result c.is_same.result
    c.from_slice-title.ensures.value c.menu-items.ensures same_is c.if-is_same.false

pub returns-clause-sendable : goal.returns-clause-sendable
returns-clause-sendable c =
    sendable_if c.if_allowed.result (SetUpMenu c.from_slice-title.result c.menu-items.result) c.if_allowed.ensures.same
    (subst CanBeSent (ap₂ SetUpMenu (sym c.from_slice-title.ensures.value) (sym c.menu-items.ensures))
    (menu_sent (rows_of c.args.loaded.now) c.requires.texts c.requires.few))
