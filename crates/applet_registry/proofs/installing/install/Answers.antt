-- The lemma of each refusal wants the answers of all tests before it, and that of the row wants a next number below the last one.
use Rattle.std.proofs.Common.{◌≡◌, ◌<◌, true, false, sym, ◌∙◌, arith, rules, ◌==◌}
use Rattle.std.proofs.lemmas.Bool.Decides.{nat_tests}
use Rattle.toolkit_model.specs.Registry.{last_sequence}
use Rattle.applet_registry.proofs.ReadsInstallationLemmas.{too_narrow, is_taken_already, no_room, no_number, is_admitted}
use Rattle.applet_registry.proofs.installing.install.Goals as goal

pub returns-then-is_too_narrow-clause-row : goal.returns-then-is_too_narrow-clause-row
returns-then-is_too_narrow-clause-row c = λ held.
    too_narrow c.args.loaded.now held c.args.kind c.args.shelf.0 c.args.priority c.in-Some-kind.kind c.args.content.now c.in-Some.installed c.new_row-row.result c.in-Some-kind.is (c.new_row-row.ensures.row c.args.shelf.0) c.in-Some.ensures
    (sym c.is_too_narrow.ensures ∙ c.if-is_too_narrow.true)

pub returns-then-is_taken-clause-row : goal.returns-then-is_taken-clause-row
returns-then-is_taken-clause-row c = λ held.
    is_taken_already c.args.loaded.now held c.args.kind c.args.shelf.0 c.args.priority c.in-Some-kind.kind c.args.content.now c.in-Some.installed c.new_row-row.result c.in-Some-kind.is (c.new_row-row.ensures.row c.args.shelf.0) c.in-Some.ensures
    (sym c.is_too_narrow.ensures ∙ c.if-is_too_narrow.false) (sym c.is_taken.ensures ∙ c.if-is_taken.true)

pub returns-then-exceeds_menu-clause-row : goal.returns-then-exceeds_menu-clause-row
returns-then-exceeds_menu-clause-row c = λ held.
    no_room c.args.loaded.now held c.args.kind c.args.shelf.0 c.args.priority c.in-Some-kind.kind c.args.content.now c.in-Some.installed c.new_row-row.result c.in-Some-kind.is (c.new_row-row.ensures.row c.args.shelf.0) c.in-Some.ensures
    (sym c.is_too_narrow.ensures ∙ c.if-is_too_narrow.false) (sym c.is_taken.ensures ∙ c.if-is_taken.false)
    (sym (c.exceeds_menu.ensures c.args.shelf.0) ∙ c.if-exceeds_menu.true)

pub returns-then-loaded-clause-row : goal.returns-then-loaded-clause-row
returns-then-loaded-clause-row c = λ held.
    let spent : (c.args.loaded.now.next == last_sequence) ≡ true = grind (arith, nat_tests, c.if-loaded.true) in
    no_number c.args.loaded.now held c.args.kind c.args.shelf.0 c.args.priority c.in-Some-kind.kind c.args.content.now c.in-Some.installed c.new_row-row.result c.in-Some-kind.is (c.new_row-row.ensures.row c.args.shelf.0) c.in-Some.ensures
    (sym c.is_too_narrow.ensures ∙ c.if-is_too_narrow.false) (sym c.is_taken.ensures ∙ c.if-is_taken.false)
    (sym (c.exceeds_menu.ensures c.args.shelf.0) ∙ c.if-exceeds_menu.false) spent

pub returns-else-loaded-clause-row : goal.returns-else-loaded-clause-row
returns-else-loaded-clause-row c = λ held.
    let left : (c.args.loaded.now.next == last_sequence) ≡ false = grind (arith, nat_tests, c.if-loaded.false) in
    is_admitted c.args.loaded.now held c.args.kind c.args.shelf.0 c.args.priority c.in-Some-kind.kind c.args.content.now c.in-Some.installed c.new_row-row.result c.in-Some-kind.is (c.new_row-row.ensures.row c.args.shelf.0) c.in-Some.ensures
    (sym c.is_too_narrow.ensures ∙ c.if-is_too_narrow.false) (sym c.is_taken.ensures ∙ c.if-is_taken.false)
    (sym (c.exceeds_menu.ensures c.args.shelf.0) ∙ c.if-exceeds_menu.false) left

pub returns-else-loaded-clause-admitted : goal.returns-else-loaded-clause-admitted
returns-else-loaded-clause-admitted c =
    let left : c.args.loaded.now.next < last_sequence = search (rules, c.if-loaded.false) in
    record {
      width = sym c.is_too_narrow.ensures ∙ c.if-is_too_narrow.false;
      free = sym c.is_taken.ensures ∙ c.if-is_taken.false;
      menu = sym (c.exceeds_menu.ensures c.args.shelf.0) ∙ c.if-exceeds_menu.false;
      left = left;
    }
