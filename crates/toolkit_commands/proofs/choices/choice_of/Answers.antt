use Rattle.std.proofs.Common.{◌≤◌, length, sym, ap, ◌∙◌, arith}
use Rattle.std.proofs.lemmas.Grind.{common_steps}
use Rattle.std.proofs.lemmas.Result.{err_from_is_err_and}
use Rattle.comprehension_tlv.specs.Seen.{object_of}
use Rattle.toolkit_commands.specs.Values.{items_of, values}
use Rattle.toolkit_commands.proofs.ItemsOfLemmas.{with_front, too_many, next_value}
use Rattle.toolkit_commands.proofs.choices.choice_of.Goals as goal

pub returns-in_err-push-clause-exact : goal.returns-in_err-push-clause-exact
returns-in_err-push-clause-exact c =
    let p = err_from_is_err_and c.from_residual-in_err-push.result c.from_residual-in_err-push.ensures.1 in
    let front = c.loop-part.items in
    let object = object_of c.in-Some.part in
    let left = c.loop-part.parts in
    let next = c.next.new.self in
    let step = rw c.in-Some.is at c.in_ok-part.ensures in
    let found = next_value left next object step c.if-part-eq-ITEM.true in
    let long : 16 ≤ length front = grind (arith, common_steps) in
    let full = too_many front c.in_ok-item_of.field-0 object.value (values 15 next.objects) long (sym c.in_ok-item_of.ensures) in
    rw (p.1, p.2) (sym (sym c.loop-part.invariant.0 ∙ ap (λ v. with_front front (items_of v)) found ∙ full))
