use Rattle.std.proofs.Common.{◌≡◌, [], refl, sym, ap, ◌∙◌, arith}
use Rattle.std.proofs.lemmas.List.{nil_from_length}
use Rattle.std.proofs.lemmas.Result.{err_from_is_err_and}
use Rattle.std.proofs.lemmas.Bool.Decides.{nat_tests}
use Rattle.comprehension_tlv.specs.Reading.{outline_at}
use Rattle.comprehension_tlv.specs.Seen.{object_of}
use Rattle.comprehension_tlv.proofs.OutlineAtLemmas.{outline_at-nil, outline_at-object, outline_at-fault}
use Rattle.comprehension_tlv.proofs.walks.Walk.next.Goals as goal

pub returns-then-is_empty : goal.returns-then-is_empty
returns-then-is_empty c =
    let inside = c.self.inside in
    let nil : inside.rest.now ≡ [] = nil_from_length inside.rest.now (grind (arith, nat_tests)) in
    (sym c.self.view_is ∙ ap (outline_at inside.at) nil ∙ outline_at-nil inside.at, refl)

pub returns-in_err-part : goal.returns-in_err-part
returns-in_err-part c =
    let p = err_from_is_err_and c.from_residual.result c.from_residual.ensures.1 in
    let inside = c.self.inside in
    rw (p.1, p.2)
    (sym c.self.view_is ∙ outline_at-fault inside.at inside.rest.now _ (grind (arith, nat_tests)) c.in_err-part.ensures.exact, refl)

pub returns : goal.returns
returns c =
    let inside = c.self.inside in
    sym c.self.view_is ∙ outline_at-object inside.at inside.rest.now (object_of c.in_ok-part.part) c.in_ok-part.rest.now c.in_ok-part.ensures.exact
