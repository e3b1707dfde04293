use Rattle.std.proofs.Common.{◌≡◌, ◌<◌, [], ◌∷◌, length, arith, rules}
use Rattle.std.proofs.lemmas.Bool.Decides.{nat_tests}
use Rattle.std.proofs.lemmas.List.{nil_from_length}
use Rattle.comprehension_tlv.proofs.ReadingLemmas.{template_fits, template_is, template_found, no_template, trails, one_template}
use Rattle.comprehension_tlv.proofs.templates.read_template.Goals as goal

pub returns-in_err-content-clause-only : goal.returns-in_err-content-clause-only
returns-in_err-content-clause-only c = λ tag content h.
    let whole : c.args.bytes.now ≡ c.in_ok-tag.tag.now ∷ c.in_ok-tag.rest.now = search rules in
    absurd (no_template c.args.bytes.now c.in_ok-tag.rest.now c.in_ok-tag.tag.now _ tag content whole c.in_err-content.ensures.exact h)

pub returns-then-not-is_empty-clause-only : goal.returns-then-not-is_empty-clause-only
returns-then-not-is_empty-clause-only c = λ tag content h.
    let whole : c.args.bytes.now ≡ c.in_ok-tag.tag.now ∷ c.in_ok-tag.rest.now = search rules in
    let more : 0 < length c.in_ok-content.rest.now = grind (arith, nat_tests) in
    trails c.args.bytes.now c.in_ok-tag.rest.now c.in_ok-content.content.now c.in_ok-content.rest.now c.in_ok-tag.tag.now tag content whole c.in_ok-content.ensures.exact more h

pub returns-clause-found : goal.returns-clause-found
returns-clause-found c =
    let whole : c.args.bytes.now ≡ c.in_ok-tag.tag.now ∷ c.in_ok-tag.rest.now = search rules in
    let end : c.in_ok-content.rest.now ≡ [] = nil_from_length c.in_ok-content.rest.now (grind (arith, nat_tests)) in
    template_found c.args.bytes.now c.in_ok-tag.tag.now c.in_ok-content.content.now
    (template_is c.args.bytes.now c.in_ok-tag.rest.now c.in_ok-content.content.now c.in_ok-content.rest.now c.in_ok-tag.tag.now whole c.in_ok-content.ensures.exact end)

pub returns-clause-only : goal.returns-clause-only
returns-clause-only c = λ tag content h.
    one_template c.args.bytes.now c.in_ok-content.content.now content c.in_ok-tag.tag.now tag (returns-clause-found c) h

pub returns-clause-fits : goal.returns-clause-fits
returns-clause-fits c = template_fits c.args.bytes.now c.in_ok-tag.tag.now c.in_ok-content.content.now (returns-clause-found c)
