use Rattle.std.proofs.Common.{◌++◌, length, sym, ◌∙◌}
use Rattle.access_rules.proofs.ObjectLemmas.{object-parts, object_joined, object_not_empty, split_once, not_split}
use Rattle.access_rules.proofs.objects.object_at.Goals as goal

pub returns-in_err-tag-clause-only : goal.returns-in_err-tag-clause-only
returns-in_err-tag-clause-only c = λ tag value rest fits spelled.
    absurd (object_not_empty tag value rest (sym c.in_err-tag.ensures ∙ spelled))

pub returns-in_err-length-clause-only : goal.returns-in_err-length-clause-only
returns-in_err-length-clause-only c = λ tag value rest fits spelled.
    let same = sym c.in_ok-tag.ensures ∙ spelled ∙ object-parts tag value rest in
    absurd (c.in_err-length.ensures.only (length value) (value ++ rest) fits (cc))

pub returns-in_err-value-clause-only : goal.returns-in_err-value-clause-only
returns-in_err-value-clause-only c = λ tag value rest fits spelled.
    let same = sym c.in_ok-tag.ensures ∙ spelled ∙ object-parts tag value rest in
    let parts = c.in_ok-length.ensures.only (length value) (value ++ rest) fits (cc) in
    absurd (not_split _ _ _ _ c.in_err-value.ensures.cases (c.from.ensures ∙ parts.0) parts.1)

pub returns-clause-found : goal.returns-clause-found
returns-clause-found c =
    object_joined _ _ _ _ _ _ _ _ c.in_ok-tag.ensures c.in_ok-length.ensures.found c.in_ok-value.ensures.cases c.from.ensures

pub returns-clause-only : goal.returns-clause-only
returns-clause-only c = λ tag value rest fits spelled.
    let same = sym c.in_ok-tag.ensures ∙ spelled ∙ object-parts tag value rest in
    let parts = c.in_ok-length.ensures.only (length value) (value ++ rest) fits (cc) in
    let split = split_once _ _ _ value rest _ c.in_ok-value.ensures.cases (c.from.ensures ∙ parts.0) parts.1 in
    (cc, split.0, split.1)
