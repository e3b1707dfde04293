use Rattle.std.proofs.Common.{◌≡◌, ap, Some, length, replicate, arith}
use Rattle.access_rules.proofs.PairLemmas.{passed_granted, passed_not_granted, pairs_found, pairs_only, no_record}
use Rattle.access_rules.proofs.rule_records.granted.Goals as goal

pub returns-in_err-grants-clause-only : goal.returns-in_err-grants-clause-only
returns-in_err-grants-clause-only c = λ pairs filling form.
    let unfilled : c.loop-rest.rest.now ≡ replicate (length c.loop-rest.rest.now) 0xFF → ⊥ = λ h. grind (arith, c.is_filling.ensures.1 h) in
    absurd (no_record _ _ _ _ _ c.loop-rest.invariant unfilled c.in_err-grants.ensures.only pairs filling form)

pub loop-rest-preserved-then-truth : goal.loop-rest-preserved-then-truth
loop-rest-preserved-then-truth c =
    let unfilled : c.loop-rest.rest.now ≡ replicate (length c.loop-rest.rest.now) 0xFF → ⊥ = λ h. grind (arith, c.is_filling.ensures.1 h) in
    passed_granted _ _ _ _ _ _ _ c.loop-rest.invariant unfilled (record { found = c.in_ok-grants.ensures.found; only = c.in_ok-grants.ensures.only }) c.if-truth.true

pub loop-rest-preserved : goal.loop-rest-preserved
loop-rest-preserved c =
    let unfilled : c.loop-rest.rest.now ≡ replicate (length c.loop-rest.rest.now) 0xFF → ⊥ = λ h. grind (arith, c.is_filling.ensures.1 h) in
    passed_not_granted _ _ _ _ _ _ _ c.loop-rest.invariant unfilled (record { found = c.in_ok-grants.ensures.found; only = c.in_ok-grants.ensures.only }) c.if-truth.false

pub returns-clause-found : goal.returns-clause-found
returns-clause-found c = pairs_found _ _ _ _ _ c.loop-rest.invariant (c.is_filling.ensures.0 c.loop-rest-test.false)

pub returns-clause-only : goal.returns-clause-only
returns-clause-only c = λ pairs filling form. ap Some (pairs_only _ _ _ _ _ c.loop-rest.invariant (c.is_filling.ensures.0 c.loop-rest-test.false) pairs filling form)
