-- The value read under each tag is one condition, and conditions spell a whole group exactly where others spell what is left of it.
use Rattle.std.proofs.Common.{◌≡◌, ◌<◌, length, ap, Some, arith}
use Rattle.std.proofs.lemmas.Grind.{common_steps}
use Rattle.access_rules.proofs.SaysLemmas.{says_always, says_never, says_key, says_some, says_all}
use Rattle.access_rules.proofs.HoldByLemmas.{passed_one, passed_all, passed_only, passed_not}
use Rattle.access_rules.proofs.conditions.+conditions.Goals as goal

pub condition_holds-returns-in-144-clause-found : goal.condition_holds-returns-in-144-clause-found
condition_holds-returns-in-144-clause-found t c =
    says_always c.if_empty.result c.args.tag c.args.value.now c.args.levels c.args.seen.now c.in-144.is c.if_empty.ensures.found

pub condition_holds-returns-in-151-clause-found : goal.condition_holds-returns-in-151-clause-found
condition_holds-returns-in-151-clause-found t c =
    says_never c.if_empty-in-151.result c.args.tag c.args.value.now c.args.levels c.args.seen.now c.in-151.is c.if_empty-in-151.ensures.found

pub condition_holds-returns-in-164-clause-found : goal.condition_holds-returns-in-164-clause-found
condition_holds-returns-in-164-clause-found t c =
    says_key c.key_holds.result c.args.tag c.args.value.now c.args.levels c.args.seen.now c.in-164.is c.key_holds.ensures.found

pub condition_holds-returns-in-160-clause-found : goal.condition_holds-returns-in-160-clause-found
condition_holds-returns-in-160-clause-found t c =
    says_some c.group_holds.result c.args.tag c.args.value.now c.args.levels c.args.seen.now c.in-160.is c.group_holds.ensures.found

pub condition_holds-returns-in-175-clause-found : goal.condition_holds-returns-in-175-clause-found
condition_holds-returns-in-175-clause-found t c =
    says_all c.group_holds-in-175.result c.args.tag c.args.value.now c.args.levels c.args.seen.now c.in-175.is c.group_holds-in-175.ensures.found

pub conditions_hold-returns-in_err-holds-clause-only :
    goal.conditions_hold-returns-in_err-holds-clause-only
conditions_hold-returns-in_err-holds-clause-only t c = λ conditions proper spells.
    let some : 0 < length c.loop-rest.rest.now = grind (arith, common_steps) in
    absurd (passed_not _ _ _ _ _ _ c.loop-rest.invariant some c.in_err-holds.ensures.only conditions proper spells)

pub conditions_hold-loop-rest-preserved : goal.conditions_hold-loop-rest-preserved
conditions_hold-loop-rest-preserved t c =
    rw c.join-truth.ensures (passed_one _ _ _ _ _ _ _ _ c.loop-rest.invariant (record {
      found = c.in_ok-holds.ensures.found;
      only = c.in_ok-holds.ensures.only;
    }))

pub conditions_hold-returns-clause-found : goal.conditions_hold-returns-clause-found
conditions_hold-returns-clause-found t c =
    let empty : length c.loop-rest.rest.now ≡ 0 = grind (arith, common_steps) in
    passed_all _ _ _ _ _ _ c.loop-rest.invariant empty

pub conditions_hold-returns-clause-only : goal.conditions_hold-returns-clause-only
conditions_hold-returns-clause-only t c = λ conditions proper spells.
    let empty : length c.loop-rest.rest.now ≡ 0 = grind (arith, common_steps) in
    ap Some (passed_only _ _ _ _ _ _ c.loop-rest.invariant empty conditions proper spells)
