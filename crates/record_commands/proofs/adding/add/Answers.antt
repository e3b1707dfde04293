use Rattle.std.proofs.Common.{get_or, ◌≡◌, ℕ, ◌-◌, ◌<◌, ◌∙◌, arith, length-set, get_or-set_other}
use Rattle.record_commands.proofs.SumOfLemmas.{added_at, one_more, one_more_carried, all_carried}
use Rattle.record_commands.proofs.adding.add.Goals as goal

pub loop-at-preserved : goal.loop-at-preserved
loop-at-preserved c =
    let now = c.loop-at.invariant in
    let at : ℕ = c.loop-at.at in
    let some : 0 < at = omega (arith, c.loop-at-test.true) in
    let first : c.from.result ≡ get_or c.args.sum.now (at - 1) 0 = c.from.ensures ∙ now.front (at - 1) (omega (arith, some)) in
    let byte : c.from-in-loop-at.result ≡ added_at c.args.sum.now c.args.added.now (at - 1) = c.from-in-loop-at.ensures ∙ c.byte_at.ensures in
    record {
      bound = omega (arith, now.bound);
      long = length-set c.loop-at.sum (at - 1) _ ∙ now.long;
      front = λ k low. get_or-set_other c.loop-at.sum (at - 1) k _ 0 (λ same. absurd (omega (arith, same, low))) ∙ now.front k (omega (arith, low));
      back = one_more c.args.sum.now c.args.added.now c.loop-at.sum at c.from.result c.from-in-loop-at.result c.loop-at.carry c.requires some now.bound now.long first now.carried byte now.back;
      carried = one_more_carried c.args.sum.now c.args.added.now c.loop-at.sum at c.from.result c.from-in-loop-at.result c.loop-at.carry c.requires some now.bound now.long first now.carried byte;
      small = omega arith;
    }

pub returns-clause-carry : goal.returns-clause-carry
returns-clause-carry c = all_carried c.args.sum.now c.args.added.now c.loop-at.carry c.loop-at.at (omega (arith, c.loop-at-test.false)) c.loop-at.invariant.carried
