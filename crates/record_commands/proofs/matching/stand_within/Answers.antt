use Rattle.std.proofs.Common.{◌∷◌, take, drop, ℕ, List, Bool, ◌+◌, ◌-◌, ◌==◌, ◌||◌, sym, ◌∙◌, ap, arith}
use Rattle.std.specs.List.{starts_with}
use Rattle.std.proofs.lemmas.Bool.{or_left}
use Rattle.file_model.specs.Records.{has_within}
use Rattle.record_commands.proofs.HasWithinLemmas.{looked_at, no_room_within, none_within}
use Rattle.record_commands.proofs.matching.stand_within.Goals as goal

pub returns-then-saturating_sub-others : goal.returns-then-saturating_sub-others
returns-then-saturating_sub-others c =
    sym (no_room_within c.args.first c.args.others.now c.loop-at.room c.loop-at.rest.now c.in-Some.at c.loop-at.invariant.within c.in-Some.ensures (omega (arith, c.if-saturating_sub-others.true, c.saturating_sub.ensures)))
    ∙ c.loop-at.invariant.same

pub returns-then-starts_with : goal.returns-then-starts_with
returns-then-starts_with c =
    let first = c.args.first in
    let others = c.args.others.now in
    let starts = ap (λ (behind : List ℕ). starts_with (λ a b. a == b) behind others) (sym c.split_at.ensures.back) ∙ sym c.starts_with.ensures.value ∙ c.if-starts_with.true in
    sym (or_left _ (has_within (first ∷ others) (take (c.loop-at.room - (c.in-Some.at + 1)) (drop (c.in-Some.at + 1) c.loop-at.rest.now))) starts)
    ∙ sym (looked_at first others c.loop-at.room c.loop-at.rest.now c.in-Some.at c.loop-at.invariant.within c.in-Some.ensures (omega (arith, c.if-saturating_sub-others.false, c.saturating_sub.ensures)))
    ∙ c.loop-at.invariant.same

pub loop-at-preserved : goal.loop-at-preserved
loop-at-preserved c =
    let first = c.args.first in
    let others = c.args.others.now in
    let left = c.loop-at.room - (c.in-Some.at + 1) in
    let starts = ap (λ (behind : List ℕ). starts_with (λ a b. a == b) behind others) (sym c.split_at.ensures.back) ∙ sym c.starts_with.ensures.value ∙ c.if-starts_with.false in
    record {
      within = omega (arith, c.loop-at.invariant.within, c.split_at.ensures.back_len);
      same =
          ap (λ (behind : List ℕ). has_within (first ∷ others) (take left behind)) c.split_at.ensures.back
          ∙ sym (ap (λ (is_begun : Bool). is_begun || has_within (first ∷ others) (take left (drop (c.in-Some.at + 1) c.loop-at.rest.now))) starts)
          ∙ sym (looked_at first others c.loop-at.room c.loop-at.rest.now c.in-Some.at c.loop-at.invariant.within c.in-Some.ensures (omega (arith, c.if-saturating_sub-others.false, c.saturating_sub.ensures)))
          ∙ c.loop-at.invariant.same;
    }

pub returns : goal.returns
returns c = sym (none_within c.args.first c.args.others.now c.loop-at.room c.loop-at.rest.now c.loop-at.invariant.within c.in_default.ensures) ∙ c.loop-at.invariant.same
