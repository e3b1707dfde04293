use Rattle.std.proofs.Common.{◌≡◌, ◌&&◌, arith}
use Rattle.std.proofs.lemmas.Grind.{common_steps}
use Rattle.access_rules.proofs.PairLemmas.{pair_joined}
use Rattle.access_rules.proofs.rule_records.pair_at.Goals as goal

pub returns-clause-found : goal.returns-clause-found
returns-clause-found c =
    let mode = c.in_ok-named.ensures.found in
    let condition = c.in_ok-holds.ensures.found in
    let grants : c.if-named.result ≡ (c.in_ok-named.named && c.in_ok-holds.holds) = grind (arith, common_steps) in
    (record { mode = mode.0; condition = condition.0 }, condition.1, pair_joined _ _ _ _ _ _ _ c.in_ok-mode.ensures.found mode.1 mode.2 condition.2, cc)
