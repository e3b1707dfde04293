use Rattle.std.proofs.Common.{rules}
use Rattle.access_rules.proofs.GrantsLemmas.{grants_is}
use Rattle.access_rules.proofs.rule_records.allowed.Goals as goal

pub returns-clause-value : goal.returns-clause-value
returns-clause-value c = grants_is c.args.rule.now c.args.op c.args.seen.now _ (search rules)
