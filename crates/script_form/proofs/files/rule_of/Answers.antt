-- A dash names no rule.
use Rattle.std.proofs.Common.{rules}
use Rattle.script_form.proofs.IsRuleLemmas.{dash_rule}
use Rattle.script_form.proofs.files.rule_of.Goals as goal

pub returns-in-45 : goal.returns-in-45
returns-in-45 c = dash_rule c.args.word.now c.in-45.len_at_least c.in-45.len_below (search rules)
