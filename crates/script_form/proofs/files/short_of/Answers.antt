-- A dash is no number.
use Rattle.std.proofs.Common.{rules}
use Rattle.script_form.proofs.IsNumberLemmas.{dash_short}
use Rattle.script_form.proofs.files.short_of.Goals as goal

pub returns-in-45 : goal.returns-in-45
returns-in-45 c = dash_short c.args.word.now c.in-45.len_at_least c.in-45.len_below (search rules)
