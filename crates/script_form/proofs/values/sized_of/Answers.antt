use Rattle.std.proofs.Common.{sym, ◌∙◌}
use Rattle.script_form.proofs.IsHexLemmas.{not_sized}
use Rattle.script_form.proofs.values.sized_of.Goals as goal

pub returns-in-Err : goal.returns-in-Err
returns-in-Err g c = not_sized c.args.word.now g.row.N c.in-Err.field-0 (sym c.from_hex.ensures ∙ c.in-Err.is)
