use Rattle.std.proofs.Common.{ap, ◌∙◌, arith}
use Rattle.script_form.specs.declared.handset.HandsetLine.TheVariants.{NetPlace, UserType}
use Rattle.long_runs.proofs.LoadLinesLemmas.{line_at}
use Rattle.long_runs.proofs.load_lines.line_of.Goals as goal

pub returns-in-0-clause-line : goal.returns-in-0-clause-line
returns-in-0-clause-line c = line_at c.args.word 0 c.in-0.is

pub returns-in-1-clause-line : goal.returns-in-1-clause-line
returns-in-1-clause-line c = line_at c.args.word 1 c.in-1.is

pub returns-in-2-clause-line : goal.returns-in-2-clause-line
returns-in-2-clause-line c = line_at c.args.word 2 c.in-2.is

pub returns-in-3-clause-line : goal.returns-in-3-clause-line
returns-in-3-clause-line c = ap NetPlace c.place_of.ensures ∙ line_at c.args.word 3 c.in-3.is

pub returns-in-4-clause-line : goal.returns-in-4-clause-line
returns-in-4-clause-line c = line_at c.args.word 4 c.in-4.is

pub returns-in-5-clause-line : goal.returns-in-5-clause-line
returns-in-5-clause-line c = line_at c.args.word 5 c.in-5.is

pub returns-in-6-clause-line : goal.returns-in-6-clause-line
returns-in-6-clause-line c = ap UserType c.from_slice.ensures.value ∙ line_at c.args.word 6 c.in-6.is

pub returns-in_default-clause-line : goal.returns-in_default-clause-line
returns-in_default-clause-line c = line_at c.args.word 7 (omega arith)
