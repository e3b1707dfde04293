use Rattle.std.proofs.Common.{arith, rules, sym, ◌∙◌}
use Rattle.applet_trait.specs.Tables.{rows}
use Rattle.boxed_applets.specs.Programs.{row_of}
use Rattle.boxed_applets.proofs.RowFromLemmas.{among_all, among_none, found_here, found_later}
use Rattle.boxed_applets.proofs.programs.row_from.Goals as goal

pub loop-row-init : goal.loop-row-init
loop-row-init c = record { same = among_all _ _ _; room = omega arith }

pub returns-then-is_meant : goal.returns-then-is_meant
returns-then-is_meant c =
    sym (found_here c.loop-row.place c.args.from c.args.event (rows c.loop-row.rest.now) (row_of c.in-Some.row) (rows c.in-Some.others.now) (search rules) (cc)) ∙ c.loop-row.invariant.same

pub loop-row-preserved : goal.loop-row-preserved
loop-row-preserved c = record {
  same = found_later c.loop-row.place c.args.from c.args.event (rows c.loop-row.rest.now) (row_of c.in-Some.row) (rows c.in-Some.others.now) (search rules) (cc) ∙ c.loop-row.invariant.same;
  room = omega (arith, c.in-Some.ensures.some);
}

pub returns : goal.returns
returns c = sym (among_none c.loop-row.place c.args.from c.args.event (rows c.loop-row.rest.now) (search rules)) ∙ c.loop-row.invariant.same
