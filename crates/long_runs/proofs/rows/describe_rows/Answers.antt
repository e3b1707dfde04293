use Rattle.std.proofs.Common.{◌≡◌, ◌∙◌, Err, sym, subst, refl, arith}
use Rattle.std.proofs.lemmas.Option.{slice_get_within}
use Rattle.card_state.specs.Persistent.{Persistent}
use Rattle.applet_trait.specs.Minds.{minds_of}
use Rattle.section_lines.specs.Script.{described}
use Rattle.long_runs.specs.FixedRows.{fixed_rows}
use Rattle.long_runs.specs.Rows.{AreDescribed}
use Rattle.long_runs.proofs.AreDescribedLemmas.{adds, all_described, described_more, refuses}
use Rattle.long_runs.proofs.rows.describe_rows.Goals as goal

pub loop-line-preserved : goal.loop-line-preserved
loop-line-preserved g c =
    let at = sym c.fixed_row.ensures ∙ c.in-Some.is in
    let below = slice_get_within fixed_rows c.loop-line.place c.in-Some.line at in
    let added = adds (described (minds_of g.B.Applet.mind c.args.cast.now) c.loop-line.section c.in-Some.line) c.loop-line.section c.describe.new.section c.describe.result c.in-Ok.is c.describe.ensures in
    record {
      within = omega (arith, below);
      described = described_more (minds_of g.B.Applet.mind c.args.cast.now) c.args.section.now c.loop-line.section c.describe.new.section c.loop-line.place c.in-Some.line at c.loop-line.invariant.described added.added;
    }

pub returns-in-Err : goal.returns-in-Err
returns-in-Err g c =
    let at = sym c.fixed_row.ensures ∙ c.in-Some.is in
    let none = refuses (described (minds_of g.B.Applet.mind c.args.cast.now) c.loop-line.section c.in-Some.line) c.loop-line.section c.describe.new.section c.describe.result c.in-Err.field-0 c.in-Err.is c.describe.ensures in
    record {
      place = c.loop-line.place;
      row = c.in-Some.line;
      fault = c.in-Err.field-0;
      number_is = refl;
      row_is = at;
      before = subst (λ (state : Persistent). AreDescribed (minds_of g.B.Applet.mind c.args.cast.now) c.args.section.now c.loop-line.place state) (sym none.same) c.loop-line.invariant.described;
      refused = subst (λ (state : Persistent). described (minds_of g.B.Applet.mind c.args.cast.now) state c.in-Some.line ≡ Err c.in-Err.field-0) (sym none.same) none.refused;
    }

pub returns : goal.returns
returns g c = all_described (minds_of g.B.Applet.mind c.args.cast.now) c.args.section.now c.loop-line.section c.loop-line.place (sym c.fixed_row.ensures ∙ c.in_default.is) c.loop-line.invariant.described
