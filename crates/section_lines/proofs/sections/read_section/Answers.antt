use Rattle.std.proofs.Common.{true, false, ◌≡◌, ◌∙◌, rules}
use Rattle.section_lines.proofs.sections.read_section.Goals as goal

pub returns-in_err-read_section_line-clause-card : goal.returns-in_err-read_section_line-clause-card
returns-in_err-read_section_line-clause-card g c = λ first text section.
    let ended = c.in_err-read_section_line.ensures.line first text (c.loop.invariant.section first text section) in
    search (rules, ended, c.from_residual.ensures)

pub loop-preserved : goal.loop-preserved
loop-preserved g c =
    let goes_on : c.in_ok-read_section_line.field-0 ≡ false = cc in
    let line = rw goes_on at c.in_ok-read_section_line.ensures.line in
    record {
      section = λ first text section. line first text (c.loop.invariant.section first text section);
      within = λ text within. c.in_ok-read_section_line.ensures.within text (c.loop.invariant.within text within);
      no_failure = c.in_ok-read_section_line.ensures.cause.no_failure (λ is. cc is) ∙ c.loop.invariant.no_failure;
    }

pub returns-clause-card : goal.returns-clause-card
returns-clause-card g c = λ first text section.
    let ended : c.in_ok-read_section_line.field-0 ≡ true = cc in
    let line = rw ended at c.in_ok-read_section_line.ensures.line in
    line first text (c.loop.invariant.section first text section)
