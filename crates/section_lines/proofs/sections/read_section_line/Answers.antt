use Rattle.applet_trait.specs.Minds.{minds_of}
use Rattle.section_lines.proofs.ReadingLemmas.{at_end, ends, in_script, out_of_place, takes, too_much}
use Rattle.section_lines.proofs.sections.read_section_line.Goals as goal

pub returns-in-Err-clause-line : goal.returns-in-Err-clause-line
returns-in-Err-clause-line g c = λ first text section.
    ends (minds_of g.B.Applet.mind c.args.cast.now) first text _ _ _ _ c.in-Err.fault (λ given follows. in_script (minds_of g.B.Applet.mind c.args.cast.now) text given c.args.card.now c.next.new.self (g.R.Source.left c.next.new.source) c.next.new.line c.in-Err.fault (c.in-Err.ensures.next text given follows)) section

pub returns-in-Ok-false-clause-line : goal.returns-in-Ok-false-clause-line
returns-in-Ok-false-clause-line g c = λ first text section.
    let next = rw c.in-Ok-false.field-0-test at c.in-Ok-false.ensures.next in
    ends (minds_of g.B.Applet.mind c.args.cast.now) first text _ _ _ _ c.next_is_bad.result (λ given follows. at_end (minds_of g.B.Applet.mind c.args.cast.now) text given c.args.card.now c.next.new.self (g.R.Source.left c.next.new.source) c.next.new.line c.next_is_bad.result (next text given follows) c.next_is_bad.ensures) section

pub returns-in-Ok-clause-line : goal.returns-in-Ok-clause-line
returns-in-Ok-clause-line g c = λ first text section.
    let next = rw c.in-Ok-true.field-0-test at c.in-Ok-true.ensures.next in
    takes (minds_of g.B.Applet.mind c.args.cast.now) first text _ _ _ _ c.args.card.now c.add_line.new.card c.next.new.line c.in-Ok.started (λ given follows. next text given follows) c.in-Ok.ensures section

pub returns-in-Err-Bad-clause-line : goal.returns-in-Err-Bad-clause-line
returns-in-Err-Bad-clause-line g c = λ first text section.
    let next = rw c.in-Ok-true.field-0-test at c.in-Ok-true.ensures.next in
    let added = rw c.in-Err-Bad.field-0-is at c.in-Err-Bad.ensures in
    ends (minds_of g.B.Applet.mind c.args.cast.now) first text _ _ _ _ _ (λ given follows. out_of_place (minds_of g.B.Applet.mind c.args.cast.now) text given c.args.card.now c.next.new.self _ c.next.new.line _ (next text given follows) (added.0, added.1) c.number.ensures) section

pub returns-in-Err-NoRoom-clause-line : goal.returns-in-Err-NoRoom-clause-line
returns-in-Err-NoRoom-clause-line g c = λ first text section.
    let next = rw c.in-Ok-true.field-0-test at c.in-Ok-true.ensures.next in
    let added = rw c.in-Err-NoRoom.field-0-is at c.in-Err-NoRoom.ensures in
    ends (minds_of g.B.Applet.mind c.args.cast.now) first text _ _ _ _ _ (λ given follows. too_much (minds_of g.B.Applet.mind c.args.cast.now) text given c.args.card.now c.next.new.self _ c.next.new.line _ (next text given follows) added.1 c.number-in-Err-NoRoom.ensures) section
