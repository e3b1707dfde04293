-- A word is parted in one way.
use Rattle.std.proofs.Common.{rules}
use Rattle.script_form.proofs.IsRuleLemmas.{same_parts}
use Rattle.script_form.proofs.files.rule_parts.Goals as goal

pub returns-then-first-eq58-clause-only : goal.returns-then-first-eq58-clause-only
returns-then-first-eq58-clause-only c = λ file number four parted.
    let same = same_parts c.args.word.now c.in_ok-file.file.now c.in_ok-first.number.now file number c.in_ok-first.first.now (search rules) parted (search rules) four in
    (same.0, same.2)

pub returns-else-first-eq58-clause-only : goal.returns-else-first-eq58-clause-only
returns-else-first-eq58-clause-only c = λ file number four parted.
    let same = same_parts c.args.word.now c.in_ok-file.file.now c.in_ok-first.number.now file number c.in_ok-first.first.now (search rules) parted (search rules) four in
    c.if-first-eq58.false same.1
