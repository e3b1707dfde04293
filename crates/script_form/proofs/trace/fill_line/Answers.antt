-- A line is its mark, a space and the digits.
use Rattle.std.proofs.Common.{◌≡◌, ◌∷◌, ◌∙◌, ℕ, List, length, slice_set, ap, arith}
use Rattle.std.proofs.lemmas.List.{length-set}
use Rattle.script_form.proofs.EncodeWithLemmas.{line_marked}
use Rattle.script_form.proofs.trace.fill_line.Goals as goal

pub returns-clause-line : goal.returns-clause-line
returns-clause-line c =
    let text = c.args.text.now in
    let mark = c.args.mark in
    let marked_text = slice_set (slice_set text 0 mark) 1 32 in
    let size : length marked_text ≡ length text = length-set (slice_set text 0 mark) 1 32 ∙ length-set text 0 mark in
    line_marked text c.fill_digits.new.text mark _ c.fill_digits.result (omega (arith, c.requires.fits)) (omega (arith, c.requires.fits, size)) c.fill_digits.ensures.within
    ∙ ap (λ (behind : List ℕ). mark ∷ 32 ∷ behind) c.fill_digits.ensures.line
