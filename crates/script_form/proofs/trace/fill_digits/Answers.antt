-- The digits of a line, filled in from its front on and then raised.
use Rattle.std.proofs.Common.{◌≡◌, ◌+◌, ◌-◌, ◌*◌, ◌++◌, ◌∷◌, [], ◌∙◌, ℕ, List, length, take, ap, arith}
use Rattle.hex.specs.Hex.{encode_lower, lower_digits}
use Rattle.hex.proofs.HexLemmas.{length-encode_with}
use Rattle.script_form.proofs.EncodeWithLemmas.{digits_filled, digits_raised}
use Rattle.script_form.proofs.trace.fill_digits.Goals as goal
use borrow.Rule.Slice.PartMut.{put_mid, same_len_mid}

pub returns-clause-line : goal.returns-clause-line
returns-clause-line c =
    let text = c.args.text.now in
    let body = c.args.body.now in
    let status = c.args.status.now in
    let first = c.put_digits.new.digits in
    let second = c.put_digits-2.new.digits in
    let middle : ℕ = 2 * length body in
    let end : ℕ = middle + 2 * length status in
    let first_size : length first ≡ 2 * length body = ap (λ (xs : List ℕ). length xs) c.put_digits.ensures ∙ length-encode_with lower_digits body in
    let second_size : length second ≡ 2 * length status = ap (λ (xs : List ℕ). length xs) c.put_digits-2.ensures ∙ length-encode_with lower_digits status in
    let longer = same_len_mid 0 middle text first c.put_digits.auto.digits in
    let filled = same_len_mid middle (end - middle) (put_mid 0 middle text first) second c.put_digits-2.auto.digits in
    ap (take (end + 1)) c.make_ascii_uppercase.ensures.after
    ∙ digits_raised _ body status end
    (digits_filled text first second middle end middle (end - middle) (omega (arith, first_size)) (omega (arith, second_size))
    (omega (arith, c.requires.fits, longer)) (omega (arith, c.requires.fits, longer, filled))
    ∙ ap (λ (xs : List ℕ). (xs ++ second) ++ 10 ∷ []) c.put_digits.ensures
    ∙ ap (λ (xs : List ℕ). (encode_lower body ++ xs) ++ 10 ∷ []) c.put_digits-2.ensures)
