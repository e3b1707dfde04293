-- The digits of the front and those of the rest are the digits of all bytes.
use Rattle.std.proofs.Common.{◌++◌, ◌∙◌, List, ℕ, sym, ap, rules}
use Rattle.hex.specs.Hex.{encode_lower, lower_digits}
use Rattle.script_form.proofs.EncodeWithLemmas.{encode_with-append}
use Rattle.script_form.proofs.trace.put_digits.Goals as goal

pub returns-in-Some : goal.returns-in-Some
returns-in-Some c =
    let front = c.in-Some.front.now in
    let rest = c.in-Some.rest.now in
    ap (λ (digits : List ℕ). digits ++ c.encode_over-in-Some.new.digits) c.encode_over.ensures
    ∙ ap (λ (digits : List ℕ). encode_lower front ++ digits) c.encode_over-in-Some.ensures
    ∙ sym (encode_with-append lower_digits front rest)
    ∙ ap (λ (bytes : List ℕ). encode_lower bytes) (search rules)
