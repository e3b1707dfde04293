-- The word of a number has one to nine digits, and none but `0` itself begins with a zero.
use Rattle.std.proofs.Common.{lit<, arith}
use Rattle.std.proofs.lemmas.Bool.Decides.{nat_tests}
use Rattle.script_form.proofs.IsNumberLemmas.{number_read, numeral, zero_read}
use Rattle.script_form.proofs.values.decimal_of.Goals as goal

pub returns-then-is_empty : goal.returns-then-is_empty
returns-then-is_empty c = λ number n.
    let word = numeral 0 999999999 c.args.word.now number (lit< tt) n in
    grind (arith, nat_tests, c.then-is_empty.either, word.some, word.few)

pub returns-then-word-eq1 : goal.returns-then-word-eq1
returns-then-word-eq1 c = zero_read c.args.word.now c.if-word-eq48.true c.if-word-eq1.true

pub returns-else-word-eq1 : goal.returns-else-word-eq1
returns-else-word-eq1 c = λ number n.
    let word = numeral 0 999999999 c.args.word.now number (lit< tt) n in
    c.if-word-eq1.false (word.no_zero c.if-word-eq48.true)

pub returns : goal.returns
returns c =
    number_read c.args.word.now c.digits_value_of.result (grind (arith, nat_tests, c.is_empty.ensures, c.if-is_empty.false)) c.if-word-gt9.false c.if-word-eq48.false
    c.digits_value_of.ensures.all c.digits_value_of.ensures.value
