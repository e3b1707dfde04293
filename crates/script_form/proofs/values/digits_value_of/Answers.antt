-- The number of the digits so far is below ten to their count, at most nine, so no step overflows; a byte that is no digit refuses all.
use Rattle.std.proofs.Common.{◌≡◌, false, true, get_or, refl, sym, ◌∙◌, arith, take_all}
use Rattle.std.proofs.lemmas.Int.Digits.{digits_more, digits_value_more}
use Rattle.script_form.proofs.IsNumberLemmas.{digit_read, not_digits, pow_more, below_pow}
use Rattle.script_form.proofs.values.digits_value_of.Goals as goal

pub loop-digit-init : goal.loop-digit-init
loop-digit-init c = record { all = tt; value = refl; small = omega arith }

pub returns-then-not-is_ascii_digit-clause-all : goal.returns-then-not-is_ascii_digit-clause-all
returns-then-not-is_ascii_digit-clause-all c = (
  λ none. absurd (let e : false ≡ true = none in cc),
  λ all. absurd (not_digits c.args.digits.now c.loop-digit.digit-index all c.loop-digit-test.true
      (sym c.is_ascii_digit.ensures.value ∙ c.if-not-is_ascii_digit.true)),
)

pub overflow_mul-number : goal.overflow_mul-number
overflow_mul-number c =
    let small = below_pow c.loop-digit.number c.loop-digit.digit-index 8 c.loop-digit.invariant.small (omega arith) in
    omega arith

pub overflow_add-number : goal.overflow_add-number
overflow_add-number c =
    let small = below_pow c.loop-digit.number c.loop-digit.digit-index 8 c.loop-digit.invariant.small (omega arith) in
    omega arith

pub loop-digit-preserved : goal.loop-digit-preserved
loop-digit-preserved c =
    let ds = c.args.digits.now in
    let i = c.loop-digit.digit-index in
    let digit = digit_read (get_or ds i 0) (sym c.is_ascii_digit.ensures.value ∙ c.if-not-is_ascii_digit.false) in
    let more = digits_value_more 10 ds i c.loop-digit-test.true in
    let pow = pow_more i in
    record {
      all = digits_more 10 ds i c.loop-digit-test.true c.loop-digit.invariant.all (omega (arith, digit.2));
      value = omega (arith, digit.2, c.from.ensures, c.loop-digit.invariant.value);
      small = omega (arith, digit.1, c.from.ensures, c.loop-digit.invariant.small);
    }

pub returns-clause-all : goal.returns-clause-all
returns-clause-all c =
    let whole = take_all c.loop-digit.digit-index c.args.digits.now (omega arith) in
    (λ _. rw whole at c.loop-digit.invariant.all, λ _. refl)
