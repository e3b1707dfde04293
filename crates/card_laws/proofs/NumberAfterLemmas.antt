-- The numbers of commands go round.
use Rattle.std.proofs.Common.{◌≡◌, ℕ, suc, zero, ◌+◌, ◌-◌, ◌%◌, Bool, true, false, List, [], ◌∷◌, length, Option, Some, refl, sym, ap, ◌∙◌, arith, nat_lt, if◌then◌else◌, ltb-false, ltb-true}
use Rattle.toolkit_commands.specs.declared.commands.Proactive.{Proactive}
use Rattle.toolkit_model.specs.Running.{next_number, putting_out}
use Rattle.toolkit_model.specs.Sessions.{SessionState}
use Rattle.card_laws.specs.SendingLaws.{CommandsAreNumbered, IsCommandNumber, NumbersAreInRange, NumbersComeBack, NumbersDiffer, number_after, put_out}

in_range_if : (number : ℕ) (b : Bool) → nat_lt number 254 ≡ b → IsCommandNumber (if b then number + 1 else 1)
in_range_if number true is = (omega arith, omega (arith, ltb-true number 254 is))
in_range_if number false is = (omega arith, omega arith)

pub numbers_are_in_range : NumbersAreInRange
numbers_are_in_range number = in_range_if number (nat_lt number 254) refl

-- counted from 0 on, the next number is the next of 254
place_if : (number : ℕ) (b : Bool) → IsCommandNumber number → nat_lt number 254 ≡ b → (count : ℕ) → ((if b then number + 1 else 1) - 1 + count) % 254 ≡ (number - 1 + suc count) % 254
place_if number true given is count = let same : number + 1 - 1 + count ≡ number - 1 + suc count = omega (arith, given.0) in ap (λ (n : ℕ). n % 254) same
place_if number false given is count =
    let last : number ≡ 254 = omega (arith, given.1, ltb-false number 254 is) in
    omega (arith, last)

pub number_place : (count number : ℕ) → IsCommandNumber number → number_after count number ≡ (number - 1 + count) % 254 + 1
unfolding number_after
number_place zero number given = omega (arith, given.0, given.1)
number_place (suc count) number given =
    number_place count (next_number number) (numbers_are_in_range number) ∙ ap (λ (n : ℕ). n + 1) (place_if number (nat_lt number 254) given refl count)

pub numbers_come_back : NumbersComeBack
numbers_come_back number given = number_place 254 number given ∙ omega (arith, given.0, given.1)

pub numbers_differ : NumbersDiffer
numbers_differ number count given some few same =
    let place : number ≡ (number - 1 + count) % 254 + 1 = sym same ∙ number_place count number given in
    omega (arith, given.0, given.1, some, few, place)

-- ---- commands that become outstanding

one_more : (count number : ℕ) → next_number (number_after count number) ≡ number_after (suc count) number
unfolding number_after
one_more zero number = refl
one_more (suc count) number = one_more count (next_number number)

last_of_sent : (sent : List (Option ℕ × Proactive)) (session : SessionState) → (put_out sent session).last_number ≡ number_after (length sent) session.last_number
unfolding put_out number_after
last_of_sent [] session = refl
last_of_sent (first ∷ sent) session = last_of_sent sent (putting_out first.0 first.1 session)

pub commands_are_numbered : CommandsAreNumbered
commands_are_numbered session sent owner command =
    let more : suc (length sent) ≡ length sent + 1 = omega arith in
    ap (λ (n : ℕ). Some (next_number n)) (last_of_sent sent session) ∙ ap (λ (n : ℕ). Some n) (one_more (length sent) session.last_number)
    ∙ ap (λ (n : ℕ). Some (number_after n session.last_number)) more
