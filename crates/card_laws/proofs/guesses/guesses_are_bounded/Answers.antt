use Rattle.card_model.specs.Instructions.{is_known}
use Rattle.card_laws.proofs.AllTriesLemmas.{tries_few}
use Rattle.card_laws.proofs.GuessLawsLemmas.{run_ends, guesses_take, wrong_bounded, wrong_unmarked}
use Rattle.card_laws.proofs.PresentsByLemmas.{answer_guarded}
use Rattle.card_laws.proofs.guesses.guesses_are_bounded.Goals as goal

pub returns-clause-one : goal.returns-clause-one
returns-clause-one c = λ guard key card bytes. (answer_guarded c.pins_are_guarded.ensures card bytes is_known).guess guard key

pub returns-clause-tries : goal.returns-clause-tries
returns-clause-tries c = guesses_take (λ card bytes. answer_guarded c.pins_are_guarded.ensures card bytes is_known)

pub returns-clause-commits : goal.returns-clause-commits
returns-clause-commits c = run_ends (λ card bytes. answer_guarded c.pins_are_guarded.ensures card bytes is_known)

pub returns-clause-wrong : goal.returns-clause-wrong
returns-clause-wrong c = wrong_bounded (λ card bytes. answer_guarded c.pins_are_guarded.ensures card bytes is_known)

pub returns-clause-unverified : goal.returns-clause-unverified
returns-clause-unverified c = wrong_unmarked (λ card bytes. answer_guarded c.pins_are_guarded.ensures card bytes is_known)

pub returns-clause-few : goal.returns-clause-few
returns-clause-few c = tries_few
