use Rattle.card_state.proofs.CodesOfLemmas.{adds_code, removes_code}
use Rattle.card_state.proofs.state_laws.event_bits_are_codes.Goals as goal

pub returns-clause-set : goal.returns-clause-set
returns-clause-set c = adds_code

pub returns-clause-clear : goal.returns-clause-clear
returns-clause-clear c = removes_code
