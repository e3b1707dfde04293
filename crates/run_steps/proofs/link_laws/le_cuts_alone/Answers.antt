use Rattle.run_steps.proofs.LeLemmas.{answer_cut, answer_keeps}
use Rattle.run_steps.proofs.LooksAtLeLemmas.{carried_with_alike}
use Rattle.run_steps.proofs.BareBytesLemmas.{bare_read}
use Rattle.run_steps.proofs.link_laws.le_cuts_alone.Goals as goal

pub returns-clause-commands : goal.returns-clause-commands
returns-clause-commands c = λ runs_applets instruction card command none. carried_with_alike card command runs_applets instruction none

pub returns-clause-answers : goal.returns-clause-answers
returns-clause-answers c = λ knows card bytes bare command read read_bare none. answer_cut knows card command none bytes bare read read_bare

pub returns-clause-bare : goal.returns-clause-bare
returns-clause-bare c = bare_read

pub returns-clause-most : goal.returns-clause-most
returns-clause-most c = λ knows card bytes command read. answer_keeps knows card command bytes read
