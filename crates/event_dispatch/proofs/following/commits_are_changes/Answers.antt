use Rattle.event_dispatch.proofs.CommitsLemmas.{installs_row, deletes_row, registers_code, deregisters_code, keeps_bytes}
use Rattle.event_dispatch.proofs.following.commits_are_changes.Goals as goal

pub returns : goal.returns
returns c = record { installs = installs_row; deletes = λ state shelf are. deletes_row state shelf are.shelves; registers = registers_code; deregisters = deregisters_code; keeps = keeps_bytes }
