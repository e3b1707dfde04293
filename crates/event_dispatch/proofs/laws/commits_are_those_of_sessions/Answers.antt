use Rattle.event_dispatch.proofs.CommitsLemmas.{installs_row, deletes_row, registers_code, deregisters_code, keeps_bytes}
use Rattle.event_dispatch.proofs.laws.commits_are_those_of_sessions.Goals as goal

pub returns : goal.returns
returns c = record { installed = installs_row; deleted = deletes_row; registered = registers_code; deregistered = deregisters_code; kept = keeps_bytes }
