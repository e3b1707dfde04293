-- What a commit of a change of one row makes of the rows is what a session has after it.
use Rattle.std.proofs.Common.{refl, List, ◌++◌, ◌∙◌, ap, append-nil}
use Rattle.card_state.specs.Changing.{with_row_changed}
use Rattle.card_state.specs.Persistent.{Registration}
use Rattle.event_dispatch.specs.Commits.{InstallsRow, DeletesRow, RegistersCode, DeregistersCode, KeepsBytes}
use Rattle.event_dispatch.proofs.WithoutRowLemmas.{below, above, left}

pub installs_row : InstallsRow
installs_row state row = refl

pub deletes_row : DeletesRow
deletes_row state shelf ascend = ap (λ (first : List Registration). first ++ above shelf state.rows) (append-nil (below shelf state.rows)) ∙ left shelf state.rows ascend

pub registers_code : RegistersCode
unfolding with_row_changed
registers_code state shelf code = refl

pub deregisters_code : DeregistersCode
unfolding with_row_changed
deregisters_code state shelf code = refl

pub keeps_bytes : KeepsBytes
unfolding with_row_changed
keeps_bytes state shelf bytes = refl
