use Rattle.card_state.specs.Blank.{empty_table}
use Rattle.card_state.proofs.KeyOfSlotLemmas.{same_table}
use Rattle.layout_mount.proofs.mounting.mount.Goals as goal

pub mount_into-requires-clause-empty : goal.mount_into-requires-clause-empty
unfolding empty_table
mount_into-requires-clause-empty g c = same_table _ _ _ _ _ _ _ _ _ _ c.new.ensures.nodes c.new.ensures.pins c.new.ensures.rows c.new.ensures.next c.new.ensures.narrow

pub returns-in-Err-clause-empty : goal.returns-in-Err-clause-empty
unfolding empty_table
returns-in-Err-clause-empty g c =
    same_table _ _ _ _ _ _ _ _ _ _ c.new-in-Err.ensures.nodes c.new-in-Err.ensures.pins c.new-in-Err.ensures.rows c.new-in-Err.ensures.next c.new-in-Err.ensures.narrow
