-- The PIN slots have 20 bytes each and begin at 832, with the table.
use Rattle.std.proofs.Common.{◌+◌, ◌*◌, ◌-◌, arith}
use Rattle.layout_mount.proofs.ImagesLemmas.{table_slice}
use Rattle.layout_mount.proofs.image.Image.pin.Goals as goal

pub returns-clause-value : goal.returns-clause-value
returns-clause-value c =
    table_slice c.self.inside.first c.self.inside.table c.self.inside.upper (omega arith) (omega arith) c.args.self.now c.self.view_is (832 + 20 * c.args.slot) (20 * c.from-at.result) 20 (20 * c.from-at.result + 20 - 20 * c.from-at.result) (omega arith) (omega arith) (omega arith)
