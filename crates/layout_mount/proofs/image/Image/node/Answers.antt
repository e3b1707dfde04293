-- The entries of files have 16 bytes each and begin at 1,920, which is byte 1,088 of the table.
use Rattle.std.proofs.Common.{◌+◌, ◌*◌, ◌-◌, arith}
use Rattle.layout_mount.proofs.ImagesLemmas.{table_slice}
use Rattle.layout_mount.proofs.image.Image.node.Goals as goal

pub returns-clause-value : goal.returns-clause-value
returns-clause-value c =
    table_slice c.self.inside.first c.self.inside.table c.self.inside.upper (omega arith) (omega arith) c.args.self.now c.self.view_is (1920 + 16 * c.args.number) (1088 + 16 * c.from.result) 16 (1088 + 16 * c.from.result + 16 - (1088 + 16 * c.from.result)) (omega arith) (omega arith) (omega arith)
