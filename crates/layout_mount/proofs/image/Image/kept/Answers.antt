-- The bytes that stand apart from the rows are 32 a row and begin at 64,512, which is byte 1,024 of what a wide card has after its files.
use Rattle.std.proofs.Common.{◌+◌, ◌*◌, ◌-◌, arith}
use Rattle.layout_mount.proofs.ImagesLemmas.{upper_slice}
use Rattle.layout_mount.proofs.image.Image.kept.Goals as goal

pub returns-clause-value : goal.returns-clause-value
returns-clause-value c =
    upper_slice c.self.inside.first c.self.inside.table c.self.inside.upper (omega arith) (omega arith) c.args.self.now c.self.view_is (64512 + 32 * c.args.shelf.0) (1024 + 32 * c.from.result) 32 (1024 + 32 * c.from.result + 32 - (1024 + 32 * c.from.result)) (omega arith) (omega arith)
