use Rattle.std.proofs.Common.{◌∙◌, arith}
use Rattle.layout_mount.proofs.ImagesLemmas.{next_there}
use Rattle.layout_mount.proofs.image.Image.next.Goals as goal

pub returns : goal.returns
returns c = c.read_number.ensures ∙ next_there c.self.inside.first c.self.inside.table c.self.inside.upper (omega arith) (omega arith) c.args.self.now c.self.view_is
