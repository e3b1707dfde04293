use Rattle.std.proofs.Common.{subst}
use Rattle.uicc_types.specs.Told.{AreBytes}
use Rattle.layout_mount.proofs.ImagesLemmas.{bytes-whole}
use Rattle.layout_mount.proofs.image.Image.holds_bytes.Goals as goal

pub returns : goal.returns
returns c =
    subst AreBytes c.self.view_is (bytes-whole c.self.inside.first c.self.inside.table c.self.inside.upper c.are_bytes.ensures c.are_bytes-2.ensures c.are_bytes-3.ensures)
