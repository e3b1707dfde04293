use Rattle.std.proofs.Common.{ℕ, List, get_or, drop, ap, ◌∙◌, zero-add, arith, get_or-take, get_or-drop}
use Rattle.layout_mount.proofs.ImagesLemmas.{first_slice}
use Rattle.layout_mount.proofs.image.Image.byte.Goals as goal

pub returns : goal.returns
returns c =
    ap (λ (l : List ℕ). get_or l c.args.at 0) (first_slice c.self.inside.first c.self.inside.table c.self.inside.upper (omega arith) (omega arith) c.args.self.now c.self.view_is) ∙ get_or-take 8 (drop 0 c.args.self.now) c.args.at 0 c.requires ∙ get_or-drop 0 c.args.self.now c.args.at 0
    ∙ ap (λ (n : ℕ). get_or c.args.self.now n 0) (zero-add c.args.at)
