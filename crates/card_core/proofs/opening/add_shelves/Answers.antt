use Rattle.std.proofs.Common.{length, take, ◌∙◌, ap}
use Rattle.std.proofs.Math.Seq.{take-append_seam}
use Rattle.card_core.proofs.opening.add_shelves.Goals as goal

pub returns-in-Err-clause-err : goal.returns-in-Err-clause-err
returns-in-Err-clause-err g c =
    ap (take (length c.args.boxes.now.items)) (c.in-Err.ensures.err ∙ c.loop.invariant) ∙ take-append_seam c.args.boxes.now.items _
