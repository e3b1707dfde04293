use Rattle.std.proofs.Common.{List, take, ap, ◌∙◌, arith, take_all}
use Rattle.store_form.specs.Pieces.{Piece, applied}
use Rattle.page_store.specs.Commits.{bytes_of_page}
use Rattle.page_store.proofs.BytesOfPageLemmas.{put_next, front_length}
use Rattle.page_store.proofs.overlays.put_pieces.Goals as goal

pub loop-at-preserved : goal.loop-at-preserved
loop-at-preserved c held long is =
    put_next c.args.writes.now c.loop-at.at c.args.page c.from.result (record { place = c.piece-place.result.0; bytes = c.piece-place.result.1.now }) c.put.new.page held c.piece-place.ensures c.from.ensures
    (c.put.ensures (applied (take c.loop-at.at c.args.writes.now) held) (front_length c.args.writes.now c.loop-at.at held long c.requires.usable) (c.loop-at.invariant held long is))

pub returns : goal.returns
returns c held long is = c.loop-at.invariant held long is ∙ ap (λ (ps : List Piece). bytes_of_page (applied ps held) c.args.page) (take_all c.loop-at.at c.args.writes.now (omega (arith, c.loop-at-test.false, c.len-at-end.ensures.value)))
