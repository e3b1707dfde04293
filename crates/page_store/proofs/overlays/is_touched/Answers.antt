use Rattle.std.proofs.Common.{sym}
use Rattle.page_store.proofs.BytesOfPageLemmas.{touched_at}
use Rattle.page_store.proofs.overlays.is_touched.Goals as goal

pub returns-then-lies_in-clause-value : goal.returns-then-lies_in-clause-value
returns-then-lies_in-clause-value c = sym (touched_at c.args.writes.now c.loop-at.at c.args.page (record { place = c.piece-place.result.0; bytes = c.piece-place.result.1.now }) c.piece-place.ensures (sym c.if-lies_in.ensures))
