use Rattle.std.proofs.Common.{◌∙◌, sym, ap, subst, length}
use Rattle.store_form.specs.Pieces.{IsWithinBounds}
use Rattle.store_form.proofs.SpanLemmas.{length-pieces_of, bounds}
use Rattle.store_form.proofs.writes.Writes.len.Goals as goal

pub returns-clause-value : goal.returns-clause-value
returns-clause-value c = c.len.ensures.value ∙ sym (length-pieces_of c.self.inside.bytes c.self.inside.spans.items) ∙ ap length c.self.view_is

pub returns-clause-bounds : goal.returns-clause-bounds
returns-clause-bounds c = subst IsWithinBounds c.self.view_is (bounds c.self.inside.bytes c.self.inside.spans.items c.self.invariant)
