use Rattle.std.proofs.Common.{◌<◌, ap, length, arith}
use Rattle.store_form.proofs.SpanLemmas.{length-pieces_of, slice_get-pieces_of}
use Rattle.store_form.proofs.writes.Writes.piece.Goals as goal

pub offset_bounds-deref-at : goal.offset_bounds-deref-at
offset_bounds-deref-at c = let h = ap length c.self.view_is in let l = length-pieces_of c.self.inside.bytes c.self.inside.spans.items in omega (arith, c.self.invariant.few, h, l, c.requires)

pub bounds-deref-at : goal.bounds-deref-at
bounds-deref-at c = let h = ap length c.self.view_is in let l = length-pieces_of c.self.inside.bytes c.self.inside.spans.items in let e = ap length c.deref.ensures.0 in omega (arith, h, l, e, c.requires)

pub returns : goal.returns
returns c =
    let h = ap length c.self.view_is in
    let l = length-pieces_of c.self.inside.bytes c.self.inside.spans.items in
    let there : c.args.at < length c.self.inside.spans.items = omega (arith, h, l, c.requires) in
    rw (c.deref.ensures.0, c.as_slice.ensures.value, ← c.self.view_is) (slice_get-pieces_of c.self.inside.bytes c.self.inside.spans.items c.args.at (record { place = 0; start = 0; end = 0 }) there)
