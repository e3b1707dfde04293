use Rattle.std.proofs.Common.{ap, length, arith, rules}
use Rattle.std.proofs.lemmas.Grind.{common_steps}
use Rattle.store_form.specs.Pieces.{byte_total}
use Rattle.store_form.proofs.SpanLemmas.{length-pieces_of, pieces_of-push, AreWhole_push}
use Rattle.store_form.proofs.writes.Writes.add.Goals as goal

pub returns-then-is_full-clause-room : goal.returns-then-is_full-clause-room
returns-then-is_full-clause-room c = let h = ap length c.self.view_is in let l = length-pieces_of c.self.inside.bytes c.self.inside.spans.items in grind (arith, common_steps, h, l)

pub returns-clause-room : goal.returns-clause-room
returns-clause-room c =
    let h = ap length c.self.view_is in let t = ap byte_total c.self.view_is in let l = length-pieces_of c.self.inside.bytes c.self.inside.spans.items in
    grind (arith, common_steps, h, t, l, c.self.invariant.total)

pub invariant_of-self-2 : goal.invariant_of-self-2
invariant_of-self-2 c = rw (c.in_ok-append.ensures.ok, c.push.ensures.items, c.as_slice-start.ensures.value) (AreWhole_push c.args.at c.self.inside.bytes c.args.bytes.now c.self.inside.spans.items c.self.invariant (search rules) (search (rules, c.in_ok-append.ensures.room)) (search rules))

pub returns-clause-ok : goal.returns-clause-ok
returns-clause-ok c = rw (c.in_ok-append.ensures.ok, c.push.ensures.items, c.as_slice-start.ensures.value, ← c.self.view_is) (pieces_of-push c.args.at c.self.inside.bytes c.args.bytes.now c.self.inside.spans.items c.self.invariant)
