use Rattle.std.proofs.Common.{arith, rules, sym}
use Rattle.page_store.proofs.DoneCountLemmas.{few_done}
use Rattle.page_store.proofs.MovesLemmas.{move_none}
use Rattle.page_store.proofs.moves.move_touched.Goals as goal

pub move_page-requires-clause-few : goal.move_page-requires-clause-few
move_page-requires-clause-few g c = omega (arith, few_done c.args.writes.now c.args.page c.is_touched.ensures.bounds)

pub returns-then-not-is_touched-clause-moves : goal.returns-then-not-is_touched-clause-moves
returns-then-not-is_touched-clause-moves g c = record {
  ok = λ start told is moves. move_none c.args.writes.now c.args.page start c.args.table.now told (g.S.CountedStore.stable c.args.store.now) c.requires.may.from c.requires.may.to (sym c.if-not-is_touched.ensures.value) moves;
  same = search rules;
}
