-- The loop keeps that all shelves so far have their box, of a known kind; so the shelf that lacks one is the first.
use Rattle.std.proofs.Common.{◌≡◌, ◌<◌, ℕ, false, length, slice_get, slice_index_or, Option, Some, None, option_map, sym, ◌∙◌, ap, subst, arith, IfSome}
use Rattle.std.proofs.lemmas.List.{length-map}
use Rattle.applet_trait.specs.Minds.{AppletState, minds_of}
use Rattle.card_model.specs.States.{IsOfKnownKind}
use Rattle.card_core.specs.Boxes.{lacks_box}
use Rattle.card_core.proofs.LacksBoxLemmas.{all_have, first_found, have_more, one_more, all_of_kinds, box_at, row_at}
use Rattle.card_core.proofs.box_waking.first_without_box.Goals as goal

pub returns-then-lacks-clause-found : goal.returns-then-lacks-clause-found
returns-then-lacks-clause-found g c =
    let low : c.loop-shelf.shelf < length c.args.boxes.now = omega (arith, c.requires, c.loop-shelf-test.true) in
    let there : slice_get c.args.loaded.now.rows c.loop-shelf.shelf ≡ Some c.index-rows-at.result =
    row_at c.args.loaded.now.rows c.all_rows-rows.result.now c.loop-shelf.shelf c.from-at.result c.index-rows-at.result c.all_rows-rows.ensures.value c.from-at.ensures (omega (arith, c.all_rows-rows.ensures.long, c.loop-shelf-test.true)) c.index-rows-at.is in
    let box_is : slice_index_or (minds_of g.B.Applet.mind c.args.boxes.now) c.loop-shelf.shelf None ≡ option_map g.B.Applet.mind c.index-boxes-at.result =
    box_at g.B.Applet.mind c.args.boxes.now c.loop-shelf.shelf c.index-boxes-at.result low (subst (λ (at : ℕ). c.index-boxes-at.result ≡ slice_index_or c.args.boxes.now at c.index-boxes-at.result) c.from-at.ensures c.index-boxes-at.is) in
    first_found c.states_are_of_entries.ensures.rows c.states_are_of_entries.ensures.from.rows c.args.loaded.now (minds_of g.B.Applet.mind c.args.boxes.now) c.loop-shelf.shelf c.index-rows-at.result there
    (ap (lacks_box c.index-rows-at.result) box_is ∙ sym c.lacks.ensures.value ∙ c.if-lacks.true) c.loop-shelf.invariant.0

pub loop-shelf-preserved : goal.loop-shelf-preserved
loop-shelf-preserved g c =
    let low : c.loop-shelf.shelf < length c.args.boxes.now = omega (arith, c.requires, c.loop-shelf-test.true) in
    let there : slice_get c.args.loaded.now.rows c.loop-shelf.shelf ≡ Some c.index-rows-at.result =
    row_at c.args.loaded.now.rows c.all_rows-rows.result.now c.loop-shelf.shelf c.from-at.result c.index-rows-at.result c.all_rows-rows.ensures.value c.from-at.ensures (omega (arith, c.all_rows-rows.ensures.long, c.loop-shelf-test.true)) c.index-rows-at.is in
    let box_is : slice_index_or (minds_of g.B.Applet.mind c.args.boxes.now) c.loop-shelf.shelf None ≡ option_map g.B.Applet.mind c.index-boxes-at.result =
    box_at g.B.Applet.mind c.args.boxes.now c.loop-shelf.shelf c.index-boxes-at.result low (subst (λ (at : ℕ). c.index-boxes-at.result ≡ slice_index_or c.args.boxes.now at c.index-boxes-at.result) c.from-at.ensures c.index-boxes-at.is) in
    let has : lacks_box c.index-rows-at.result (slice_index_or (minds_of g.B.Applet.mind c.args.boxes.now) c.loop-shelf.shelf None) ≡ false = ap (lacks_box c.index-rows-at.result) box_is ∙ sym c.lacks.ensures.value ∙ c.if-lacks.false in
    let kind : IfSome (slice_index_or (minds_of g.B.Applet.mind c.args.boxes.now) c.loop-shelf.shelf None) IsOfKnownKind =
    subst (λ (box : Option AppletState). IfSome box IsOfKnownKind) (sym box_is) c.lacks.ensures.kind in (
      have_more c.args.loaded.now (minds_of g.B.Applet.mind c.args.boxes.now) c.loop-shelf.shelf c.index-rows-at.result there has c.loop-shelf.invariant.0,
      one_more (minds_of g.B.Applet.mind c.args.boxes.now) c.loop-shelf.shelf kind c.loop-shelf.invariant.1,
    )

pub returns-clause-all : goal.returns-clause-all
returns-clause-all g c =
    all_have c.states_are_of_entries.ensures.rows c.states_are_of_entries.ensures.from.rows c.args.loaded.now (minds_of g.B.Applet.mind c.args.boxes.now) c.loop-shelf.shelf
    (omega (arith, ap length c.all_rows-rows.ensures.value, c.all_rows-rows.ensures.long, c.loop-shelf-test.false, c.loop-shelf.auto.shelf-end)) c.loop-shelf.invariant.0

pub returns-clause-kinds : goal.returns-clause-kinds
returns-clause-kinds g c =
    all_of_kinds (minds_of g.B.Applet.mind c.args.boxes.now) c.loop-shelf.shelf
    (length-map c.args.boxes.now (option_map g.B.Applet.mind) ∙ omega (arith, c.requires, c.loop-shelf-test.false, c.loop-shelf.auto.shelf-end)) c.loop-shelf.invariant.1
