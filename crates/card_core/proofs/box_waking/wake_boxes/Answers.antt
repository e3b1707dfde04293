use Rattle.std.proofs.Common.{◌≡◌, List, length, get_or, option_map, ap, subst, arith}
use Rattle.std.proofs.lemmas.List.{length-map}
use Rattle.card_state.specs.declared.entries.Row.{Row}
use Rattle.applet_trait.specs.Minds.{minds_of}
use Rattle.card_core.proofs.WokenBesideLemmas.{woke_more, all_woke}
use Rattle.card_core.proofs.box_waking.wake_boxes.Goals as goal

pub loop-shelf-preserved : goal.loop-shelf-preserved
loop-shelf-preserved g c =
    let many : length (minds_of g.B.Applet.mind c.args.boxes.now) ≡ length c.args.boxes.now = length-map c.args.boxes.now (option_map g.B.Applet.mind) in
    woke_more g.B.Applet.mind c.states_are_of_entries.ensures.rows c.args.loaded.now c.args.boxes.now c.loop-shelf.boxes c.loop-shelf.shelf
    _ _ c.wake.new.applet (omega (arith, ap length c.all_rows-rows.ensures.value, c.all_rows-rows.ensures.long, c.loop-shelf-test.true)) (omega (arith, many, c.requires, c.loop-shelf-test.true)) (omega (arith, c.requires, c.loop-shelf-test.true, c.loop-shelf.auto.boxes))
    (subst (λ (rows : List Row). c.index-rows-shelf.result ≡ get_or rows c.loop-shelf.shelf c.index-rows-shelf.result) c.all_rows-rows.ensures.value c.index-rows-shelf.is) c.loop-shelf.invariant c.wake.ensures

pub returns : goal.returns
returns g c =
    all_woke g.B.Applet.mind c.states_are_of_entries.ensures.rows c.args.loaded.now c.args.boxes.now c.loop-shelf.boxes c.loop-shelf.shelf (omega (arith, c.requires, c.loop-shelf-test.false)) c.loop-shelf.invariant
