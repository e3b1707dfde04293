-- The mind that ran is put back in its own box, so all other shelves' are as they were; where there is no box the run is none at all.
use Rattle.std.proofs.Common.{set, ℕ, List, Option, Some, None, refl, sym, ap, ◌∙◌, subst, arith, rules, ◌<◌, length, slice_index_or}
use Rattle.std.proofs.lemmas.List.{set-get_or, get_or-set_other}
use Rattle.card_state.specs.Memory.{memory}
use Rattle.card_commits.specs.Entries.{HasRowOn}
use Rattle.applet_trait.specs.Minds.{AppletState, minds_of}
use Rattle.toolkit_model.specs.Passing.{ToolkitState, Passed, passed_rows}
use Rattle.toolkit_model.specs.Commands.{last_answer}
use Rattle.toolkit_model.specs.Running.{mind_on, run_of_row, with_mind}
use Rattle.proactive_handler.specs.Boxes.{kinds_of}
use Rattle.proactive_handler.specs.Steps.{Scene, toolkit, scene}
use Rattle.proactive_handler.specs.Reached.{Tells}
use Rattle.proactive_handler.proofs.MovedLemmas.{on_done, mind_there, none_there, put_back, same_kinds, has_rows, still_done}
use Rattle.proactive_handler.proofs.HasPlacesLemmas.{run_served}
use Rattle.proactive_handler.proofs.RunOfRowLemmas.{none_runs}
use Rattle.proactive_handler.proofs.TurnsToLemmas.{run_turns}
use Rattle.proactive_handler.proofs.running.run_one.Goals as goal

pub returns-in-Some-clause-tells : goal.returns-in-Some-clause-tells
returns-in-Some-clause-tells g c =
    let mind = g.B.Applet.mind in
    let low : c.place_of-place.result < length c.args.cast.now = omega (arith, c.place_of-place.ensures.low, c.requires.service.shelves) in
    let is = mind_there mind c.args.cast.now c.place_of-place.result c.args.shelf.0 c.place_of-place.ensures.value low c.index-cast-place.result c.in-Some.applet c.in-Some.is in
    let back = put_back mind c.args.cast.now c.place_of-place.result c.args.shelf.0 c.place_of-place.ensures.value low c.index-cast-place.result c.run_applet.new.applet in
    let step : ToolkitState → Passed = run_of_row c.args.shelf.0 c.args.stimulus.now c.args.is_resumed in
    let old : Scene = scene (memory g.S.Store c.args.store.now c.args.loaded.now) c.args.index.now c.args.session.now (minds_of mind c.args.cast.now) in
    let new : Scene = scene (memory g.S.Store c.run_applet.new.store c.run_applet.new.loaded) c.run_applet.new.index c.run_applet.new.session (with_mind (minds_of mind c.args.cast.now) c.args.shelf.0 (Some (mind c.run_applet.new.applet))) in
    let left = set c.args.cast.now c.place_of-place.result (Some c.run_applet.new.applet) in
    let moves = c.run_applet.ensures.moves (minds_of mind c.args.cast.now) is in
    subst (λ (minds : List (Option AppletState)). Tells step old (record new { minds = minds }) c.args.cast.now left c.run_applet.result) back
    (record {
      moves = moves;
      answer = c.run_applet.ensures.answer (minds_of mind c.args.cast.now) is;
      turns = run_turns c.args.shelf.0 c.args.stimulus.now c.args.is_resumed old new c.args.cast.now left (mind c.in-Some.applet) is
          (λ other apart. get_or-set_other c.args.cast.now c.place_of-place.result other _ None (λ same. apart (sym c.place_of-place.ensures.value ∙ sym same))) c.run_applet.result moves;
    })

pub returns-in-Some-clause-keeps : goal.returns-in-Some-clause-keeps
returns-in-Some-clause-keeps g c =
    let mind = g.B.Applet.mind in
    let low : c.place_of-place.result < length c.args.cast.now = omega (arith, c.place_of-place.ensures.low, c.requires.service.shelves) in
    let is = mind_there mind c.args.cast.now c.place_of-place.result c.args.shelf.0 c.place_of-place.ensures.value low c.index-cast-place.result c.in-Some.applet c.in-Some.is in
    let back = put_back mind c.args.cast.now c.place_of-place.result c.args.shelf.0 c.place_of-place.ensures.value low c.index-cast-place.result c.run_applet.new.applet in
    let state : ToolkitState = toolkit (scene (memory g.S.Store c.args.store.now c.args.loaded.now) c.args.index.now c.args.session.now (minds_of mind c.args.cast.now)) in
    let kept = c.run_applet.ensures.keeps in record {
      kinds = same_kinds mind c.args.cast.now c.place_of-place.result c.args.shelf.0 c.place_of-place.ensures.value low c.index-cast-place.result c.in-Some.applet c.run_applet.new.applet c.in-Some.is c.run_applet.ensures.same_kind;
      others = λ other none.
          sym (ap (λ (minds : List (Option AppletState)). mind_on minds other) back)
          ∙ get_or-set_other (minds_of mind c.args.cast.now) c.args.shelf.0 other (Some (mind c.run_applet.new.applet)) None
          (λ same. none (subst (λ (at : ℕ). HasRowOn c.run_applet.new.loaded at) (sym same) (kept.rows_stay c.args.shelf.0 c.requires.row)));
      served = on_done (run_of_row c.args.shelf.0 c.args.stimulus.now c.args.is_resumed state) _ _ c.run_applet.result _ (c.run_applet.ensures.moves (minds_of mind c.args.cast.now) is)
          (λ done. run_served c.args.loaded.now c.run_applet.new.loaded c.run_applet.new.session c.args.shelf.0 c.args.stimulus.now c.args.is_resumed state kept.rows_stay (ap (λ (s : ToolkitState). s.session) done.state_is) c.requires.service.served c.requires.idle c.requires.row c.requires.nothing_out);
      rows_stay = kept.rows_stay;
      indexed = kept.indexed;
      table = kept.table;
      kept = kept.kept;
      keeps = kept.keeps;
    }

pub returns-in-None-clause-tells : goal.returns-in-None-clause-tells
returns-in-None-clause-tells g c =
    let mind = g.B.Applet.mind in
    let is = none_there mind c.args.cast.now c.place_of-place.result c.args.shelf.0 c.place_of-place.ensures.value (omega (arith, c.place_of-place.ensures.low, c.requires.service.shelves)) c.index-cast-place.result c.in-None.is in
    let state : ToolkitState = toolkit (scene (memory g.S.Store c.args.store.now c.args.loaded.now) c.args.index.now c.args.session.now (minds_of mind c.args.cast.now)) in
    let runs = none_runs c.args.shelf.0 c.args.stimulus.now c.args.is_resumed state is in
    let same = set-get_or c.args.cast.now c.place_of-place.result c.index-cast-place.result in record {
      moves = still_done (run_of_row c.args.shelf.0 c.args.stimulus.now c.args.is_resumed state) _ _ (has_rows c.tables_tell_states.ensures _ _ c.args.loaded.now c.requires.service.mounted.agrees)
          (ap (λ (p : Passed). passed_rows p.log) runs) (ap (λ (p : Passed). p.state.rows) runs)
          (ap (λ boxes. toolkit (scene (memory g.S.Store c.args.store.now c.args.loaded.now) c.args.index.now c.args.session.now (minds_of mind boxes))) same ∙ sym (ap (λ (p : Passed). p.state) runs)) refl;
      answer = sym (ap (λ (p : Passed). last_answer p.log) runs);
      turns = λ other none. ap (λ boxes. slice_index_or boxes other None) same;
    }

pub returns-in-None-clause-keeps : goal.returns-in-None-clause-keeps
returns-in-None-clause-keeps g c = record {
  kinds = ap (λ boxes. kinds_of (minds_of g.B.Applet.mind boxes)) (set-get_or c.args.cast.now c.place_of-place.result c.index-cast-place.result);
  others = λ other none. ap (λ boxes. mind_on (minds_of g.B.Applet.mind boxes) other) (set-get_or c.args.cast.now c.place_of-place.result c.index-cast-place.result);
  served = search rules;
  rows_stay = search rules;
  indexed = search rules;
  table = search rules;
  kept = search rules;
  keeps = search rules;
}

pub returns-in-Some-clause-untold : goal.returns-in-Some-clause-untold
returns-in-Some-clause-untold g c = λ other apart.
    get_or-set_other c.args.cast.now c.place_of-place.result other _ None (λ same. apart (sym c.place_of-place.ensures.value ∙ sym same))

pub returns-in-None-clause-untold : goal.returns-in-None-clause-untold
returns-in-None-clause-untold g c = λ other apart.
    get_or-set_other c.args.cast.now c.place_of-place.result other _ None (λ same. apart (sym c.place_of-place.ensures.value ∙ sym same))
