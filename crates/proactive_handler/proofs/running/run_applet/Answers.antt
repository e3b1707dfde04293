use Rattle.std.proofs.Common.{refl}
use Rattle.card_state.specs.Memory.{memory}
use Rattle.proactive_handler.specs.Runs.{ended_by}
use Rattle.proactive_handler.specs.Steps.{scene}
use Rattle.proactive_handler.proofs.RunOfRowLemmas.{run_same, run_done, run_stopped, run_answer}
use Rattle.proactive_handler.proofs.running.run_applet.Goals as goal

pub returns-in-Ok-clause-moves : goal.returns-in-Ok-clause-moves
returns-in-Ok-clause-moves g c = λ minds is.
    let old = scene (memory g.S.Store c.args.store.now c.args.loaded.now) c.args.index.now c.args.session.now minds in
    let same = run_same c.args.shelf.0 c.args.stimulus.now c.args.is_resumed old (g.B.Applet.mind c.args.applet.now) is
    (record { shelf = c.args.shelf; profile = c.profile.result; in_call = c.begins_call.result }) c.timers.result.now refl c.profile.ensures c.begins_call.ensures c.timers.ensures.value in
    run_done c.args.shelf.0 c.args.stimulus.now c.args.is_resumed old (g.B.Applet.mind c.args.applet.now) is _ same (memory g.S.Store c.run_row.new.store c.run_row.new.loaded) c.run_row.new.index c.send_last.new.session
    (g.B.Applet.mind c.run_row.new.applet) c.timers.result.now c.run_row.new.timers (ended_by c.run_row.new.does c.in-Ok.ending) c.in-Ok.ensures.runs c.send_last.ensures

pub returns-in-Ok-clause-answer : goal.returns-in-Ok-clause-answer
returns-in-Ok-clause-answer g c = λ minds is.
    let old = scene (memory g.S.Store c.args.store.now c.args.loaded.now) c.args.index.now c.args.session.now minds in
    let same = run_same c.args.shelf.0 c.args.stimulus.now c.args.is_resumed old (g.B.Applet.mind c.args.applet.now) is
    (record { shelf = c.args.shelf; profile = c.profile.result; in_call = c.begins_call.result }) c.timers.result.now refl c.profile.ensures c.begins_call.ensures c.timers.ensures.value in
    run_answer c.args.shelf.0 c.args.stimulus.now c.args.is_resumed old (g.B.Applet.mind c.args.applet.now) is _ same (memory g.S.Store c.run_row.new.store c.run_row.new.loaded) c.run_row.new.index c.send_last.new.session
    (g.B.Applet.mind c.run_row.new.applet) c.in-Ok.ending.answer c.in-Ok.ensures.runs.answer_is

pub returns-in-Err-clause-moves : goal.returns-in-Err-clause-moves
returns-in-Err-clause-moves g c = λ minds is.
    let old = scene (memory g.S.Store c.args.store.now c.args.loaded.now) c.args.index.now c.args.session.now minds in
    let same = run_same c.args.shelf.0 c.args.stimulus.now c.args.is_resumed old (g.B.Applet.mind c.args.applet.now) is
    (record { shelf = c.args.shelf; profile = c.profile.result; in_call = c.begins_call.result }) c.timers.result.now refl c.profile.ensures c.begins_call.ensures c.timers.ensures.value in
    run_stopped c.args.shelf.0 c.args.stimulus.now c.args.is_resumed old (g.B.Applet.mind c.args.applet.now) is _ same (memory g.S.Store c.run_row.new.store c.run_row.new.loaded) c.run_row.new.index c.args.session.now
    (g.B.Applet.mind c.run_row.new.applet) c.timers.result.now c.run_row.new.timers c.in-Err.ensures.runs
