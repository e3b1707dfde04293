use Rattle.std.proofs.Common.{arith, refl}
use Rattle.card_state.specs.Memory.{memory}
use Rattle.applet_trait.specs.Minds.{minds_of}
use Rattle.proactive_handler.specs.Steps.{scene}
use Rattle.proactive_handler.proofs.MovedLemmas.{has_rows}
use Rattle.proactive_handler.proofs.CaughtUpLemmas.{zero_done}
use Rattle.proactive_handler.proofs.driving.catch_up.Goals as goal

pub returns-then-count-eq0-clause-moves : goal.returns-then-count-eq0-clause-moves
returns-then-count-eq0-clause-moves g c =
    zero_done c.args.count (scene (memory g.S.Store c.args.store.now c.args.loaded.now) c.args.index.now c.args.session.now (minds_of g.B.Applet.mind c.args.cast.now))
    (has_rows c.tables_tell_states.ensures _ _ c.args.loaded.now c.requires.service.mounted.agrees) (omega (arith, c.if-count-eq0.true))

pub returns-then-count-eq0-clause-turns : goal.returns-then-count-eq0-clause-turns
returns-then-count-eq0-clause-turns g c = λ shelf none. refl
