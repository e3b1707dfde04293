use Rattle.std.proofs.Common.{[]}
use Rattle.card_state.specs.Memory.{memory}
use Rattle.applet_trait.specs.Minds.{minds_of}
use Rattle.toolkit_model.specs.Commands.{polled}
use Rattle.toolkit_model.specs.Steps.{Status}
use Rattle.proactive_handler.proofs.MovedLemmas.{on_done}
use Rattle.proactive_handler.specs.Steps.{scene, toolkit}
use Rattle.cat_commands.proofs.CarriesLemmas.{tells_here, card_comes, order_after}
use Rattle.cat_commands.proofs.profiles.poll.Goals as goal

pub returns-clause-comes : goal.returns-clause-comes
returns-clause-comes g c =
    λ card has.
    let old = (scene (memory g.S.Store c.args.store.now c.args.loaded.now) c.args.index.now c.args.session.now (minds_of g.B.Applet.mind c.args.cast.now)) in
    card_comes card old has [] polled (scene (memory g.S.Store c.tell_status.new.store c.tell_status.new.loaded) c.tell_status.new.index c.tell_status.new.session (minds_of g.B.Applet.mind c.tell_status.new.cast)) (tells_here c.tables_tell_states.ensures old c.requires.rests.mounted) c.tell_status.ensures.keeps.table c.tell_status.result c.tell_status.ensures.moves

pub returns-clause-order : goal.returns-clause-order
returns-clause-order g c =
    let old = (scene (memory g.S.Store c.args.store.now c.args.loaded.now) c.args.index.now c.args.session.now (minds_of g.B.Applet.mind c.args.cast.now)) in
    let new = (scene (memory g.S.Store c.tell_status.new.store c.tell_status.new.loaded) c.tell_status.new.index c.tell_status.new.session (minds_of g.B.Applet.mind c.tell_status.new.cast)) in
    on_done (polled (toolkit old)) old new c.tell_status.result _ c.tell_status.ensures.moves
    (λ done. order_after c.sessions_stay_in_order.ensures Status (toolkit old) (toolkit new) c.requires.rests.order tt done.state_is)
