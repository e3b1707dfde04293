use Rattle.std.proofs.Common.{sym, ap, ◌∙◌, subst, List}
use Rattle.card_state.specs.Memory.{memory}
use Rattle.card_state.specs.States.{registration_of}
use Rattle.applet_trait.specs.Minds.{minds_of}
use Rattle.toolkit_model.specs.Sessions.{LateTrigger}
use Rattle.toolkit_model.specs.Passing.{ToolkitState}
use Rattle.proactive_handler.specs.Boxes.{AreForOthers}
use Rattle.proactive_handler.specs.Steps.{scene}
use Rattle.cat_commands.proofs.CarriesLemmas.{tells_here}
use Rattle.cat_commands.proofs.RegisteringLemmas.{not_installed, then_installed}
use Rattle.cat_commands.proofs.AppletInstalledLemmas.{cut_err, keeps_installed}
use Rattle.cat_commands.proofs.installing.add.Goals as goal

pub returns-in_err-register-clause-comes : goal.returns-in_err-register-clause-comes
returns-in_err-register-clause-comes g c =
    let old = (scene (memory g.S.Store c.args.store.now c.args.loaded.now) c.args.index.now c.args.session.now (minds_of g.B.Applet.mind c.args.cast.now)) in
    let new = (scene (memory g.S.Store c.register.new.store c.register.new.loaded) c.register.new.index c.register.new.session (minds_of g.B.Applet.mind c.register.new.cast)) in
    cut_err _ old new c.from_residual.result c.from_residual.ensures.0 (not_installed (registration_of c.args.shelf.0 c.args.row) old (tells_here c.tables_tell_states.ensures old c.requires.service.mounted) new c.in_err-register.ensures.registers)

pub returns-clause-comes : goal.returns-clause-comes
returns-clause-comes g c =
    let old = (scene (memory g.S.Store c.args.store.now c.args.loaded.now) c.args.index.now c.args.session.now (minds_of g.B.Applet.mind c.args.cast.now)) in
    let mid = (scene (memory g.S.Store c.register.new.store c.register.new.loaded) c.register.new.index c.register.new.session (minds_of g.B.Applet.mind c.register.new.cast)) in
    then_installed (registration_of c.args.shelf.0 c.args.row) old (tells_here c.tables_tell_states.ensures old c.requires.service.mounted) mid c.in_ok-register.ensures.registers (scene (memory g.S.Store c.drive_in_place.new.store c.drive_in_place.new.loaded) c.drive_in_place.new.index c.drive_in_place.new.session (minds_of g.B.Applet.mind c.drive_in_place.new.cast)) c.drive_in_place.result
    (tells_here c.tables_tell_states.ensures mid c.in_ok-register.ensures.keeps.keeps.mounted) c.drive_in_place.ensures.keeps.table c.drive_in_place.ensures.moves

pub returns-clause-keeps : goal.returns-clause-keeps
returns-clause-keeps g c =
    keeps_installed (scene (memory g.S.Store c.args.store.now c.args.loaded.now) c.args.index.now c.args.session.now (minds_of g.B.Applet.mind c.args.cast.now)) (scene (memory g.S.Store c.register.new.store c.register.new.loaded) c.register.new.index c.register.new.session (minds_of g.B.Applet.mind c.register.new.cast)) (scene (memory g.S.Store c.drive_in_place.new.store c.drive_in_place.new.loaded) c.drive_in_place.new.index c.drive_in_place.new.session (minds_of g.B.Applet.mind c.drive_in_place.new.cast)) _ c.drive_in_place.result c.in_ok-register.ensures.keeps c.drive_in_place.ensures.keeps

pub returns-in_err-register-clause-untold : goal.returns-in_err-register-clause-untold
returns-in_err-register-clause-untold g c =
    λ other differs apart. c.register.ensures.untold other differs

pub returns-clause-untold : goal.returns-clause-untold
returns-clause-untold g c =
    λ other differs apart.
    c.drive_in_place.ensures.untold other (subst (λ (late : List LateTrigger). AreForOthers other late) (sym (ap (λ (s : ToolkitState). s.session.late) c.in_ok-register.ensures.registers.toolkit_is)) apart)
    ∙ c.register.ensures.untold other differs
