-- The new row stands in the table of rows, so its shelf has one: the index takes it in there, and the applet that wakes is of its kind.
use Rattle.std.proofs.Common.{ℕ, List, Option, None, refl, sym, ◌∙◌, ap, subst, Contains, get_or-set_other}
use Rattle.card_state.specs.Memory.{memory}
use Rattle.card_state.specs.Persistent.{Registration}
use Rattle.card_state.specs.declared.entries.Loaded.{Loaded}
use Rattle.card_state.specs.States.{registration_of, rows_of}
use Rattle.card_commits.specs.Entries.{HasRowOn}
use Rattle.applet_trait.specs.Minds.{AppletState, minds_of}
use Rattle.toolkit_model.specs.Running.{mind_on}
use Rattle.proactive_handler.specs.Steps.{scene}
use Rattle.proactive_handler.proofs.RowsAreListedLemmas.{rows_listed}
use Rattle.cat_commands.proofs.HasRowOnLemmas.{has_set, served_on}
use Rattle.cat_commands.proofs.RegisteringLemmas.{wakes, wakes_kind, rows_with, registered_so, registered_not, with_row_has}
use Rattle.cat_commands.proofs.AppletInstalledLemmas.{rows_and_next, index_with, keeps_beside}
use Rattle.cat_commands.proofs.TriggersLemmas.{contained_has}
use Rattle.cat_commands.proofs.installing.register.Goals as goal

pub returns-clause-registers : goal.returns-clause-registers
returns-clause-registers g c =
    registered_so (scene (memory g.S.Store c.args.store.now c.args.loaded.now) c.args.index.now c.args.session.now (minds_of g.B.Applet.mind c.args.cast.now)) (scene (memory g.S.Store c.install_row.new.store c.install_row.new.loaded) c.installed.new.self c.args.session.now (minds_of g.B.Applet.mind c.wake.new.cast))
    c.args.shelf.0 c.args.row c.in_ok-install_row.ensures.table c.in_ok-install_row.ensures.rows refl
    (wakes (minds_of g.B.Applet.mind c.args.cast.now) (minds_of g.B.Applet.mind c.wake.new.cast) c.args.shelf.0 c.args.row.kind c.args.row.kept c.copy-kept.result c.requires.installable.kind c.copy-kept.ensures c.wake.ensures.minds) c.in_ok-install_row.ensures.committed.ok c.in_ok-install_row.ensures.committed.commits
    c.requires.installable.row_is.used c.requires.installable.row_is.events c.in_ok-install_row.ensures.writes.ok

pub returns-in_err-install_row-clause-registers : goal.returns-in_err-install_row-clause-registers
returns-in_err-install_row-clause-registers g c =
    registered_not (scene (memory g.S.Store c.args.store.now c.args.loaded.now) c.args.index.now c.args.session.now (minds_of g.B.Applet.mind c.args.cast.now)) (scene (memory g.S.Store c.install_row.new.store c.install_row.new.loaded) c.args.index.now c.args.session.now (minds_of g.B.Applet.mind c.args.cast.now))
    c.args.shelf.0 c.args.row c.from_residual.result c.from_residual.ensures.0 c.in_err-install_row.ensures.kept c.in_err-install_row.ensures.committed.whole c.in_err-install_row.ensures.committed.commits
    c.requires.installable.row_is.used c.requires.installable.row_is.events c.in_err-install_row.ensures.writes.whole

pub returns-clause-keeps : goal.returns-clause-keeps
returns-clause-keeps g c =
    let old = (scene (memory g.S.Store c.args.store.now c.args.loaded.now) c.args.index.now c.args.session.now (minds_of g.B.Applet.mind c.args.cast.now)) in
    let new = (scene (memory g.S.Store c.install_row.new.store c.install_row.new.loaded) c.installed.new.self c.args.session.now (minds_of g.B.Applet.mind c.wake.new.cast)) in
    let row : Registration = registration_of c.args.shelf.0 c.args.row in
    let rows = rows_with old new c.args.shelf.0 c.args.row c.in_ok-install_row.ensures.table c.in_ok-install_row.ensures.rows in
    let there : Contains (rows_of c.install_row.new.loaded) row = subst (λ (list : List Registration). Contains list row) (sym rows) (with_row_has (rows_of c.args.loaded.now) row) in
    let has : HasRowOn c.install_row.new.loaded c.args.shelf.0 = contained_has c.states_are_of_entries.ensures.from.rows c.states_are_of_entries.ensures.tables c.install_row.new.loaded row there in
    record {
      kinds = wakes_kind (minds_of g.B.Applet.mind c.args.cast.now) (minds_of g.B.Applet.mind c.wake.new.cast) c.args.shelf.0 c.args.row.kind c.args.row.kept c.copy-kept.result c.requires.installable.kind c.copy-kept.ensures c.wake.ensures.minds;
      others = λ other none.
          ap (λ (minds : List (Option AppletState)). mind_on minds other) c.wake.ensures.minds
          ∙ get_or-set_other (minds_of g.B.Applet.mind c.args.cast.now) c.args.shelf.0 other _ None (λ same. none (subst (λ (at : ℕ). HasRowOn c.install_row.new.loaded at) (sym same) has));
      served = served_on c.args.loaded.now c.install_row.new.loaded c.args.session.now (λ other there. has_set c.args.loaded.now c.install_row.new.loaded c.args.shelf.0 c.args.row other (ap (λ (t : Loaded). t.rows) c.in_ok-install_row.ensures.table) c.requires.installable.row_is.used there) c.requires.service.served;
      rows_stay = λ other there. has_set c.args.loaded.now c.install_row.new.loaded c.args.shelf.0 c.args.row other (ap (λ (t : Loaded). t.rows) c.in_ok-install_row.ensures.table) c.requires.installable.row_is.used there;
      indexed = index_with (rows_of c.args.loaded.now) (rows_of c.install_row.new.loaded) row c.args.shelf.0 c.args.index.now c.installed.new.self refl
          (rows_listed _ _ c.args.loaded.now c.requires.service.mounted.agrees).rows_are (rows_listed _ _ c.install_row.new.loaded c.in_ok-install_row.ensures.committed.keeps.mounted.agrees).rows_are
          c.requires.installable.free rows c.requires.service.indexed c.installed.ensures;
      table = rows_and_next c.args.loaded.now c.install_row.new.loaded _ _ c.in_ok-install_row.ensures.table;
      kept = tt;
      keeps = keeps_beside old.memory new.memory c.install_row.new.loaded.next _ _ c.in_ok-install_row.ensures.committed.keeps;
    }
