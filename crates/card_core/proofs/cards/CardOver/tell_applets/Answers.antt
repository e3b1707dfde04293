-- A fault puts the noted rows back: telling of STATUS gives no shelf a row that had none, so the table is the old one and boxes fit.
use Rattle.std.proofs.Common.{ap, subst, sym, ◌∙◌, rules, All}
use Rattle.card_state.specs.declared.entries.Loaded.{Loaded}
use Rattle.file_model.specs.declared.commands.FileCommand.TheVariants.{Status}
use Rattle.card_model.specs.declared.instructions.Instruction.TheVariants.{File}
use Rattle.card_core.specs.Cards.{parts_of}
use Rattle.card_core.specs.Registered.{IsUsedOrBlank}
use Rattle.card_core.proofs.HasNoRowLemmas.{none_polled}
use Rattle.card_core.proofs.PutBackLemmas.{rows_blank, put_back_so, yields_restored, set_restored, status_restored}
use Rattle.card_core.proofs.HasToolkitLemmas.{rows_alone_moved}
use Rattle.card_core.proofs.IsRunningLemmas.{in_order, some_told}
use Rattle.card_core.proofs.WritingLemmas.{stops_beside}
use Rattle.card_core.proofs.cards.CardOver.tell_applets.Goals as goal

pub note-requires : goal.note-requires
note-requires g c = record { blank = subst (λ (table : Loaded). All IsUsedOrBlank table.rows) (sym c.deref.ensures) (rows_blank _ _ _ c.requires.underway.running.mounted.agrees) }

pub returns-in-Err-clause-table : goal.returns-in-Err-clause-table
returns-in-Err-clause-table g c =
    put_back_so c.args.self.now.loaded.value c.serve_status.new.self.loaded.value c.put_back.new.loaded c.serve_status.new.self.before.rows c.serve_status.new.self.before.next (rows_alone_moved c.args.self.now.loaded.value c.serve_status.new.self.loaded.value c.in-Err.ensures.acts.moves.table)
    (ap (λ kept. kept.rows) c.serve_status.ensures.before ∙ c.note.ensures.rows ∙ ap (λ (table : Loaded). table.rows) c.deref.ensures)
    (ap (λ kept. kept.next) c.serve_status.ensures.before ∙ c.note.ensures.next ∙ ap (λ (table : Loaded). table.next) c.deref.ensures)
    (c.put_back.ensures ∙ ap (λ (table : Loaded). record table { rows = c.serve_status.new.self.before.rows; next = c.serve_status.new.self.before.next }) c.deref_mut.ensures.value)

pub returns-in-Err-clause-acts : goal.returns-in-Err-clause-acts
returns-in-Err-clause-acts g c = record {
  yields = λ by state known. yields_restored (parts_of g.S.Store g.B.Applet c.args.self.now) (parts_of g.S.Store g.B.Applet c.serve_status.new.self) c.put_back.new.loaded c.in-Err.fault by (File Status) _ _ _ (c.in-Err.ensures.acts.yields by state known);
  writes = λ state held. stops_beside (parts_of g.S.Store g.B.Applet c.args.self.now) (parts_of g.S.Store g.B.Applet c.serve_status.new.self) c.put_back.new.loaded _ (c.in-Err.ensures.acts.writes state held);
  moves =
      let some = some_told c.tables_tell_states.ensures _ _ c.args.self.now.loaded.value c.requires.underway.running.mounted.agrees in
      status_restored (parts_of g.S.Store g.B.Applet c.args.self.now) (parts_of g.S.Store g.B.Applet c.serve_status.new.self) c.put_back.new.loaded (returns-in-Err-clause-table g c) c.in-Err.ensures.acts.moves
      (λ shelf lacks.
      none_polled c.states_are_of_entries.ensures.rows (parts_of g.S.Store g.B.Applet c.args.self.now) (parts_of g.S.Store g.B.Applet c.serve_status.new.self) some.0 some.1
      (in_order c.tables_have_rows.ensures (parts_of g.S.Store g.B.Applet c.args.self.now) c.requires.underway.running some.0 some.1) shelf lacks c.cards_go_on.ensures.telling (c.in-Err.ensures.stopped.rows some.0 some.1));
}

pub returns-in-Err-clause-goes_on : goal.returns-in-Err-clause-goes_on
returns-in-Err-clause-goes_on g c = record {
  set =
      set_restored (parts_of g.S.Store g.B.Applet c.args.self.now) (parts_of g.S.Store g.B.Applet c.serve_status.new.self) c.put_back.new.loaded (returns-in-Err-clause-table g c) c.requires.underway.set c.in-Err.ensures.goes_on.set c.requires.underway.running.mounted.agrees
      c.in-Err.ensures.goes_on.others.store_mark c.in-Err.ensures.goes_on.others.told c.in-Err.ensures.acts.moves.kinds;
  running = search rules;
  others = search rules;
  cause = search rules;
}
