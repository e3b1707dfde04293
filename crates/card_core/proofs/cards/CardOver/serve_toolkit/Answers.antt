-- by_toolkit speaks of a lent table and lent boxes; where a fault stops a DELETE, the box whose row may be gone is the one that is leaving.
use Rattle.std.proofs.Common.{List, Option, refl, sym, ◌∙◌, ap, subst, rules}
use Rattle.std.proofs.lemmas.Bool.{false≢true}
use Rattle.std.proofs.lemmas.List.{with_items_is}
use Rattle.card_state.specs.declared.entries.Loaded.{Loaded}
use Rattle.card_state.specs.Memory.{memory}
use Rattle.file_model.specs.LawfulTrees.{AreSelected}
use Rattle.file_model.specs.declared.descriptors.Descriptor.{Descriptor}
use Rattle.applet_trait.specs.Minds.{AppletState, minds_of}
use Rattle.toolkit_model.specs.OrderlySessions.{IsInOrder}
use Rattle.proactive_handler.specs.Steps.{scene, toolkit}
use Rattle.card_core.specs.Cards.{parts_of}
use Rattle.card_core.proofs.HasToolkitLemmas.{LeavesBy, leaves_by, files_beside_rows}
use Rattle.card_core.proofs.ServedLemmas.{served_act, served_set, served_stops, served_rows, stopped_set}
use Rattle.card_core.proofs.cards.CardOver.serve_toolkit.Goals as goal

pub returns-in-Ok-clause-acts : goal.returns-in-Ok-clause-acts
returns-in-Ok-clause-acts g c =
    served_act c.tables_tell_states.ensures c.tables_have_rows.ensures c.cards_go_on.ensures.rows c.args.command c.args.apdu.now (parts_of g.S.Store g.B.Applet c.args.self.now) _ c.requires.underway.running c.by_toolkit.new.out
    c.deref_mut.result.now (minds_of g.B.Applet.mind c.deref_mut-2.result.now) (minds_of g.B.Applet.mind c.by_toolkit.new.cast)
    c.deref_mut.ensures.value (ap (minds_of g.B.Applet.mind) c.deref_mut-2.ensures.value) (sym (ap (minds_of g.B.Applet.mind) (with_items_is c.args.self.now.boxes c.by_toolkit.new.cast (c.by_toolkit.auto.cast ∙ c.deref_mut-2.ensures.len))))
    tt c.in-Ok.ensures.keeps c.in-Ok.ensures.carries refl refl

pub returns-in-Err-clause-acts : goal.returns-in-Err-clause-acts
returns-in-Err-clause-acts g c =
    served_stops c.tables_tell_states.ensures c.tables_have_rows.ensures c.cards_go_on.ensures.rows c.args.command c.args.apdu.now (parts_of g.S.Store g.B.Applet c.args.self.now) _ c.requires.underway.running c.by_toolkit.new.out
    c.deref_mut.result.now (minds_of g.B.Applet.mind c.deref_mut-2.result.now) (minds_of g.B.Applet.mind c.by_toolkit.new.cast)
    c.deref_mut.ensures.value (ap (minds_of g.B.Applet.mind) c.deref_mut-2.ensures.value) (sym (ap (minds_of g.B.Applet.mind) (with_items_is c.args.self.now.boxes c.by_toolkit.new.cast (c.by_toolkit.auto.cast ∙ c.deref_mut-2.ensures.len))))
    c.in-Err.fault c.in-Err.ensures.keeps c.in-Err.ensures.carries c.states_are_of_entries.ensures.rows
    (subst (LeavesBy c.args.command c.args.apdu.now) (sym c.leaving-self.ensures) (leaves_by c.args.command c.args.apdu.now)) (λ is. false≢true (c.in-Err.ensures.done is)) refl refl

pub returns-in-Err-clause-stopped : goal.returns-in-Err-clause-stopped
returns-in-Err-clause-stopped g c =
    served_rows c.tables_tell_states.ensures c.tables_have_rows.ensures c.cards_go_on.ensures.rows c.args.command c.args.apdu.now (parts_of g.S.Store g.B.Applet c.args.self.now) _ c.requires.underway.running c.by_toolkit.new.out
    c.deref_mut.result.now (minds_of g.B.Applet.mind c.deref_mut-2.result.now) (minds_of g.B.Applet.mind c.by_toolkit.new.cast)
    c.deref_mut.ensures.value (ap (minds_of g.B.Applet.mind) c.deref_mut-2.ensures.value) (sym (ap (minds_of g.B.Applet.mind) (with_items_is c.args.self.now.boxes c.by_toolkit.new.cast (c.by_toolkit.auto.cast ∙ c.deref_mut-2.ensures.len))))
    c.in-Err.fault c.in-Err.ensures.keeps c.in-Err.ensures.carries

pub returns-in-Ok-clause-goes_on : goal.returns-in-Ok-clause-goes_on
returns-in-Ok-clause-goes_on g c = record {
  set =
      served_set c.tables_tell_states.ensures c.tables_have_rows.ensures c.cards_go_on.ensures.rows c.args.command c.args.apdu.now (parts_of g.S.Store g.B.Applet c.args.self.now) _ c.requires.underway.running c.by_toolkit.new.out
      c.deref_mut.result.now (minds_of g.B.Applet.mind c.deref_mut-2.result.now) (minds_of g.B.Applet.mind c.by_toolkit.new.cast)
      c.deref_mut.ensures.value (ap (minds_of g.B.Applet.mind) c.deref_mut-2.ensures.value) (sym (ap (minds_of g.B.Applet.mind) (with_items_is c.args.self.now.boxes c.by_toolkit.new.cast (c.by_toolkit.auto.cast ∙ c.deref_mut-2.ensures.len))))
      c.requires.underway.set tt c.in-Ok.ensures.keeps c.in-Ok.ensures.carries;
  running = record {
    mounted = c.in-Ok.ensures.keeps.keeps.mounted;
    selected = subst (λ (files : List Descriptor). AreSelected files c.args.self.now.channels) (sym (files_beside_rows c.args.self.now.loaded.value c.by_toolkit.new.loaded (c.by_toolkit.ensures.keeps.table ∙ ap (λ (table : Loaded). record table { rows = c.by_toolkit.new.loaded.rows; next = c.by_toolkit.new.loaded.next }) c.deref_mut.ensures.value))) c.requires.underway.running.selected;
    toolkit = record {
      indexed = c.in-Ok.ensures.keeps.indexed;
      order = subst (λ (minds : List (Option AppletState)). IsInOrder (toolkit (scene (memory g.S.Store c.by_toolkit.new.store c.by_toolkit.new.loaded) c.by_toolkit.new.index c.by_toolkit.new.session minds))) (sym (ap (minds_of g.B.Applet.mind) (with_items_is c.args.self.now.boxes c.by_toolkit.new.cast (c.by_toolkit.auto.cast ∙ c.deref_mut-2.ensures.len)))) c.in-Ok.ensures.ends.order;
    };
    stays = c.requires.underway.running.stays;
  };
  others = search rules;
  cause = search rules;
}

pub returns-in-Err-clause-goes_on : goal.returns-in-Err-clause-goes_on
returns-in-Err-clause-goes_on g c = record {
  set =
      stopped_set c.tables_tell_states.ensures c.tables_have_rows.ensures c.cards_go_on.ensures.rows c.args.command c.args.apdu.now (parts_of g.S.Store g.B.Applet c.args.self.now) _ c.requires.underway.running c.by_toolkit.new.out
      c.deref_mut.result.now (minds_of g.B.Applet.mind c.deref_mut-2.result.now) (minds_of g.B.Applet.mind c.by_toolkit.new.cast)
      c.deref_mut.ensures.value (ap (minds_of g.B.Applet.mind) c.deref_mut-2.ensures.value) (sym (ap (minds_of g.B.Applet.mind) (with_items_is c.args.self.now.boxes c.by_toolkit.new.cast (c.by_toolkit.auto.cast ∙ c.deref_mut-2.ensures.len))))
      c.in-Err.fault c.in-Err.ensures.keeps c.in-Err.ensures.carries c.requires.underway.set;
  running = search rules;
  others = search rules;
  cause = search rules;
}

pub by_toolkit-requires-clause-short : goal.by_toolkit-requires-clause-short
by_toolkit-requires-clause-short g c = c.requires.apdu.1.short_data
