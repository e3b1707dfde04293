-- poll speaks of a table and boxes that are lent: all it says is led to the card's own, also which state a fault in telling STATUS leaves.
use Rattle.std.proofs.Common.{List, Option, refl, sym, ◌∙◌, ap, subst, rules}
use Rattle.std.proofs.lemmas.List.{with_items_is}
use Rattle.card_state.specs.declared.entries.Loaded.{Loaded}
use Rattle.card_state.specs.Memory.{memory}
use Rattle.file_model.specs.LawfulTrees.{AreSelected}
use Rattle.file_model.specs.declared.descriptors.Descriptor.{Descriptor}
use Rattle.applet_trait.specs.Minds.{AppletState, minds_of}
use Rattle.toolkit_model.specs.OrderlySessions.{IsInOrder}
use Rattle.proactive_handler.specs.Steps.{scene, toolkit}
use Rattle.card_core.specs.Cards.{parts_of}
use Rattle.card_core.proofs.HasToolkitLemmas.{files_beside_rows, rows_alone_moved}
use Rattle.card_core.proofs.ServedLemmas.{status_act, status_set, status_stops, status_rows, status_stopped_set}
use Rattle.card_core.proofs.cards.CardOver.serve_status.Goals as goal

pub returns-in-Ok-clause-acts : goal.returns-in-Ok-clause-acts
returns-in-Ok-clause-acts g c =
    status_act c.tables_tell_states.ensures c.tables_have_rows.ensures c.cards_go_on.ensures.telling (parts_of g.S.Store g.B.Applet c.args.self.now) _ c.requires.underway.running
    c.deref_mut.result.now (minds_of g.B.Applet.mind c.deref_mut-2.result.now) (minds_of g.B.Applet.mind c.poll.new.cast)
    c.deref_mut.ensures.value (ap (minds_of g.B.Applet.mind) c.deref_mut-2.ensures.value) (sym (ap (minds_of g.B.Applet.mind) (with_items_is c.args.self.now.boxes c.poll.new.cast (c.poll.auto.cast ∙ c.deref_mut-2.ensures.len))))
    tt c.in-Ok.ensures.keeps c.in-Ok.ensures.comes refl refl

pub returns-in-Err-clause-acts : goal.returns-in-Err-clause-acts
returns-in-Err-clause-acts g c =
    status_stops c.tables_tell_states.ensures c.tables_have_rows.ensures c.cards_go_on.ensures.telling (parts_of g.S.Store g.B.Applet c.args.self.now) _ c.requires.underway.running
    c.deref_mut.result.now (minds_of g.B.Applet.mind c.deref_mut-2.result.now) (minds_of g.B.Applet.mind c.poll.new.cast)
    c.deref_mut.ensures.value (ap (minds_of g.B.Applet.mind) c.deref_mut-2.ensures.value) (sym (ap (minds_of g.B.Applet.mind) (with_items_is c.args.self.now.boxes c.poll.new.cast (c.poll.auto.cast ∙ c.deref_mut-2.ensures.len))))
    c.in-Err.fault c.in-Err.ensures.keeps c.in-Err.ensures.comes c.states_are_of_entries.ensures.rows c.requires.underway.running.stays refl refl

pub returns-in-Err-clause-stopped : goal.returns-in-Err-clause-stopped
returns-in-Err-clause-stopped g c =
    status_rows c.tables_tell_states.ensures c.tables_have_rows.ensures c.cards_go_on.ensures.telling (parts_of g.S.Store g.B.Applet c.args.self.now) _ c.requires.underway.running
    c.deref_mut.result.now (minds_of g.B.Applet.mind c.deref_mut-2.result.now) (minds_of g.B.Applet.mind c.poll.new.cast)
    c.deref_mut.ensures.value (ap (minds_of g.B.Applet.mind) c.deref_mut-2.ensures.value) (sym (ap (minds_of g.B.Applet.mind) (with_items_is c.args.self.now.boxes c.poll.new.cast (c.poll.auto.cast ∙ c.deref_mut-2.ensures.len))))
    c.in-Err.fault c.in-Err.ensures.keeps c.in-Err.ensures.comes

pub returns-in-Ok-clause-goes_on : goal.returns-in-Ok-clause-goes_on
returns-in-Ok-clause-goes_on g c = record {
  set =
      status_set c.tables_tell_states.ensures c.tables_have_rows.ensures c.cards_go_on.ensures.telling (parts_of g.S.Store g.B.Applet c.args.self.now) _ c.requires.underway.running
      c.deref_mut.result.now (minds_of g.B.Applet.mind c.deref_mut-2.result.now) (minds_of g.B.Applet.mind c.poll.new.cast)
      c.deref_mut.ensures.value (ap (minds_of g.B.Applet.mind) c.deref_mut-2.ensures.value) (sym (ap (minds_of g.B.Applet.mind) (with_items_is c.args.self.now.boxes c.poll.new.cast (c.poll.auto.cast ∙ c.deref_mut-2.ensures.len))))
      c.requires.underway.set tt c.in-Ok.ensures.keeps c.in-Ok.ensures.comes;
  running = record {
    mounted = c.in-Ok.ensures.keeps.keeps.mounted;
    selected = subst (λ (files : List Descriptor). AreSelected files c.args.self.now.channels) (sym (files_beside_rows c.args.self.now.loaded.value c.poll.new.loaded (rows_alone_moved c.args.self.now.loaded.value c.poll.new.loaded (c.poll.ensures.keeps.table ∙ ap (λ (table : Loaded). record table { rows = c.poll.new.loaded.rows }) c.deref_mut.ensures.value)))) c.requires.underway.running.selected;
    toolkit = record {
      indexed = c.in-Ok.ensures.keeps.indexed;
      order = subst (λ (minds : List (Option AppletState)). IsInOrder (toolkit (scene (memory g.S.Store c.poll.new.store c.poll.new.loaded) c.poll.new.index c.poll.new.session minds))) (sym (ap (minds_of g.B.Applet.mind) (with_items_is c.args.self.now.boxes c.poll.new.cast (c.poll.auto.cast ∙ c.deref_mut-2.ensures.len)))) c.in-Ok.ensures.order;
    };
    stays = c.requires.underway.running.stays;
  };
  others = search rules;
  cause = search rules;
}

pub returns-in-Err-clause-goes_on : goal.returns-in-Err-clause-goes_on
returns-in-Err-clause-goes_on g c = record {
  set =
      status_stopped_set c.tables_tell_states.ensures c.tables_have_rows.ensures c.cards_go_on.ensures.telling (parts_of g.S.Store g.B.Applet c.args.self.now) _ c.requires.underway.running
      c.deref_mut.result.now (minds_of g.B.Applet.mind c.deref_mut-2.result.now) (minds_of g.B.Applet.mind c.poll.new.cast)
      c.deref_mut.ensures.value (ap (minds_of g.B.Applet.mind) c.deref_mut-2.ensures.value) (sym (ap (minds_of g.B.Applet.mind) (with_items_is c.args.self.now.boxes c.poll.new.cast (c.poll.auto.cast ∙ c.deref_mut-2.ensures.len))))
      c.in-Err.fault c.in-Err.ensures.keeps c.in-Err.ensures.comes c.requires.underway.set;
  running = search rules;
  others = search rules;
  cause = search rules;
}
