-- The boxes that were lent and woken are the card's again: with them it is the card that was due, and where a fault came it still is.
use Rattle.std.proofs.Common.{List, Option, true, refl, ◌∙◌, ap, subst, rules, All}
use Rattle.std.specs.Vec.{with_items}
use Rattle.std.proofs.lemmas.List.{with_items_is}
use Rattle.card_state.specs.States.{rows_of}
use Rattle.card_state.specs.declared.entries.Loaded.{Loaded}
use Rattle.layout_mount.specs.Mounted.{HasRead}
use Rattle.applet_trait.specs.Minds.{minds_of}
use Rattle.toolkit_model.specs.Commands.{woken_boxes}
use Rattle.event_dispatch.specs.Indexes.{StandsFor}
use Rattle.card_model.specs.States.{HasBox}
use Rattle.card_core.specs.Starts.{IsReadAgain}
use Rattle.card_core.specs.Parts.{CardParts}
use Rattle.card_core.specs.Cards.{parts_of, boxes_kept}
use Rattle.card_core.proofs.RestartLemmas.{due_same, restarted_so}
use Rattle.card_core.proofs.cards.CardOver.restart.Goals as goal

pub returns-in-Ok-clause-begins : goal.returns-in-Ok-clause-begins
returns-in-Ok-clause-begins g c = record {
  read =
      subst (λ (items : List (Option g.row.B.Denot)). HasRead (g.S.Store.stable c.args.self.now.store) (IsReadAgain (g.S.Store.store_mark c.args.self.now.store) (minds_of g.B.Applet.mind items) c.args.self.now.loaded.value c.wake_again.new.loaded)) c.deref_mut-2.ensures.value
      (subst (λ (table : Loaded). HasRead (g.S.Store.stable c.args.self.now.store) (IsReadAgain (g.S.Store.store_mark c.args.self.now.store) (minds_of g.B.Applet.mind c.deref_mut-2.result.now) table c.wake_again.new.loaded)) c.deref_mut.ensures.value
      c.in-Ok.ensures.restarts.read);
  channels = c.new-self.ensures;
  verified = refl;
  session = c.clear.ensures;
  boxes =
      ap (minds_of g.B.Applet.mind) (with_items_is c.args.self.now.boxes c.wake_again.new.boxes (c.wake_again.auto.boxes ∙ c.deref_mut-2.ensures.len)) ∙ c.in-Ok.ensures.woke ∙ ap (λ (items : List (Option g.row.B.Denot)). woken_boxes (rows_of c.wake_again.new.loaded) (boxes_kept c.args.self.now.leaving (rows_of c.wake_again.new.loaded) (minds_of g.B.Applet.mind items))) c.deref_mut-2.ensures.value;
  leaving = refl;
  rests = refl;
}

pub returns-in-Ok-clause-restarted : goal.returns-in-Ok-clause-restarted
returns-in-Ok-clause-restarted g c =
    (restarted_so c.tables_tell_states.ensures c.the_mf_is_there.ensures c.tables_have_rows.ensures (parts_of g.S.Store g.B.Applet c.args.self.now) _ c.requires.set c.wake_again.ensures.reads.keeps.size c.wake_again.ensures.reads.keeps.mark
    c.wake_again.ensures.reads.stable c.in-Ok.ensures.reads.keeps.mounted (returns-in-Ok-clause-begins g c) (subst (λ (table : Loaded). StandsFor c.build-self.result (rows_of table)) c.deref.ensures c.build-self.ensures)
    (subst (λ (items : List (Option g.row.B.Denot)). All (HasBox (minds_of g.B.Applet.mind items)) (rows_of c.wake_again.new.loaded)) c.deref_mut-2.ensures.value c.in-Ok.ensures.restarts.boxes_are)).card

pub returns-in-Ok-clause-rests : goal.returns-in-Ok-clause-rests
returns-in-Ok-clause-rests g c = record {
  set =
      (restarted_so c.tables_tell_states.ensures c.the_mf_is_there.ensures c.tables_have_rows.ensures (parts_of g.S.Store g.B.Applet c.args.self.now) _ c.requires.set c.wake_again.ensures.reads.keeps.size c.wake_again.ensures.reads.keeps.mark
      c.wake_again.ensures.reads.stable c.in-Ok.ensures.reads.keeps.mounted (returns-in-Ok-clause-begins g c) (subst (λ (table : Loaded). StandsFor c.build-self.result (rows_of table)) c.deref.ensures c.build-self.ensures)
      (subst (λ (items : List (Option g.row.B.Denot)). All (HasBox (minds_of g.B.Applet.mind items)) (rows_of c.wake_again.new.loaded)) c.deref_mut-2.ensures.value c.in-Ok.ensures.restarts.boxes_are)).set;
  running =
      (restarted_so c.tables_tell_states.ensures c.the_mf_is_there.ensures c.tables_have_rows.ensures (parts_of g.S.Store g.B.Applet c.args.self.now) _ c.requires.set c.wake_again.ensures.reads.keeps.size c.wake_again.ensures.reads.keeps.mark
      c.wake_again.ensures.reads.stable c.in-Ok.ensures.reads.keeps.mounted (returns-in-Ok-clause-begins g c) (subst (λ (table : Loaded). StandsFor c.build-self.result (rows_of table)) c.deref.ensures c.build-self.ensures)
      (subst (λ (items : List (Option g.row.B.Denot)). All (HasBox (minds_of g.B.Applet.mind items)) (rows_of c.wake_again.new.loaded)) c.deref_mut-2.ensures.value c.in-Ok.ensures.restarts.boxes_are)).running;
  rests = search rules;
  on = search rules;
  told = c.wake_again.ensures.reads.keeps.told;
  mark = search rules;
  cause = search rules;
}

pub returns-in-Err-clause-restarted : goal.returns-in-Err-clause-restarted
returns-in-Err-clause-restarted g c =
    let old : CardParts = parts_of g.S.Store g.B.Applet c.args.self.now in
    let new : CardParts = record old {
      recovered = g.S.Store.recovered c.wake_again.new.store;
      byte_count = g.S.Store.byte_count c.wake_again.new.store;
      store_mark = g.S.Store.store_mark c.wake_again.new.store;
      told = g.S.Store.stable c.wake_again.new.store;
      meter = g.S.Store.meter c.wake_again.new.store;
      commits = g.S.Store.commits c.wake_again.new.store;
      reads = g.S.Store.reads c.wake_again.new.store;
      recoveries = g.S.Store.recoveries c.wake_again.new.store;
      table = c.wake_again.new.loaded;
      boxes = minds_of g.B.Applet.mind (with_items c.args.self.now.boxes c.wake_again.new.boxes).items;
      is_due = true;
    } in
    due_same old new refl c.wake_again.ensures.reads.keeps.mark c.wake_again.ensures.reads.stable (ap (minds_of g.B.Applet.mind) (with_items_is c.args.self.now.boxes c.wake_again.new.boxes (c.wake_again.auto.boxes ∙ c.deref_mut-2.ensures.len) ∙ c.in-Err.ensures.asleep ∙ c.deref_mut-2.ensures.value)) refl

pub returns-in-Ok-clause-starts : goal.returns-in-Ok-clause-starts
returns-in-Ok-clause-starts g c = record { recovered = c.wake_again.ensures.reads.keeps.recoveries; read = c.in-Ok.ensures.read }

pub returns-in-Err-clause-starts : goal.returns-in-Err-clause-starts
returns-in-Err-clause-starts g c = record { recovered = c.wake_again.ensures.reads.keeps.recoveries; read = tt }
