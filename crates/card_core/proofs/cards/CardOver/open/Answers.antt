-- The opened card is set out part by part: the boxes given fill all shelves with empty ones after, and a migrated card is a card still.
use Rattle.std.proofs.Common.{true, false, None, option_map, refl, subst, arith, rules}
use Rattle.std.proofs.lemmas.List.{length-map}
use Rattle.card_state.specs.declared.entries.Loaded.{Loaded}
use Rattle.card_state.specs.Standing.{standing}
use Rattle.card_state.specs.States.{rows_of}
use Rattle.applet_trait.specs.Minds.{minds_of}
use Rattle.event_dispatch.specs.Indexes.{StandsFor}
use Rattle.card_model.specs.States.{nothing_verified}
use Rattle.card_core.specs.Parts.{CardParts}
use Rattle.card_core.specs.Openings.{with_all_shelves}
use Rattle.card_core.proofs.IsOpenedLemmas.{all_shelves, opened_is, opened_ready, holds_migrated}
use Rattle.card_core.proofs.cards.CardOver.open.Goals as goal

pub returns-in-Ok-begin-clause-opened : goal.returns-in-Ok-begin-clause-opened
returns-in-Ok-begin-clause-opened g c =
    let new : CardParts = record {
      recovered = g.S.Store.recovered c.begin.new.store;
      byte_count = g.S.Store.byte_count c.begin.new.store;
      store_mark = g.S.Store.store_mark c.begin.new.store;
      told = g.S.Store.stable c.begin.new.store;
      meter = g.S.Store.meter c.begin.new.store;
      commits = g.S.Store.commits c.begin.new.store;
      reads = g.S.Store.reads c.begin.new.store;
      recoveries = g.S.Store.recoveries c.begin.new.store;
      table = c.begin.new.loaded;
      index = c.build.result;
      channels = c.new-in-Ok-begin.result;
      verified = nothing_verified;
      session = c.in-Ok-fresh_session.session;
      leaving = None;
      boxes = minds_of g.B.Applet.mind c.begin.new.boxes.items;
      is_on = true;
      is_due = false;
    } in
    record {
      opened =
          opened_is c.tables_tell_states.ensures new (standing (g.S.Store.store_mark c.args.store) (g.S.Store.stable c.args.store)) (minds_of g.B.Applet.mind c.args.cast.items) c.in-Ok-begin.ensures.opens.mounted.agrees refl c.new-in-Ok-begin.ensures refl c.in-Ok-fresh_session.ensures.ok
          c.in-Ok-begin.ensures.woke c.in-Ok-begin.ensures.opens.migrated_is;
      ready =
          opened_ready c.tables_tell_states.ensures c.the_mf_is_there.ensures c.tables_have_rows.ensures new (with_all_shelves (minds_of g.B.Applet.mind c.args.cast.items)) c.in-Ok-begin.ensures.opens.mounted refl c.new-in-Ok-begin.ensures refl c.in-Ok-fresh_session.ensures.ok refl
          (subst (λ (table : Loaded). StandsFor c.build.result (rows_of table)) c.deref.ensures c.build.ensures) c.in-Ok-begin.ensures.woke
          (all_shelves (minds_of g.B.Applet.mind c.args.cast.items) None (omega (arith, c.requires.shelves, length-map c.args.cast.items (option_map g.B.Applet.mind))))
          c.in-Ok-begin.ensures.opens.boxes_are c.in-Ok-begin.ensures.opens.kinds
          (holds_migrated (g.S.Store.store_mark c.args.store) (g.S.Store.store_mark c.begin.new.store) (g.S.Store.stable c.args.store) (g.S.Store.stable c.begin.new.store) c.in-Ok-begin.ensures.opens.card c.begin.ensures.keeps.told c.in-Ok-begin.ensures.opens.migrated_is)
          c.in-Ok-begin.ensures.opens.sound c.in-Ok-begin.ensures.power;
      on = refl;
      rests = refl;
      opens = c.in-Ok-begin.ensures.opens;
      told = c.begin.ensures.keeps.told;
      mark = c.begin.ensures.keeps.mark;
      calm = search rules;
      recoveries = c.in-Ok-begin.ensures.recovers;
    }
