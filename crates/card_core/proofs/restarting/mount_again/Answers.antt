-- A box is missing or no card is read only where the store doesn't tell its bytes; so the table that was kept still agrees with it.
use Rattle.std.proofs.Common.{◌≡◌, None, ◌∙◌, ap, rules, Err, is_some}
use Rattle.applet_trait.specs.Minds.{minds_of}
use Rattle.card_core.proofs.HoldsCardLemmas.{silent_without_box, silent_without_card, kept_agrees, table_moved}
use Rattle.card_core.proofs.OpensLemmas.{agrees_of, read_anew, read_without_box, read_no_card}
use Rattle.card_core.proofs.restarting.mount_again.Goals as goal

pub returns-in-None-clause-restarts : goal.returns-in-None-clause-restarts
returns-in-None-clause-restarts g c = record {
  boxes_are = c.in-None.ensures.all;
  read =
      read_anew c.cards_are_known.ensures.table (g.S.Store.store_mark c.args.store.now) (g.S.Store.stable c.args.store.now) (minds_of g.B.Applet.mind c.args.boxes.now) c.mount.new.into c.in-Ok.ensures.mounts.table c.args.loaded.now
      c.in-None.ensures.all;
}

pub returns-in-None-clause-reads : goal.returns-in-None-clause-reads
returns-in-None-clause-reads g c = record {
  stable = c.mount.ensures.reads.stable;
  commits = c.mount.ensures.reads.commits;
  keeps = record {
    mounted = record {
      ready = c.in-Ok.ensures.mounts.ready;
      size_is = c.mount.ensures.reads.size ∙ c.requires.kept.size;
      agrees =
          agrees_of (g.S.Store.store_mark c.mount.new.store) (g.S.Store.stable c.mount.new.store) c.mount.new.into (table_moved _ _ _ _ c.mount.new.into c.mount.ensures.reads.mark c.mount.ensures.reads.stable c.in-Ok.ensures.mounts.table);
    };
    told = ap is_some c.mount.ensures.reads.stable;
    size = c.mount.ensures.reads.size;
    mark = c.mount.ensures.reads.mark;
    recoveries = c.mount.ensures.reads.recoveries;
    cause = search rules;
  };
}

pub returns-in-Some-clause-restarts : goal.returns-in-Some-clause-restarts
returns-in-Some-clause-restarts g c =
    let silent : g.S.Store.stable c.args.store.now ≡ None =
    silent_without_box c.cards_are_known.ensures.table (g.S.Store.store_mark c.args.store.now) (g.S.Store.stable c.args.store.now) c.mount.new.into (minds_of g.B.Applet.mind c.args.boxes.now) c.in-Some.field-0
    (agrees_of (g.S.Store.store_mark c.args.store.now) (g.S.Store.stable c.args.store.now) c.mount.new.into c.in-Ok.ensures.mounts.table) c.requires.kept.boxes_are c.in-Some.ensures.found in
    record {
      boxes_are = c.requires.kept.kept_boxes silent;
      read =
          read_without_box c.cards_are_known.ensures.table (g.S.Store.store_mark c.args.store.now) (g.S.Store.stable c.args.store.now) (minds_of g.B.Applet.mind c.args.boxes.now) c.mount.new.into c.in-Ok.ensures.mounts.table c.args.loaded.now
          c.in-Some.field-0 c.in-Some.ensures.found;
    }

pub returns-in-Some-clause-reads : goal.returns-in-Some-clause-reads
returns-in-Some-clause-reads g c =
    let silent : g.S.Store.stable c.args.store.now ≡ None =
    silent_without_box c.cards_are_known.ensures.table (g.S.Store.store_mark c.args.store.now) (g.S.Store.stable c.args.store.now) c.mount.new.into (minds_of g.B.Applet.mind c.args.boxes.now) c.in-Some.field-0
    (agrees_of (g.S.Store.store_mark c.args.store.now) (g.S.Store.stable c.args.store.now) c.mount.new.into c.in-Ok.ensures.mounts.table) c.requires.kept.boxes_are c.in-Some.ensures.found in
    record {
      stable = c.mount.ensures.reads.stable;
      commits = c.mount.ensures.reads.commits;
      keeps = record {
        mounted = record {
          ready = c.in-Ok.ensures.mounts.ready;
          size_is = c.mount.ensures.reads.size ∙ c.requires.kept.size;
          agrees = kept_agrees _ _ _ _ _ c.mount.ensures.reads.mark c.mount.ensures.reads.stable silent c.requires.kept.kept;
        };
        told = ap is_some c.mount.ensures.reads.stable;
        size = c.mount.ensures.reads.size;
        mark = c.mount.ensures.reads.mark;
        recoveries = c.mount.ensures.reads.recoveries;
        cause = search rules;
      };
    }

pub returns-in-Err-NotACard-clause-restarts : goal.returns-in-Err-NotACard-clause-restarts
returns-in-Err-NotACard-clause-restarts g c =
    let none = c.mount.ensures.no_card c.in-Err-NotACard.field-0-0 (c.in-Err-NotACard.is ∙ ap Err c.in-Err-NotACard.field-0-is) in
    record {
      boxes_are = c.requires.kept.kept_boxes (silent_without_card (g.S.Store.store_mark c.args.store.now) (g.S.Store.stable c.args.store.now) c.in-Err-NotACard.field-0-0 c.requires.kept.card none.no_card);
      read = read_no_card (g.S.Store.store_mark c.args.store.now) (g.S.Store.stable c.args.store.now) (minds_of g.B.Applet.mind c.args.boxes.now) c.args.loaded.now c.in-Err-NotACard.field-0-0 none.no_card;
    }

pub returns-in-Err-NotACard-clause-reads : goal.returns-in-Err-NotACard-clause-reads
returns-in-Err-NotACard-clause-reads g c =
    let none = c.mount.ensures.no_card c.in-Err-NotACard.field-0-0 (c.in-Err-NotACard.is ∙ ap Err c.in-Err-NotACard.field-0-is) in
    let silent : g.S.Store.stable c.args.store.now ≡ None =
    silent_without_card (g.S.Store.store_mark c.args.store.now) (g.S.Store.stable c.args.store.now) c.in-Err-NotACard.field-0-0 c.requires.kept.card none.no_card in
    record {
      stable = c.mount.ensures.reads.stable;
      commits = c.mount.ensures.reads.commits;
      keeps = record {
        mounted = record {
          ready = none.ready;
          size_is = c.mount.ensures.reads.size ∙ c.requires.kept.size;
          agrees = kept_agrees _ _ _ _ _ c.mount.ensures.reads.mark c.mount.ensures.reads.stable silent c.requires.kept.kept;
        };
        told = ap is_some c.mount.ensures.reads.stable;
        size = c.mount.ensures.reads.size;
        mark = c.mount.ensures.reads.mark;
        recoveries = c.mount.ensures.reads.recoveries;
        cause = search rules;
      };
    }
