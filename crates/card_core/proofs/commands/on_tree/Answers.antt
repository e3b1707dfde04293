use Rattle.card_state.specs.Memory.{memory}
use Rattle.file_admin.specs.Outcomes.{changes_by, creation_by, deletion_by, resizing_by}
use Rattle.card_core.proofs.TreeYieldsLemmas.{told_created, told_deleted, told_resized}
use Rattle.card_core.proofs.WritingLemmas.{made_writes, taken_writes}
use Rattle.card_core.specs.Serving.{TellsOfTree}
use Rattle.card_core.proofs.commands.on_tree.Goals as goal

pub keys_seen-seen-requires : goal.keys_seen-seen-requires
keys_seen-seen-requires g c = record { own = c.keys_are_own.ensures (g.S.Store.store_mark c.args.store.now) (g.S.Store.stable c.args.store.now) c.args.loaded.now c.requires.mounted.agrees }

pub returns-in-Create-clause-tells : goal.returns-in-Create-clause-tells
returns-in-Create-clause-tells g c =
    told_created
    (λ meaning. TellsOfTree c.create_file.result (memory g.S.Store c.args.store.now c.args.loaded.now) (memory g.S.Store c.create_file.new.store c.create_file.new.loaded) c.args.channels.now c.create_file.new.channels c.create_file.new.out.status meaning)
    c.args.command c.args.channels.now _ c.keys_seen-seen.result c.args.apdu.now c.keys_seen-seen.ensures c.in-Create.is
    (record {
      answers = c.create_file.ensures.answers;
      commits = c.create_file.ensures.commits;
      writes = made_writes c.create_file.result _ _ (λ state. changes_by c.args.channels.now (creation_by c.args.apdu.now c.keys_seen-seen.result c.args.channels.now state)) c.create_file.ensures.writes;
    })

pub returns-in-Delete-clause-tells : goal.returns-in-Delete-clause-tells
returns-in-Delete-clause-tells g c =
    told_deleted
    (λ meaning. TellsOfTree c.delete_file.result (memory g.S.Store c.args.store.now c.args.loaded.now) (memory g.S.Store c.delete_file.new.store c.delete_file.new.loaded) c.args.channels.now c.delete_file.new.channels c.delete_file.new.out.status meaning)
    c.args.command c.args.channels.now _ c.keys_seen-seen.result c.args.apdu.now c.keys_seen-seen.ensures c.in-Delete.is
    (record {
      answers = c.delete_file.ensures.answers;
      commits = c.delete_file.ensures.commits;
      writes = taken_writes c.delete_file.result _ _ (λ state. changes_by c.args.channels.now (deletion_by c.args.apdu.now c.keys_seen-seen.result c.args.channels.now state)) c.delete_file.ensures.writes;
    })

pub returns-in-Resize-clause-tells : goal.returns-in-Resize-clause-tells
returns-in-Resize-clause-tells g c =
    told_resized
    (λ meaning. TellsOfTree c.resize_file.result (memory g.S.Store c.args.store.now c.args.loaded.now) (memory g.S.Store c.resize_file.new.store c.resize_file.new.loaded) c.args.channels.now c.resize_file.new.channels c.resize_file.new.out.status meaning)
    c.args.command c.args.channels.now _ c.keys_seen-seen.result c.args.apdu.now c.keys_seen-seen.ensures c.in-Resize.is
    (record {
      answers = c.resize_file.ensures.answers;
      commits = c.resize_file.ensures.commits;
      writes = made_writes c.resize_file.result _ _ (λ state. changes_by c.args.channels.now (resizing_by c.args.apdu.now c.keys_seen-seen.result c.args.channels.now state)) c.resize_file.ensures.writes;
    })
