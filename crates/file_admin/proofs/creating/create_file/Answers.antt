use Rattle.std.proofs.Common.{rules}
use Rattle.apdu_form.specs.Classes.{channel_of}
use Rattle.file_model.specs.Creating.{created}
use Rattle.file_admin.proofs.IsTreeOutcomeLemmas.{performs, selected_there}
use Rattle.file_admin.proofs.creating.create_file.Goals as goal

pub returns-in-Ok-clause-performs : goal.returns-in-Ok-clause-performs
returns-in-Ok-clause-performs g c =
    performs c.in-Ok.status c.clear.new.self _ _ c.args.channels.now c.try_create.new.channels (λ state. created state c.args.seen.now c.args.channels.now (channel_of c.args.command.now.class) c.args.command.now)
    c.cards_are_known.ensures.table c.stores_stand.ensures.known c.requires.mounted c.clear.ensures c.in-Ok.ensures.done

pub returns-in-Ok-clause-ends : goal.returns-in-Ok-clause-ends
returns-in-Ok-clause-ends g c = record {
  empty = c.clear.ensures;
  usual = c.in-Ok.ensures.ends.usual;
  selected =
      selected_there c.cards_are_known.ensures.card c.cards_are_known.ensures.table c.files_are_found.ensures.told created c.selections_stay.ensures.create (g.S.Store.store_mark c.args.store.now) (g.S.Store.stable c.args.store.now) c.args.loaded.now c.requires.mounted.agrees
      c.args.seen.now c.args.channels.now (channel_of c.args.command.now.class) c.args.command.now c.requires.selected c.requires.open c.try_create.new.loaded c.try_create.new.channels c.in-Ok.status c.in-Ok.ensures.done.answers;
  nodes = search rules;
  kept = tt;
  channels_kept = tt;
  keeps = search rules;
}
