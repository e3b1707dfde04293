use Rattle.std.proofs.Common.{length, sym, ◌∙◌, ap}
use Rattle.proactive_handler.proofs.IsSessionServedLemmas.{has_room}
use Rattle.proactive_handler.proofs.running.place_of.Goals as goal

pub returns-clause-room : goal.returns-clause-room
returns-clause-room c =
    has_room c.args.loaded.now c.args.session.now c.args.shelf.0 _ (ap length (sym c.all_rows.ensures.value) ∙ c.all_rows.ensures.long) c.requires.served c.requires.idle c.requires.row
