use Rattle.std.proofs.Common.{subst, sym}
use Rattle.card_state.specs.States.{pins_of}
use Rattle.file_model.specs.Access.{keys_seen}
use Rattle.card_core.proofs.SettledFileLemmas.{IsTelling, telling_changes}
use Rattle.card_core.proofs.WritingLemmas.{reads_write}
use Rattle.card_core.proofs.commands.on_files.Goals as goal

pub keys_seen-seen-requires : goal.keys_seen-seen-requires
keys_seen-seen-requires g c = record { own = c.keys_are_own.ensures (g.S.Store.store_mark c.args.store.now) (g.S.Store.stable c.args.store.now) c.args.loaded.now c.requires.place.mounted.agrees }

pub returns-in-Select-clause-writes : goal.returns-in-Select-clause-writes
returns-in-Select-clause-writes g c =
    reads_write c.select.result _ _ _ c.select.ensures.reads
    (λ state. telling_changes state (keys_seen (pins_of c.args.loaded.now) c.args.verified.now) c.args.selection.now c.args.apdu.now c.args.command (subst IsTelling (sym c.in-Select.is) tt))

pub returns-in-Status-clause-writes : goal.returns-in-Status-clause-writes
returns-in-Status-clause-writes g c =
    reads_write c.status.result _ _ _ c.status.ensures.reads
    (λ state. telling_changes state (keys_seen (pins_of c.args.loaded.now) c.args.verified.now) c.args.selection.now c.args.apdu.now c.args.command (subst IsTelling (sym c.in-Status.is) tt))
