use Rattle.std.proofs.Common.{sym, refl}
use Rattle.card_state.specs.States.{pins_of}
use Rattle.card_commits.specs.Entries.{with_pin_at}
use Rattle.card_commits.specs.Pins.{with_pin_changed, put_pin}
use Rattle.card_commits.specs.Writing.{prepared_for}
use Rattle.card_commits.proofs.CommittedLemmas.{stopped}
use Rattle.card_commits.proofs.PinsLemmas.{pin_commit, pins_told, span_usable}
use Rattle.card_commits.proofs.WritingLemmas.{writes, handed_on, pin_pieces_put}
use Rattle.card_commits.proofs.pins.change_pin.Goals as goal

pub commit-requires-clause-usable : goal.commit-requires-clause-usable
commit-requires-clause-usable g c = span_usable c.args.change c.args.slot c.applied-pin.result c.span-from.result c.pin_piece.new.writes c.pin_of.ensures.low c.pin_ranges.ensures c.span-from.ensures c.pin_piece.ensures

pub returns-in_err-commit-clause-committed : goal.returns-in_err-commit-clause-committed
returns-in_err-commit-clause-committed g c = rw (sym c.pin_of.ensures.value) (stopped _ _ _ _ _ c.from_residual.result c.from_residual.ensures (c.in_err-commit.ensures.committed (with_pin_at c.args.loaded.now c.args.slot c.applied-pin.result) (with_pin_changed c.args.change c.pin_of.result) (pin_commit c.cards_are_known.ensures.card c.cards_are_known.ensures.table c.cards_are_known.ensures.pins _ _ c.args.loaded.now c.args.slot c.pin_of.result c.pin_of.ensures.there c.pins_stand.ensures.changed c.args.change c.pin_piece.new.writes c.applied-pin.result c.span-from.result.0 c.span-from.result.1 c.requires.tries c.pin_ranges.ensures c.applied-pin.ensures c.span-from.ensures c.pin_piece.ensures)))

pub returns-clause-pins : goal.returns-clause-pins
returns-clause-pins g c = rw (c.from.ensures, sym c.pin_of.ensures.value) (pins_told c.cards_are_known.ensures.card c.cards_are_known.ensures.table c.cards_are_known.ensures.pins _ _ c.args.loaded.now c.args.slot c.pin_of.result c.pin_of.ensures.there c.args.change c.pin_piece.new.writes (with_pin_at c.args.loaded.now c.args.slot c.applied-pin.result) c.requires.mounted.agrees (pin_commit c.cards_are_known.ensures.card c.cards_are_known.ensures.table c.cards_are_known.ensures.pins _ _ c.args.loaded.now c.args.slot c.pin_of.result c.pin_of.ensures.there c.pins_stand.ensures.changed c.args.change c.pin_piece.new.writes c.applied-pin.result c.span-from.result.0 c.span-from.result.1 c.requires.tries c.pin_ranges.ensures c.applied-pin.ensures c.span-from.ensures c.pin_piece.ensures))

pub returns-clause-committed : goal.returns-clause-committed
returns-clause-committed g c = rw (c.from.ensures, sym c.pin_of.ensures.value) (c.in_ok-commit.ensures.committed (with_pin_at c.args.loaded.now c.args.slot c.applied-pin.result) (with_pin_changed c.args.change c.pin_of.result) (pin_commit c.cards_are_known.ensures.card c.cards_are_known.ensures.table c.cards_are_known.ensures.pins _ _ c.args.loaded.now c.args.slot c.pin_of.result c.pin_of.ensures.there c.pins_stand.ensures.changed c.args.change c.pin_piece.new.writes c.applied-pin.result c.span-from.result.0 c.span-from.result.1 c.requires.tries c.pin_ranges.ensures c.applied-pin.ensures c.span-from.ensures c.pin_piece.ensures))

pub returns-in_err-commit-clause-writes : goal.returns-in_err-commit-clause-writes
unfolding prepared_for
returns-in_err-commit-clause-writes g c = rw (sym c.pin_of.ensures.value)
    (handed_on _ _ (put_pin c.args.change (pins_of c.args.loaded.now) c.pin_of.result) _ c.from_residual.result c.from_residual.ensures.0
    (writes _ _ _ _ c.args.loaded.now _ (put_pin c.args.change (pins_of c.args.loaded.now) c.pin_of.result) c.requires.mounted.agrees (pin_pieces_put c.cards_are_known.ensures.table c.cards_are_known.ensures.pins _ _ c.args.loaded.now c.requires.mounted.agrees c.args.slot c.pin_of.result c.pin_of.ensures.there c.args.change c.applied-pin.result c.span-from.result.0 c.span-from.result.1 _ c.applied-pin.ensures c.span-from.ensures c.pin_piece.ensures) (λ content. refl) c.in_err-commit.ensures.pieces))

pub returns-clause-writes : goal.returns-clause-writes
unfolding prepared_for
returns-clause-writes g c = rw (sym c.pin_of.ensures.value)
    (record { ok = (writes _ _ _ _ c.args.loaded.now _ (put_pin c.args.change (pins_of c.args.loaded.now) c.pin_of.result) c.requires.mounted.agrees (pin_pieces_put c.cards_are_known.ensures.table c.cards_are_known.ensures.pins _ _ c.args.loaded.now c.requires.mounted.agrees c.args.slot c.pin_of.result c.pin_of.ensures.there c.args.change c.applied-pin.result c.span-from.result.0 c.span-from.result.1 _ c.applied-pin.ensures c.span-from.ensures c.pin_piece.ensures) (λ content. refl) c.in_ok-commit.ensures.pieces).ok; whole = tt })
