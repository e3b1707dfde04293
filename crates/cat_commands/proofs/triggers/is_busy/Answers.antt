use Rattle.std.proofs.Common.{sym, length}
use Rattle.toolkit_commands.specs.Reports.{reported}
use Rattle.toolkit_model.specs.Orderly.{asks}
use Rattle.cat_commands.proofs.TriggersLemmas.{full_busy, call_busy, others_busy}
use Rattle.cat_commands.proofs.triggers.is_busy.Goals as goal

pub returns-then-suspended-late_free : goal.returns-then-suspended-late_free
returns-then-suspended-late_free c =
    full_busy (asks c.args.session.now) (length c.args.session.now.late) c.late_free.result (reported c.args.envelope.now) c.as_slice.result.now c.args.shelves.now c.suspended_count-suspended.result c.as_slice.ensures.value c.suspended_count-suspended.ensures c.late_free.ensures.value c.if-suspended-late_free.true

pub returns-then-is_call : goal.returns-then-is_call
returns-then-is_call c =
    call_busy (asks c.args.session.now) (length c.args.session.now.late) c.late_free.result (reported c.args.envelope.now) c.as_slice.result.now c.args.shelves.now c.suspended_count-suspended.result c.as_slice.ensures.value c.suspended_count-suspended.ensures c.late_free.ensures.value c.if-suspended-late_free.false (sym c.if-is_call.ensures)

pub returns-else-is_call : goal.returns-else-is_call
returns-else-is_call c =
    others_busy (asks c.args.session.now) (length c.args.session.now.late) c.late_free.result (reported c.args.envelope.now) c.as_slice.result.now c.args.shelves.now c.suspended_count-suspended.result c.as_slice.ensures.value c.suspended_count-suspended.ensures c.late_free.ensures.value c.is_call.result c.is_call.ensures c.if-suspended-late_free.false c.if-is_call.false
