-- A command, a reset and a note each add one event to the log; what the places hold is what the handset asked for, and it has less to do.
use Rattle.std.proofs.Common.{rules}
use Rattle.run_steps.proofs.SteppingLemmas.{holds_seen}
use Rattle.run_steps.proofs.TakesFrontLemmas.{tells_front, tells_whole}
use Rattle.run_steps.specs.Ends.{moment_at}
use Rattle.phone_runs.proofs.CarriedLemmas.{note_carried, reset_carried, same_carried, sent_carried}
use Rattle.phone_runs.proofs.ServeLemmas.{asks_note, asks_reset, asks_send, none_further, none_rests, none_same, note_ends, note_further, note_more, reset_ends, reset_further, reset_more, sent_ends, sent_further, sent_more}
use Rattle.phone_runs.proofs.serving.serve.Goals as goal

pub returns-in-Nothing-clause-further : goal.returns-in-Nothing-clause-further
returns-in-Nothing-clause-further g c = λ given log at.
    none_further c.args.phone.now c.next_into.new.self given log _ (record { item = c.in-Nothing.ensures.item; after = c.in-Nothing.ensures.after }) c.requires.served at

pub returns-in-Nothing-clause-rests : goal.returns-in-Nothing-clause-rests
returns-in-Nothing-clause-rests g c = λ same. none_rests c.args.phone.now c.next_into.new.self (record { item = c.in-Nothing.ensures.item; after = c.in-Nothing.ensures.after }) c.requires.served

pub returns-in-Nothing-clause-same : goal.returns-in-Nothing-clause-same
returns-in-Nothing-clause-same g c = λ same. search (rules, none_same)

pub returns-in-Ok-clause-further : goal.returns-in-Ok-clause-further
returns-in-Ok-clause-further g c = λ given log at.
    sent_further c.runs_are_counted.ensures.join c.plans_are_set_in_order.ensures c.args.phone.now c.next_into.new.self c.hear.new.phone _ c.as_slice-apdu.result.now c.in-Ok.outcome c.exchange.new.answer given log _ _
    (record { item = c.next_into.ensures.item; after = c.next_into.ensures.after }) (asks_send c.next_into.result c.next_into.new.apdu c.as_slice-apdu.result.now c.next_into.new.note c.in-Send.is c.as_slice-apdu.ensures.value) c.hear.ensures c.in-Ok.ensures.gives at

pub returns-in-Ok-clause-more : goal.returns-in-Ok-clause-more
returns-in-Ok-clause-more g c = λ same.
    sent_more c.lines_end.ensures c.args.phone.now c.next_into.new.self c.hear.new.phone _ c.as_slice-apdu.result.now c.in-Ok.outcome c.exchange.new.answer
    (record { item = c.next_into.ensures.item; after = c.next_into.ensures.after }) (asks_send c.next_into.result c.next_into.new.apdu c.as_slice-apdu.result.now c.next_into.new.note c.in-Send.is c.as_slice-apdu.ensures.value) c.hear.ensures c.requires.served

pub returns-in-Err-clause-further : goal.returns-in-Err-clause-further
returns-in-Err-clause-further g c = λ given log at.
    sent_ends c.runs_are_counted.ensures.join c.args.phone.now c.next_into.new.self _ c.as_slice-apdu.result.now given log _ _
    (record { item = c.next_into.ensures.item; after = c.next_into.ensures.after }) (asks_send c.next_into.result c.next_into.new.apdu c.as_slice-apdu.result.now c.next_into.new.note c.in-Send.is c.as_slice-apdu.ensures.value) c.in-Err.ensures.gives at

pub returns-in-Ok-restart-clause-further : goal.returns-in-Ok-restart-clause-further
returns-in-Ok-restart-clause-further g c = λ given log at.
    reset_further c.runs_are_counted.ensures.join c.plans_are_set_in_order.ensures c.args.phone.now c.next_into.new.self c.begin_anew.new.phone _ c.in-Ok-restart.restarted given log _ _
    (record { item = c.next_into.ensures.item; after = c.next_into.ensures.after }) (asks_reset c.next_into.result c.next_into.new.apdu c.next_into.new.note c.in-Reset.is) c.begin_anew.ensures c.in-Ok-restart.ensures.gives at

pub returns-in-Ok-restart-clause-more : goal.returns-in-Ok-restart-clause-more
returns-in-Ok-restart-clause-more g c = λ same.
    reset_more c.lines_end.ensures c.args.phone.now c.next_into.new.self c.begin_anew.new.phone _ c.in-Ok-restart.restarted
    (record { item = c.next_into.ensures.item; after = c.next_into.ensures.after }) (asks_reset c.next_into.result c.next_into.new.apdu c.next_into.new.note c.in-Reset.is) c.begin_anew.ensures c.requires.served

pub returns-in-Err-restart-clause-further : goal.returns-in-Err-restart-clause-further
returns-in-Err-restart-clause-further g c = λ given log at.
    reset_ends c.runs_are_counted.ensures.join c.plans_are_set_in_order.ensures c.args.phone.now c.next_into.new.self _ c.in-Err-restart.end given log _ _
    (record { item = c.next_into.ensures.item; after = c.next_into.ensures.after }) (asks_reset c.next_into.result c.next_into.new.apdu c.next_into.new.note c.in-Reset.is) c.in-Err-restart.ensures.gives at

pub returns-in-Ok-write_note-clause-further : goal.returns-in-Ok-write_note-clause-further
returns-in-Ok-write_note-clause-further g c = λ given log at.
    note_further c.args.phone.now c.next_into.new.self _ c.next_into.new.note given log (moment_at c.args.card.now (g.W.Sink.taken c.args.trace.now)) (g.W.Sink.taken c.write_note.new.sink)
    (record { item = c.next_into.ensures.item; after = c.next_into.ensures.after }) (asks_note c.next_into.result c.next_into.new.apdu c.next_into.new.note c.in-Show.is) c.in-Ok-write_note.ensures.ok at

pub returns-in-Ok-write_note-clause-more : goal.returns-in-Ok-write_note-clause-more
returns-in-Ok-write_note-clause-more g c = λ same.
    note_more c.lines_end.ensures c.args.phone.now c.next_into.new.self _ c.next_into.new.note
    (record { item = c.next_into.ensures.item; after = c.next_into.ensures.after }) (asks_note c.next_into.result c.next_into.new.apdu c.next_into.new.note c.in-Show.is) c.requires.served

pub returns-in-Err-write_note-clause-further : goal.returns-in-Err-write_note-clause-further
returns-in-Err-write_note-clause-further g c = λ given log at.
    note_ends c.args.phone.now c.next_into.new.self _ c.next_into.new.note given log (moment_at c.args.card.now (g.W.Sink.taken c.args.trace.now)) (g.W.Sink.taken c.write_note.new.sink)
    (holds_seen c.args.card.now.parts) (record { item = c.next_into.ensures.item; after = c.next_into.ensures.after }) (asks_note c.next_into.result c.next_into.new.apdu c.next_into.new.note c.in-Show.is) c.in-Err-write_note.ensures.err at

pub returns-in-Ok-write_note-clause-tallies : goal.returns-in-Ok-write_note-clause-tallies
returns-in-Ok-write_note-clause-tallies g c = record { kept = search rules; sink = search rules; tells = tells_whole _ _ _ c.in-Ok-write_note.ensures.ok }

pub returns-in-Err-write_note-clause-tallies : goal.returns-in-Err-write_note-clause-tallies
returns-in-Err-write_note-clause-tallies g c = record { kept = search rules; sink = search rules; tells = tells_front _ _ _ c.in-Err-write_note.ensures.err }

pub returns-in-Nothing-clause-carried : goal.returns-in-Nothing-clause-carried
returns-in-Nothing-clause-carried g c = search (rules, same_carried, none_same)

pub returns-in-Ok-clause-carried : goal.returns-in-Ok-clause-carried
returns-in-Ok-clause-carried g c =
    sent_carried c.args.phone.now c.next_into.new.self c.hear.new.phone _ c.as_slice-apdu.result.now c.in-Ok.outcome c.exchange.new.answer c.args.carrier.now c.exchange.new.carrier
    (record { item = c.next_into.ensures.item; after = c.next_into.ensures.after }) (asks_send c.next_into.result c.next_into.new.apdu c.as_slice-apdu.result.now c.next_into.new.note c.in-Send.is c.as_slice-apdu.ensures.value) c.hear.ensures c.requires.served c.in-Ok.ensures.carries

pub returns-in-Ok-restart-clause-carried : goal.returns-in-Ok-restart-clause-carried
returns-in-Ok-restart-clause-carried g c =
    reset_carried c.args.phone.now c.next_into.new.self c.begin_anew.new.phone _ c.in-Ok-restart.restarted c.args.carrier.now
    (record { item = c.next_into.ensures.item; after = c.next_into.ensures.after }) (asks_reset c.next_into.result c.next_into.new.apdu c.next_into.new.note c.in-Reset.is) c.begin_anew.ensures c.requires.served

pub returns-in-Ok-write_note-clause-carried : goal.returns-in-Ok-write_note-clause-carried
returns-in-Ok-write_note-clause-carried g c =
    note_carried c.args.phone.now c.next_into.new.self _ c.next_into.new.note c.args.carrier.now
    (record { item = c.next_into.ensures.item; after = c.next_into.ensures.after }) (asks_note c.next_into.result c.next_into.new.apdu c.next_into.new.note c.in-Show.is) c.requires.served
