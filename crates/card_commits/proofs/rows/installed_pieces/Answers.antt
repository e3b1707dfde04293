use Rattle.std.proofs.lemmas.Bool.{false≢true}
use Rattle.card_commits.proofs.RowsLemmas.{room_behind, room_at_end}
use Rattle.card_commits.proofs.rows.installed_pieces.Goals as goal

pub unreachable-requires : goal.unreachable-requires
unreachable-requires c = false≢true (c.in-Err.ensures.room.1 (room_behind c.args.shelf.0 c.args.row.now c.row_piece.new.writes c.row_piece.ensures))

pub add_kept-requires-clause-room : goal.add_kept-requires-clause-room
add_kept-requires-clause-room c =
    room_at_end c.args.shelf.0 c.args.next c.args.row.now c.row_piece.new.writes c.sequence_write.new.writes c.row_piece.ensures c.in-Ok.ensures.ok
