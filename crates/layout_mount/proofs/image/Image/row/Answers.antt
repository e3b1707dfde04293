-- A row has 51 bytes in 64: those of the shelves 0 to 15 from byte 64 of the table on, those above from the beginning of what is read after the
-- files. Either way these are the bytes of the whole memory at the place of the row.
use Rattle.std.proofs.Common.{◌+◌, ◌*◌, ◌-◌, arith}
use Rattle.card_state.specs.Places.{row_place}
use Rattle.card_state.proofs.RowPlaceLemmas.{row_place_low, row_place_high}
use Rattle.layout_mount.proofs.ImagesLemmas.{table_slice, upper_slice}
use Rattle.layout_mount.proofs.image.Image.row.Goals as goal

pub returns-then-shelf-lt-LOWER_ROW_COUNT-clause-value : goal.returns-then-shelf-lt-LOWER_ROW_COUNT-clause-value
returns-then-shelf-lt-LOWER_ROW_COUNT-clause-value c =
    table_slice c.self.inside.first c.self.inside.table c.self.inside.upper (omega arith) (omega arith) c.args.self.now c.self.view_is (row_place c.args.shelf.0) (64 + 64 * c.from-shelf.result) 51 (64 + 64 * c.from-shelf.result + 51 - (64 + 64 * c.from-shelf.result))
    (omega (arith, row_place_low c.args.shelf.0 (omega arith))) (omega arith) (omega arith)

pub returns-else-shelf-lt-LOWER_ROW_COUNT-clause-value : goal.returns-else-shelf-lt-LOWER_ROW_COUNT-clause-value
returns-else-shelf-lt-LOWER_ROW_COUNT-clause-value c =
    upper_slice c.self.inside.first c.self.inside.table c.self.inside.upper (omega arith) (omega arith) c.args.self.now c.self.view_is (row_place c.args.shelf.0) (64 * (c.from-shelf.result - 16)) 51 (64 * (c.from-shelf.result - 16) + 51 - 64 * (c.from-shelf.result - 16))
    (omega (arith, row_place_high c.args.shelf.0 (omega arith))) (omega arith)
