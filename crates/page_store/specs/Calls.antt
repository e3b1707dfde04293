-- How many program calls of its device a store whose pages move makes.
use Rattle.std.specs.Prelude.{ℕ, ◌+◌, ◌-◌, List, map}
use Rattle.store_form.specs.Pieces.{Piece}
use Rattle.update_journal.specs.Calls.{calls_at, calls_to_commit}
use Rattle.page_store.specs.declared.paged.Known.{Known}
use Rattle.page_store.specs.declared.paged.Known.TheVariants.{Nothing, Blank, Mapped}
use Rattle.page_store.specs.declared.places.TheConstants.{MAP, MAP_END, PAGE_COUNT, PAGES, POOL}
use Rattle.page_store.specs.Commits.{done_count, inner_piece, moved_below}
use Rattle.page_store.specs.Paged.{table_of}
use Rattle.page_store.specs.Tables.{Kept}

-- the first page and each page of the pool
unfoldable pub calls_to_blank : ℕ
calls_to_blank = 1 + (PAGE_COUNT - POOL)

-- a device that holds no map gets one: blank pages, and the map over its pages
unfoldable pub calls_to_fill : ℕ
calls_to_fill = calls_to_blank + calls_at MAP (MAP_END - MAP)

-- what is done first, where no map is known
abbrev pub calls_to_begin : Known → ℕ
calls_to_begin Nothing = calls_to_fill
calls_to_begin Blank = calls_to_fill
calls_to_begin (Mapped kept) = 0

-- a commit through this table: each page that is touched, once, and then one commit below, of what is committed there for the pieces
abbrev pub calls_to_move : List Piece → Kept → ℕ
calls_to_move pieces kept = done_count pieces PAGES + calls_to_commit (map (inner_piece (moved_below pieces PAGES kept).entries) pieces)

-- a whole commit
abbrev pub calls_to_write : Known → List Piece → ℕ
calls_to_write known pieces = calls_to_begin known + calls_to_move pieces (table_of known)
