-- The applets that the program gives a card.
use Rattle.std.specs.Prelude.{ℕ, ◌+◌, ◌-◌, ◌%◌, ◌&&◌, List, [], map, Option, Some, nat_lt, nat_le, if◌then◌else◌}
use Rattle.std.specs.List.{range_with_len}
use Rattle.card_state.specs.declared.sizes.TheConstants.{ROW_COUNT, LAST_KIND}
use Rattle.applet_trait.specs.Minds.{AppletState, fresh}
use Rattle.boxed_applets.specs.declared.casts.TheConstants.{IN_TURN}

-- the kind on a shelf: the first seven in turn, kind 1 on shelf 0 and again on shelf 7; each further kind has one shelf in their
-- place, from the last one down
unfoldable pub kind_for : ℕ → ℕ
kind_for shelf =
    if nat_lt shelf ROW_COUNT && nat_le (ROW_COUNT + IN_TURN) (shelf + LAST_KIND) then ROW_COUNT + IN_TURN - shelf
    else shelf % IN_TURN + 1

-- the applet on a shelf, which keeps nothing yet
abbrev pub applet_on : ℕ → Option AppletState
applet_on shelf = Some (fresh (kind_for shelf) [])

-- one on each shelf
unfoldable pub program_boxes : List (Option AppletState)
program_boxes = map applet_on (range_with_len 0 ROW_COUNT)
