-- Which row of an installation may stand beside others.
use Rattle.std.specs.Prelude.{ℕ, ◌-◌, ◌==◌, Bool, not, ◌&&◌, ◌||◌, nat_lt, nat_le, count_by, List, length}
use Rattle.std.specs.Int.{bit_at}
use Rattle.std.specs.List.{list_any}
use Rattle.card_state.specs.declared.sizes.TheConstants.{ROW_COUNT, LOWER_ROW_COUNT, KEPT_WIDTH, MENU_LIMIT}
use Rattle.card_state.specs.Kinds.{call_control_bit}
use Rattle.card_state.specs.Persistent.{Registration}
use Rattle.card_state.specs.Sections.{is_call_control, has_text}
use Rattle.card_state.specs.declared.installation.Installed.{Installed}

-- an installation registers for call control
abbrev pub answers_calls : Installed → Bool
answers_calls installed = bit_at installed.events call_control_bit == 1

-- it has an item in the menu
abbrev pub has_item : Installed → Bool
has_item installed = not (length installed.text == 0)

-- only a wide card can hold it on this shelf
abbrev pub wants_wide_card : ℕ → Installed → Bool
wants_wide_card shelf installed = nat_lt (LOWER_ROW_COUNT - 1) shelf || nat_lt KEPT_WIDTH (length installed.kept)

-- it may stand on this shelf with this priority beside these rows
abbrev pub may_take : List Registration → ℕ → ℕ → Installed → Bool
may_take rows shelf priority installed =
    nat_le shelf (ROW_COUNT - 1) && nat_le 1 priority && not (list_any (λ row. row.shelf == shelf) rows)
    && not (answers_calls installed && list_any is_call_control rows)
    && not (has_item installed && nat_le MENU_LIMIT (count_by has_text rows))
