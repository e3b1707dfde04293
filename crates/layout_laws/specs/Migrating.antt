-- What a card of version 1 of the layout stands for while it is made one of version 2, and afterwards.
use Rattle.std.specs.Prelude.{◌≡◌, ◌⊎◌, ℕ, true, false, List}
use Rattle.std.specs.List.{list_all}
use Rattle.list_laws.specs.Patches.{patched}
use Rattle.card_state.specs.declared.entries.Loaded.{Loaded}
use Rattle.card_state.specs.Places.{data_end}
use Rattle.card_state.specs.Persistent.{Persistent}
use Rattle.card_state.specs.Standing.{Stands}
use Rattle.card_state.specs.Migration.{ends_low, migrated, entries_end_low, no_upper_rows}
use Rattle.layout_entries.specs.Spelling.{version_part}
use Rattle.layout_entries.specs.Laws.{after}
use Rattle.layout_laws.specs.Cards.{IsFreeRange}

-- whether all files end so low is seen from the table
abbrev pub LowEndsAreSeen : Type 0
LowEndsAreSeen =
    (store_mark : ℕ) (content : List ℕ) (table : Loaded) (state : Persistent) → Stands store_mark content table state → list_all ends_low state.files ≡ entries_end_low table

-- a card that is wide, or one with a file above, stays as it is
abbrev pub OthersStay : Type 0
OthersStay =
    (store_mark : ℕ) (content : List ℕ) (table : Loaded) (state : Persistent)
    → Stands store_mark content table state → (table.wide ≡ true) ⊎ (entries_end_low table ≡ false) → migrated state ≡ state

-- where the files end so low, a narrow card has none of their bytes in the place of the upper rows
abbrev pub UpperRowsAreFree : Type 0
UpperRowsAreFree =
    (store_mark : ℕ) (content : List ℕ) (table : Loaded) (state : Persistent)
    → Stands store_mark content table state → table.wide ≡ false → entries_end_low table ≡ true → IsFreeRange table.wide state.files (data_end true) 1024

-- once these are prepared and the version is committed, it stands for the migrated state, and its table is that of a wide card
abbrev pub WideVersionStands : Type 0
WideVersionStands =
    (store_mark : ℕ) (content : List ℕ) (table : Loaded) (state : Persistent)
    → Stands store_mark content table state → table.wide ≡ false → entries_end_low table ≡ true
    → Stands store_mark (after (version_part true) (patched (data_end true) no_upper_rows content)) (record table { wide = true }) (migrated state)
