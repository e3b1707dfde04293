-- The kinds of applets, which have the numbers from 1 on.
use Rattle.std.specs.Prelude.{ℕ, ◌≤◌}
use Rattle.card_state.specs.declared.sizes.TheConstants.{LAST_KIND}

-- the number of a kind of applets: from 1 to LAST_KIND, which is 7
abbrev pub IsAppletKind : ℕ → Type 0
IsAppletKind kind = (1 ≤ kind) × (kind ≤ LAST_KIND)
