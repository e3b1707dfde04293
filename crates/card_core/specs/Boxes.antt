-- The boxes of applets on their shelves, as a contract sees them: by their minds.
use Rattle.std.specs.Prelude.{◌≡◌, ◌==◌, ◌<◌, ◌&&◌, not, ℕ, Bool, false, if◌then◌else◌, List, All, Contains, Option, Some, None, option_map}
use Rattle.card_state.specs.declared.entries.Row.{Row}
use Rattle.card_state.specs.Persistent.{Registration}
use Rattle.applet_trait.specs.Minds.{AppletState, fresh}
use Rattle.card_model.specs.States.{HasBox}

-- a box has an applet of this kind
abbrev pub is_of_kind : ℕ → Option AppletState → Bool
is_of_kind kind None = false
is_of_kind kind (Some mind) = mind.kind == kind

-- an applet is registered, and the box is none of its kind
abbrev pub lacks_box : Row → Option AppletState → Bool
lacks_box row box = row.used && not (is_of_kind row.kind box)

-- the box of a row once its applet woke; a box without a row stays as it is
abbrev pub woken_beside : Row → Option AppletState → Option AppletState
woken_beside row box = if row.used then option_map (λ mind. fresh mind.kind row.kept) box else box

-- the applet that is registered on this shelf has no box of its kind there, and each on a smaller shelf has one
pub record IsFirstWithoutBox (rows : List Registration) (boxes : List (Option AppletState)) (shelf : ℕ) : Type 0 where
  pub row : Registration
  pub there : Contains rows row
  pub on_shelf : row.shelf ≡ shelf
  pub lacks : HasBox boxes row → ⊥
  pub before : All (λ other. other.shelf < shelf → HasBox boxes other) rows
