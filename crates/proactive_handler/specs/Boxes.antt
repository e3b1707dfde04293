-- The boxes of applets on their shelves, as a contract sees them: by their minds.
use Rattle.std.specs.Prelude.{◌≡◌, ◌≢◌, ℕ, List, map, All, slice_index_or, Option, None, option_map}
use Rattle.card_state.specs.declared.entries.Loaded.{Loaded}
use Rattle.card_commits.specs.Entries.{HasRowOn}
use Rattle.applet_trait.specs.Minds.{AppletState}
use Rattle.toolkit_model.specs.Running.{mind_on}
use Rattle.toolkit_model.specs.Sessions.{LateTrigger}

-- the kind of each applet that is there
abbrev pub kinds_of : List (Option AppletState) → List (Option ℕ)
kinds_of minds = map (option_map (λ mind. mind.kind)) minds

-- the box on a shelf is the one that stood there, as it was
abbrev pub IsSameBox : {B : Type 0} → ℕ → List (Option B) → List (Option B) → Type 0
IsSameBox shelf old new = slice_index_or new shelf None ≡ slice_index_or old shelf None

-- none of these is for the applet of a shelf
abbrev pub AreForOthers : ℕ → List LateTrigger → Type 0
AreForOthers shelf triggers = All (λ trigger. trigger.shelf ≢ shelf) triggers

-- on each shelf without a row the applet is as it was
abbrev pub LeavesOthers : Loaded → List (Option AppletState) → List (Option AppletState) → Type 0
LeavesOthers table old new = (shelf : ℕ) → (HasRowOn table shelf → ⊥) → mind_on new shelf ≡ mind_on old shelf
