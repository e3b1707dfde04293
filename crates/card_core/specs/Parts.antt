-- What is seen of the parts of a card.
use Rattle.std.specs.Prelude.{ℕ, Bool, List, Option}
use Rattle.uicc_types.specs.Counts.{Meter}
use Rattle.uicc_types.specs.declared.identifiers.Shelf.{Shelf}
use Rattle.card_state.specs.declared.entries.Loaded.{Loaded}
use Rattle.access_rules.specs.declared.rules.Verified.{Verified}
use Rattle.file_model.specs.declared.selections.Selection.{Selection}
use Rattle.applet_trait.specs.Minds.{AppletState}
use Rattle.toolkit_model.specs.Sessions.{SessionState}

-- Of its store: whether no recovery is due there, its size, its mark, the bytes that it tells, if it tells them, the counts of its
-- device, how many commits it answered with Ok, and how many reads and recoveries it was asked for. Of the card itself: the table of
-- entries, the index of its rows by events, what is selected on each channel, the verified keys, the toolkit's session, the minds in
-- the boxes, the shelf of the applet that a DELETE takes away which met a fault, whether it has power, and whether a recovery is due.
pub record CardParts : Type 0 where
  pub recovered : Bool
  pub byte_count : ℕ
  pub store_mark : ℕ
  pub told : Option (List ℕ)
  pub meter : Meter
  pub commits : ℕ
  pub reads : ℕ
  pub recoveries : ℕ
  pub table : Loaded
  pub index : List (List ℕ)
  pub channels : List (Option Selection)
  pub verified : Verified
  pub session : SessionState
  pub boxes : List (Option AppletState)
  pub leaving : Option Shelf
  pub is_on : Bool
  pub is_due : Bool
