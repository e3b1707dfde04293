-- The state of a card, and what a reset leaves of it.
use Rattle.std.specs.Prelude.{◌≡◌, ◌≤◌, Bool, true, false, List, length, All, Option, None, is_some, slice_index_or, IfSome, IsSomeAnd}
use Rattle.card_state.specs.Persistent.{Registration, Persistent}
use Rattle.card_state.specs.AppletKinds.{IsAppletKind}
use Rattle.access_rules.specs.declared.rules.Verified.{Verified}
use Rattle.file_model.specs.Files.{descriptors_in}
use Rattle.file_model.specs.Laws.{IsSoundCard}
use Rattle.file_model.specs.declared.selections.Selection.{Selection}
use Rattle.file_model.specs.LawfulTrees.{AreSelected}
use Rattle.file_model.specs.Channels.{basic_channel_alone}
use Rattle.applet_trait.specs.Minds.{AppletState}
use Rattle.toolkit_model.specs.Sessions.{SessionState, fresh_session}
use Rattle.toolkit_model.specs.Orderly.{IsOrderly}
use Rattle.toolkit_model.specs.Commands.{woken_boxes}

-- What a card holds for good, and what it loses at a reset: what is selected on each of the logical channels 0 to 3 that
-- is open (ETSI TS 102 221, 8.7), the verified keys, and the toolkit's session. An applet's box stands on its shelf, with
-- its mind; the shelf of a box without a registered applet keeps it too.
pub record CardState : Type 0 where
  pub persistent : Persistent
  pub channels : List (Option Selection)
  pub verified : Verified
  pub session : SessionState
  pub boxes : List (Option AppletState)

-- a card, and whether it has power
pub record Machine : Type 0 where
  pub card : CardState
  pub on : Bool

-- a card with power
abbrev pub powered : CardState → Machine
powered card = record { card = card; on = true }

-- a card without power
abbrev pub unpowered : CardState → Machine
unpowered card = record { card = card; on = false }

-- ---- after a reset

-- no key is verified
abbrev pub nothing_verified : Verified
nothing_verified = record { pin1 = false; pin2 = false; adm1 = false }

-- a card that holds this, with these boxes, as a reset leaves it
unfoldable pub woken : Persistent → List (Option AppletState) → CardState
woken persistent boxes = record {
  persistent = persistent;
  channels = basic_channel_alone;
  verified = nothing_verified;
  session = fresh_session;
  boxes = woken_boxes persistent.rows boxes;
}

-- the card after a reset
abbrev pub restarted : CardState → CardState
restarted card = woken card.persistent card.boxes

-- ---- which states a card may have

-- the channels 0 to 3, of which the basic one is open; what is selected on an open one is there
pub record AreChannels (persistent : Persistent) (channels : List (Option Selection)) : Type 0 where
  pub four : length channels ≡ 4
  pub basic : is_some (slice_index_or channels 0 None) ≡ true
  pub selected : AreSelected (descriptors_in persistent) channels

-- a registered applet has a box of its kind on its shelf
abbrev pub HasBox : List (Option AppletState) → Registration → Type 0
HasBox boxes row = IsSomeAnd (slice_index_or boxes row.shelf None) (λ mind. mind.kind ≡ row.kind)

-- the applet is of a known kind
abbrev pub IsOfKnownKind : AppletState → Type 0
IsOfKnownKind mind = IsAppletKind mind.kind

-- each box has an applet of a known kind, or is empty
abbrev pub AreOfKnownKinds : List (Option AppletState) → Type 0
AreOfKnownKinds boxes = All (λ box. IfSome box IsOfKnownKind) boxes

-- What the card holds is sound, what is selected is there, each registered applet has its box, each box is of a known
-- kind, and the session is orderly.
pub record IsGood (card : CardState) : Type 0 where
  pub sound : IsSoundCard card.persistent
  pub channels : AreChannels card.persistent card.channels
  pub shelves : length card.boxes ≡ 32
  pub boxes : All (HasBox card.boxes) card.persistent.rows
  pub kinds : AreOfKnownKinds card.boxes
  pub session : IsOrderly card.persistent.rows card.session
