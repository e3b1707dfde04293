-- When a list of objects is that of a command, a response or an envelope: said by the tables alone, apart from how it
-- is read.
use Rattle.std.specs.Prelude.{◌≡◌, ◌≢◌, ℕ, ◌≤◌, List, [], ◌∷◌, length, Some}
use Rattle.std.specs.List.{All, AllByRecursion}
use Rattle.comprehension_tlv.specs.Model.{Object, IsObjects, IsTemplate}
use Rattle.comprehension_tlv.specs.Reading.{first_value}
use Rattle.toolkit_commands.specs.Table.{objects_of_command}
use Rattle.toolkit_commands.specs.Values.{values}
use Rattle.toolkit_commands.specs.declared.envelopes.Envelope.{Envelope}
use Rattle.toolkit_commands.specs.declared.envelopes.Envelope.TheVariants.{Menu, CallControl, Event, Timer}
use Rattle.toolkit_commands.specs.declared.items.Item.{Item}
use Rattle.toolkit_commands.specs.declared.commands.Proactive.{Proactive}
use Rattle.toolkit_commands.specs.declared.commands.Proactive.TheVariants.{SetUpEventList, DisplayText, GetInkey, GetInput, SelectItem, SetUpMenu, IdleText}
use Rattle.toolkit_commands.specs.declared.tags.TheConstants.{PROACTIVE_COMMAND, MENU_SELECTION, CALL_CONTROL, EVENT_DOWNLOAD, TIMER_EXPIRATION, ADDRESS, ITEM, ITEM_IDENTIFIER, EVENT_LIST, TIMER_IDENTIFIER}

-- The list has the objects: each is the first with its tag, and where there are items, they are all items in order.
-- The order of the objects, their flags and other objects don't matter.
pub record HasObjects (list objects : List Object) : Type 0 where
  pub firsts : AllByRecursion (λ object. object.tag ≢ ITEM → first_value object.tag list ≡ Some object.value) objects
  pub items : values ITEM objects ≢ [] → values ITEM list ≡ values ITEM objects

-- the bytes are a template with the objects of a command that has this number
pub record IsCommand (bytes : List ℕ) (command : Proactive) (number : ℕ) : Type 0 where
  pub content : List ℕ
  pub list : List Object
  pub template : IsTemplate bytes PROACTIVE_COMMAND content
  pub spelled : IsObjects content list
  pub has : HasObjects list (objects_of_command command number)

-- a title and texts of at most 10 bytes, and at most 16 items
pub record AreBounded (title : List ℕ) (items : List Item) : Type 0 where
  pub title_length : length title ≤ 10
  pub text_lengths : All (λ item. length item.text ≤ 10) items
  pub count : length items ≤ 16

-- the bounds that the types of titles, texts and items keep
abbrev pub IsBounded : Proactive → Type 0
IsBounded (SelectItem title items) = AreBounded title items
IsBounded (SetUpMenu title items) = AreBounded title items
IsBounded _ = Unit {0}

-- Texts, lists and titles that are short enough for the command to have at most 255 bytes. All that the types of title and
-- items can hold is.
abbrev pub IsShort : Proactive → Type 0
IsShort (SetUpEventList events) = length events ≤ 240
IsShort (DisplayText text) = length text ≤ 239
IsShort (GetInkey text) = length text ≤ 239
IsShort (GetInput text digits least most) = length text ≤ 235
IsShort (SelectItem title items) = AreBounded title items
IsShort (SetUpMenu title items) = AreBounded title items
IsShort (IdleText text) = length text ≤ 239
IsShort _ = Unit {0}

-- What an envelope has, by its template: one row each. The first object with the tag counts.
abbrev pub HasRow : Envelope → ℕ → List ℕ → List Object → Type 0
HasRow (Menu item) template content list = (template ≡ MENU_SELECTION) × (first_value ITEM_IDENTIFIER list ≡ Some (item ∷ []))
HasRow (CallControl address) template content list =
    (template ≡ CALL_CONTROL) × (first_value ADDRESS list ≡ Some address) × (1 ≤ length address)
HasRow (Event code body) template content list =
    (template ≡ EVENT_DOWNLOAD) × (first_value EVENT_LIST list ≡ Some (code ∷ [])) × (body ≡ content)
HasRow (Timer timer) template content list =
    (template ≡ TIMER_EXPIRATION) × (first_value TIMER_IDENTIFIER list ≡ Some (timer ∷ [])) × (1 ≤ timer) × (timer ≤ 8)

-- the bytes are a template whose content is a list of objects, with what the envelope's row has
pub record IsEnvelope (bytes : List ℕ) (envelope : Envelope) : Type 0 where
  pub template : ℕ
  pub content : List ℕ
  pub list : List Object
  pub form : IsTemplate bytes template content
  pub spelled : IsObjects content list
  pub row : HasRow envelope template content list
