-- The exchanges between a card and a handset: a command is announced, fetched and answered.
use Rattle.std.specs.Prelude.{◌≡◌, ◌⊎◌, ℕ, ◌≤◌, ◌/◌, true, length, Some, Ok, is_some}
use Rattle.uicc_types.specs.declared.answers.TheConstants.StatusWord.{DONE}
use Rattle.file_model.specs.Channels.{is_open}
use Rattle.comprehension_tlv.specs.Writing.{spellings}
use Rattle.toolkit_commands.specs.Reading.{proactive_of, details_found}
use Rattle.toolkit_commands.specs.Responses.{response_of}
use Rattle.toolkit_commands.specs.Table.{details_of, spelled}
use Rattle.toolkit_commands.specs.declared.commands.Details.{Details}
use Rattle.toolkit_commands.specs.declared.commands.Proactive.{Proactive}
use Rattle.toolkit_model.specs.Commands.{unanswered, pending, unfetched}
use Rattle.toolkit_model.specs.Sessions.{Outstanding}
use Rattle.card_model.specs.Answers.{answer}
use Rattle.card_model.specs.States.{CardState}
use Rattle.card_laws.specs.Fetching.{GivesCommand}
use Rattle.card_laws.specs.Moving.{HasOrder}
use Rattle.handset_model.specs.Sending.{apdu_of, response_objects}
use Rattle.handset_model.specs.declared.commands.Command.TheVariants.{Fetch, Respond}
use Rattle.handset_model.specs.declared.commands.Reply.{Reply}

-- ---- bytes

-- The details that a handset finds in the bytes of a command are those of the command, whether it can read the rest or not.
pub record ReadsDetails (command : Proactive) (number : ℕ) : Type 0 where
  pub found : details_found (spelled command number) ≡ details_of command number
  pub read : (read : Details × Proactive) → proactive_of (spelled command number) ≡ Ok read → read.0 ≡ details_of command number

-- A handset finds the details in the bytes of each command of at most 255 bytes.
abbrev pub DetailsAreRead : Type 0
DetailsAreRead = (command : Proactive) (number : ℕ) → length (spelled command number) ≤ 255 → ReadsDetails command number

-- what a handset responds to the command with these details, the card reads as a response to that command
abbrev pub ResponsesAreRead : Type 0
ResponsesAreRead = (details : Details) (reply : Reply) → is_some (response_of details (spellings (response_objects details reply))) ≡ true

-- ---- a card

-- the toolkit is in order, and the basic channel is open
pub record CanServe (card : CardState) : Type 0 where
  pub order : HasOrder card
  pub basic : is_open card.channels 0 ≡ true

-- a command of so many bytes waits to be fetched
abbrev pub Announces : CardState → ℕ → Type 0
Announces card size = pending card.session ≡ Some size

-- the handset has to answer the command with these details
pub record Awaits (card : CardState) (details : Details) : Type 0 where
  pub out : Outstanding
  pub held : unanswered card.session ≡ Some out
  pub is : details_of out.command out.number ≡ details

-- where a command of so many bytes waits, the handset's FETCH gives it
pub record IsFetched (card : CardState) (size : ℕ) : Type 0 where
  pub out : Outstanding
  pub waits : unfetched card.session ≡ Some out
  pub gives : GivesCommand out (answer card (apdu_of (Fetch size)))

-- A command that a card announced is fetched by as many bytes as it has.
abbrev pub AnnouncedCommandsAreFetched : Type 0
AnnouncedCommandsAreFetched = (card : CardState) (size : ℕ) → CanServe card → Announces card size → IsFetched card size

-- where the handset has to answer a command, its TERMINAL RESPONSE with the details of that command is taken
abbrev pub ResponsesAreTaken : Type 0
ResponsesAreTaken =
    (card : CardState) (details : Details) (reply : Reply) → CanServe card → Awaits card details
    → ((answer card (apdu_of (Respond details reply))).status ≡ DONE) ⊎ ((answer card (apdu_of (Respond details reply))).status.0 / 256 ≡ 0x91)
