-- What a card refuses a command for, each condition with its status, in the order in which they are tested: first the form, the class, the
-- channel and the instruction, then the list of the command that these name. Those of the commands on files are in `Refusals`.
use Rattle.std.specs.Prelude.{ℕ, ◌-◌, ◌==◌, not, ◌&&◌, ◌||◌, nat_le, Bool, if◌then◌else◌, List, [], ◌∷◌, length, find, Option, is_none, option_map, unwrap_or}
use Rattle.std.specs.Str.{bytes_eq}
use Rattle.uicc_types.specs.declared.answers.StatusWord.{StatusWord}
use Rattle.uicc_types.specs.declared.answers.TheConstants.StatusWord.{CONDITIONS_NOT_SATISFIED, NO_FREE_CHANNEL, NO_ROOM, NO_SECURE_MESSAGING, NO_SUCH_CHANNEL, NO_SUCH_CLASS, NO_SUCH_INSTRUCTION, PIN_BLOCKED, PIN_DISABLED, REFERENCE_NOT_FOUND, SECURITY_NOT_SATISFIED, TOOLKIT_BUSY, WRONG_DATA, WRONG_LENGTH, WRONG_PARAMETERS}
use Rattle.apdu_form.specs.Classes.{asks_secure_messaging, channel_of, family, is_class}
use Rattle.apdu_form.specs.Fields.{has_data, has_le_alone, has_no_data, has_no_parameters}
use Rattle.apdu_form.specs.Model.{Apdu, command_in}
use Rattle.card_state.specs.Persistent.{Persistent, Pin}
use Rattle.card_state.specs.Sections.{installation_of, needs_wide, new_row}
use Rattle.access_rules.specs.declared.rules.Op.TheVariants as Ops
use Rattle.access_rules.specs.declared.rules.Verified.{Verified}
use Rattle.file_model.specs.Channels.{closed_channel, is_le_of_number, is_open}
use Rattle.file_model.specs.Pins.{has_pin_parameters, is_blocked, is_pin_key, is_users_key, pin_found, tries_left, value_presented}
use Rattle.file_model.specs.Records.{other_length}
use Rattle.file_model.specs.declared.commands.ContentsCommand.{ContentsCommand}
use Rattle.file_model.specs.declared.commands.ContentsCommand.TheVariants as ContentsCommands
use Rattle.file_model.specs.declared.commands.FileCommand.{FileCommand}
use Rattle.file_model.specs.declared.commands.FileCommand.TheVariants as FileCommands
use Rattle.file_model.specs.declared.commands.PinCommand.{PinCommand}
use Rattle.file_model.specs.declared.commands.PinCommand.TheVariants as PinCommands
use Rattle.file_model.specs.declared.selections.Selection.{Selection}
use Rattle.file_model.specs.declared.tree_commands.TreeCommand.{TreeCommand}
use Rattle.file_model.specs.declared.tree_commands.TreeCommand.TheVariants as TreeCommands
use Rattle.toolkit_commands.specs.Envelopes.{envelope_of}
use Rattle.toolkit_model.specs.Commands.{command_bytes, is_busy, reply_to, unanswered, unfetched}
use Rattle.toolkit_model.specs.Driving.{is_idle}
use Rattle.toolkit_model.specs.Orderly.{asks}
use Rattle.toolkit_model.specs.Registry.{is_menu_full, is_taken, last_sequence, row_on}
use Rattle.card_model.specs.Answers.{seen_by, selection_on}
use Rattle.card_model.specs.Instructions.{InstructionRow, has_ins, is_known, row_named}
use Rattle.card_model.specs.States.{CardState}
use Rattle.card_model.specs.Toolkit.{has_shelf, is_length_of, kind_in, toolkit_of}
use Rattle.card_model.specs.declared.instructions.CatCommand.{CatCommand}
use Rattle.card_model.specs.declared.instructions.CatCommand.TheVariants as CatCommands
use Rattle.card_model.specs.declared.instructions.Instruction.{Instruction}
use Rattle.card_model.specs.declared.instructions.Instruction.TheVariants.{File, ManageChannel, Pin as OnPin, Toolkit, Tree}
use Rattle.card_laws.specs.Refusals.{Refusal, of_found, refusals_of_create, refusals_of_delete, refusals_of_increase, refusals_of_life_cycle, refusals_of_read_binary, refusals_of_read_record, refusals_of_resize, refusals_of_search_record, refusals_of_select, refusals_of_status, refusals_of_update_binary, refusals_of_update_record}

-- the status of the first of these conditions that holds
abbrev pub first_of : List Refusal → Option StatusWord
first_of refusals = option_map (λ refusal. refusal.1) (find (λ refusal. refusal.0) refusals)

-- ---- commands on PINs (ETSI TS 102 221, 9.5). A command that tells how many tries are left counts as refused, with `63CX`.

-- there is no PIN with this key; or else what it refuses
abbrev pub of_key : List Pin → ℕ → (Pin → List Refusal) → List Refusal
of_key pins key refusals = (is_none (pin_found pins key), REFERENCE_NOT_FOUND) ∷ of_found (pin_found pins key) refusals

-- VERIFY PIN (11.1.9); without data it asks how many tries are left
abbrev pub refusals_of_verify_pin : List Pin → Apdu → List Refusal
refusals_of_verify_pin pins apdu =
    (not (has_pin_parameters apdu), WRONG_PARAMETERS)
    ∷ (not (has_no_data apdu || length apdu.body == 8), WRONG_LENGTH)
    ∷ (not (is_pin_key apdu.p2), REFERENCE_NOT_FOUND)
    ∷ of_key pins apdu.p2 (λ pin.
    (is_blocked pin, PIN_BLOCKED)
    ∷ (has_no_data apdu, tries_left pin.tries)
    ∷ (not pin.is_enabled, PIN_DISABLED)
    ∷ (not (bytes_eq (value_presented apdu) pin.value), tries_left (pin.tries - 1))
    ∷ [])

-- CHANGE PIN (11.1.10)
abbrev pub refusals_of_change_pin : List Pin → Apdu → List Refusal
refusals_of_change_pin pins apdu =
    (not (has_pin_parameters apdu), WRONG_PARAMETERS)
    ∷ (not (length apdu.body == 16), WRONG_LENGTH)
    ∷ (not (is_pin_key apdu.p2), REFERENCE_NOT_FOUND)
    ∷ of_key pins apdu.p2 (λ pin.
    (is_blocked pin, PIN_BLOCKED)
    ∷ (not pin.is_enabled, PIN_DISABLED)
    ∷ (not (bytes_eq (value_presented apdu) pin.value), tries_left (pin.tries - 1))
    ∷ [])

-- DISABLE PIN (11.1.11)
abbrev pub refusals_of_disable_pin : List Pin → Apdu → List Refusal
refusals_of_disable_pin pins apdu =
    (not (has_pin_parameters apdu), WRONG_PARAMETERS)
    ∷ (not (length apdu.body == 8), WRONG_LENGTH)
    ∷ (not (is_users_key apdu.p2), REFERENCE_NOT_FOUND)
    ∷ of_key pins apdu.p2 (λ pin.
    (is_blocked pin, PIN_BLOCKED)
    ∷ (not pin.is_enabled, PIN_DISABLED)
    ∷ (not (bytes_eq (value_presented apdu) pin.value), tries_left (pin.tries - 1))
    ∷ [])

-- ENABLE PIN (11.1.12)
abbrev pub refusals_of_enable_pin : List Pin → Apdu → List Refusal
refusals_of_enable_pin pins apdu =
    (not (has_pin_parameters apdu), WRONG_PARAMETERS)
    ∷ (not (length apdu.body == 8), WRONG_LENGTH)
    ∷ (not (is_users_key apdu.p2), REFERENCE_NOT_FOUND)
    ∷ of_key pins apdu.p2 (λ pin.
    (is_blocked pin, PIN_BLOCKED)
    ∷ (pin.is_enabled, CONDITIONS_NOT_SATISFIED)
    ∷ (not (bytes_eq (value_presented apdu) pin.value), tries_left (pin.tries - 1))
    ∷ [])

-- UNBLOCK PIN (11.1.13), by the value and the tries of the UNBLOCK PIN; without data it asks how many of these are left
abbrev pub refusals_of_unblock_pin : List Pin → Apdu → List Refusal
refusals_of_unblock_pin pins apdu =
    (not (has_pin_parameters apdu), WRONG_PARAMETERS)
    ∷ (not (has_no_data apdu || length apdu.body == 16), WRONG_LENGTH)
    ∷ (not (is_users_key apdu.p2), REFERENCE_NOT_FOUND)
    ∷ of_key pins apdu.p2 (λ pin.
    (pin.unblock_tries == 0, PIN_BLOCKED)
    ∷ (has_no_data apdu, tries_left pin.unblock_tries)
    ∷ (not (bytes_eq (value_presented apdu) pin.unblock), tries_left (pin.unblock_tries - 1))
    ∷ [])

-- ---- MANAGE CHANNEL (ETSI TS 102 221, 11.1.17)

-- P1 00 opens a channel, P1 80 closes the one in P2
abbrev pub opens_channel : Apdu → Bool
opens_channel apdu = apdu.p1 == 0x00 && apdu.p2 == 0x00

-- P1 and P2 of a MANAGE CHANNEL that closes channel 1, 2 or 3
abbrev pub closes_channel : Apdu → Bool
closes_channel apdu = apdu.p1 == 0x80 && nat_le 1 apdu.p2 && nat_le apdu.p2 3

-- no data; one that opens a channel asks for its number
abbrev pub has_channel_length : Apdu → Bool
has_channel_length apdu = if opens_channel apdu then has_no_data apdu && is_le_of_number apdu.expected else has_no_data apdu

-- MANAGE CHANNEL (11.1.17)
abbrev pub refusals_of_manage_channel : List (Option Selection) → Apdu → List Refusal
refusals_of_manage_channel channels apdu =
    (not (opens_channel apdu || closes_channel apdu), WRONG_PARAMETERS)
    ∷ (not (has_channel_length apdu), WRONG_LENGTH)
    ∷ (opens_channel apdu && is_none (closed_channel channels), NO_FREE_CHANNEL)
    ∷ (not (opens_channel apdu) && not (is_open channels apdu.p2), CONDITIONS_NOT_SATISFIED)
    ∷ []

-- ---- commands between the handset and the toolkit (ETSI TS 102 221, 11.2)

-- TERMINAL PROFILE (11.2.1)
abbrev pub refusals_of_terminal_profile : CardState → Verified → Apdu → List Refusal
refusals_of_terminal_profile card seen apdu =
    (not (has_no_parameters apdu), WRONG_PARAMETERS)
    ∷ (not (has_data apdu), WRONG_LENGTH)
    ∷ []

-- FETCH (11.2.3): no command waits; then Le is neither 256 nor the length of the one that waits
abbrev pub refusals_of_fetch : CardState → Verified → Apdu → List Refusal
refusals_of_fetch card seen apdu =
    (not (has_no_parameters apdu), WRONG_PARAMETERS)
    ∷ (not (has_le_alone apdu), WRONG_LENGTH)
    ∷ (is_none (unfetched card.session), CONDITIONS_NOT_SATISFIED)
    ∷ of_found (unfetched card.session) (λ out.
    (not (is_length_of (command_bytes out) (unwrap_or apdu.expected 0)), other_length (length (command_bytes out)))
    ∷ [])

-- TERMINAL RESPONSE (11.2.4): no command was fetched that isn't answered; then the data don't answer it
abbrev pub refusals_of_terminal_response : CardState → Verified → Apdu → List Refusal
refusals_of_terminal_response card seen apdu =
    (not (has_no_parameters apdu), WRONG_PARAMETERS)
    ∷ (not (has_data apdu), WRONG_LENGTH)
    ∷ (is_none (unanswered card.session), CONDITIONS_NOT_SATISFIED)
    ∷ of_found (unanswered card.session) (λ out.
    (is_none (reply_to out apdu.body), WRONG_DATA)
    ∷ [])

-- ENVELOPE (11.2.2): the data are no envelope; then the toolkit has no room for it now
abbrev pub refusals_of_envelope : CardState → Verified → Apdu → List Refusal
refusals_of_envelope card seen apdu =
    (not (has_no_parameters apdu), WRONG_PARAMETERS)
    ∷ (not (has_data apdu), WRONG_LENGTH)
    ∷ (is_none (envelope_of apdu.body), WRONG_DATA)
    ∷ of_found (envelope_of apdu.body) (λ envelope.
    (is_busy envelope (toolkit_of card), TOOLKIT_BUSY)
    ∷ [])

-- INSTALL, which this card has of its own: the data say nothing; no applet is on the shelf; the card isn't wide enough for the row; the
-- shelf, or call control, is taken; the menu is full; no sequence number is left
abbrev pub refusals_of_install : CardState → Verified → Apdu → List Refusal
refusals_of_install card seen apdu =
    (not (nat_le 1 apdu.p1 && has_shelf apdu), WRONG_PARAMETERS)
    ∷ (not (has_data apdu), WRONG_LENGTH)
    ∷ (not seen.adm1, SECURITY_NOT_SATISFIED)
    ∷ (is_none (installation_of apdu.body), WRONG_DATA)
    ∷ of_found (installation_of apdu.body) (λ installation.
    (is_none (kind_in card apdu.p2), REFERENCE_NOT_FOUND)
    ∷ of_found (kind_in card apdu.p2) (λ kind.
    let row = new_row card.persistent apdu.p2 apdu.p1 kind installation in
    (needs_wide row && not card.persistent.is_wide, NO_ROOM)
    ∷ (is_taken card.persistent.rows row, CONDITIONS_NOT_SATISFIED)
    ∷ (is_menu_full card.persistent.rows row, NO_ROOM)
    ∷ (card.persistent.next_sequence == last_sequence, NO_ROOM)
    ∷ []))

-- DELETE, its own too: no applet is registered on the shelf; it waits for an answer, or to send
abbrev pub refusals_of_delete_applet : CardState → Verified → Apdu → List Refusal
refusals_of_delete_applet card seen apdu =
    (not (apdu.p1 == 0x00 && has_shelf apdu), WRONG_PARAMETERS)
    ∷ (not (has_no_data apdu), WRONG_LENGTH)
    ∷ (not seen.adm1, SECURITY_NOT_SATISFIED)
    ∷ (is_none (row_on card.persistent.rows apdu.p2), REFERENCE_NOT_FOUND)
    ∷ (not (is_idle (asks card.session) apdu.p2), CONDITIONS_NOT_SATISFIED)
    ∷ []

-- ---- the commands by their names

-- the list of each command on what a file holds
abbrev pub refusals_on_contents : ContentsCommand → Persistent → Verified → Selection → Apdu → List Refusal
refusals_on_contents ContentsCommands.ReadBinary = refusals_of_read_binary
refusals_on_contents ContentsCommands.UpdateBinary = refusals_of_update_binary
refusals_on_contents ContentsCommands.ReadRecord = refusals_of_read_record
refusals_on_contents ContentsCommands.UpdateRecord = refusals_of_update_record
refusals_on_contents ContentsCommands.SearchRecord = refusals_of_search_record
refusals_on_contents ContentsCommands.Increase = refusals_of_increase
refusals_on_contents ContentsCommands.Deactivate = refusals_of_life_cycle Ops.Deactivate
refusals_on_contents ContentsCommands.Activate = refusals_of_life_cycle Ops.Activate

-- the list of each command on files
abbrev pub refusals_on_files : FileCommand → Persistent → Verified → Selection → Apdu → List Refusal
refusals_on_files FileCommands.Select = refusals_of_select
refusals_on_files FileCommands.Status = refusals_of_status
refusals_on_files (FileCommands.Contents command) = refusals_on_contents command

-- the list of each command on PINs
abbrev pub refusals_on_pins : PinCommand → List Pin → Apdu → List Refusal
refusals_on_pins PinCommands.Verify = refusals_of_verify_pin
refusals_on_pins PinCommands.Change = refusals_of_change_pin
refusals_on_pins PinCommands.Disable = refusals_of_disable_pin
refusals_on_pins PinCommands.Enable = refusals_of_enable_pin
refusals_on_pins PinCommands.Unblock = refusals_of_unblock_pin

-- the list of each command of the toolkit
abbrev pub refusals_on_toolkit : CatCommand → CardState → Verified → Apdu → List Refusal
refusals_on_toolkit CatCommands.TerminalProfile = refusals_of_terminal_profile
refusals_on_toolkit CatCommands.Fetch = refusals_of_fetch
refusals_on_toolkit CatCommands.TerminalResponse = refusals_of_terminal_response
refusals_on_toolkit CatCommands.Envelope = refusals_of_envelope
refusals_on_toolkit CatCommands.InstallApplet = refusals_of_install
refusals_on_toolkit CatCommands.DeleteApplet = refusals_of_delete_applet

-- the list of each command that makes, deletes or resizes a file
abbrev pub refusals_on_trees : TreeCommand → Persistent → Verified → List (Option Selection) → ℕ → Apdu → List Refusal
refusals_on_trees TreeCommands.Create = refusals_of_create
refusals_on_trees TreeCommands.Delete = refusals_of_delete
refusals_on_trees TreeCommands.Resize = refusals_of_resize

-- the list of the command that an instruction is, on its channel
abbrev pub refusals_of : Instruction → CardState → Apdu → List Refusal
refusals_of (File command) card apdu = refusals_on_files command card.persistent (seen_by card) (selection_on card (channel_of apdu.class)) apdu
refusals_of (OnPin command) card apdu = refusals_on_pins command card.persistent.pins apdu
refusals_of ManageChannel card apdu = refusals_of_manage_channel card.channels apdu
refusals_of (Toolkit command) card apdu = refusals_on_toolkit command card (seen_by card) apdu
refusals_of (Tree command) card apdu = refusals_on_trees command card.persistent (seen_by card) card.channels (channel_of apdu.class) apdu

-- ---- the whole order (ISO/IEC 7816-4, 5.1; ETSI TS 102 221, 10.1)

-- the row of the table of instructions that a command names by its class, without the channel, and its instruction byte
abbrev pub row_of : Apdu → Option InstructionRow
row_of apdu = row_named is_known (family apdu.class) apdu.ins

-- The bytes are no command; its class is unknown, or asks for secure messaging, or names a channel that isn't open; no row of the table has
-- its instruction byte, or none in this class; or it is taken on the basic channel alone. Then the list of the command.
abbrev pub refusals_in_order : CardState → List ℕ → List Refusal
refusals_in_order card bytes =
    (is_none (command_in bytes), WRONG_LENGTH)
    ∷ of_found (command_in bytes) (λ apdu.
    (not (is_class apdu.class), NO_SUCH_CLASS)
    ∷ (asks_secure_messaging apdu.class, NO_SECURE_MESSAGING)
    ∷ (not (is_open card.channels (channel_of apdu.class)), NO_SUCH_CHANNEL)
    ∷ (not (has_ins is_known apdu.ins), NO_SUCH_INSTRUCTION)
    ∷ (is_none (row_of apdu), NO_SUCH_CLASS)
    ∷ of_found (row_of apdu) (λ row.
    (row.is_basic && not (channel_of apdu.class == 0), NO_SUCH_CHANNEL)
    ∷ refusals_of row.instruction card apdu))
