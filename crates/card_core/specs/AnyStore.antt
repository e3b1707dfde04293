-- What is said of a card over any store, be its bytes told or not.
use Rattle.std.specs.Prelude.{◌≡◌, ◌≢◌, true, false, ℕ, List, [], Option, Some, None, unwrap_or, Result, Ok, Err}
use Rattle.uicc_types.specs.declared.answers.Answer.{Answer}
use Rattle.uicc_types.specs.declared.answers.StatusWord.{StatusWord}
use Rattle.uicc_types.specs.declared.answers.TheConstants.StatusWord.{WRONG_LENGTH}
use Rattle.apdu_form.specs.Model.{Apdu, command_in}
use Rattle.card_state.specs.declared.entries.Loaded.{Loaded}
use Rattle.card_state.specs.Persistent.{Persistent}
use Rattle.card_state.specs.Standing.{Stands}
use Rattle.card_state.specs.States.{pins_of, rows_of}
use Rattle.file_model.specs.declared.commands.FileCommand.{FileCommand}
use Rattle.file_model.specs.declared.commands.FileCommand.TheVariants.{Select, Status, Contents}
use Rattle.file_model.specs.declared.descriptors.Descriptor.{Descriptor}
use Rattle.file_model.specs.declared.selections.Selection.{Selection}
use Rattle.file_model.specs.declared.selections.TheConstants.Selection.{AT_START}
use Rattle.file_model.specs.Chains.{given}
use Rattle.file_model.specs.Commands.{file_addressed, pin_outcome}
use Rattle.file_model.specs.Files.{descriptors_of}
use Rattle.apdu_form.specs.Classes.{channel_of}
use Rattle.file_model.specs.Channels.{selected_on, basic_channel_alone}
use Rattle.layout_mount.specs.Mounted.{HasRead}
use Rattle.card_commits.specs.Laws.{IsTold}
use Rattle.card_commits.specs.Entries.{HasRowOn}
use Rattle.record_commands.specs.Tables.{HasOtherFiles}
use Rattle.toolkit_model.specs.Commands.{pending, woken_boxes}
use Rattle.toolkit_model.specs.Sessions.{fresh_session}
use Rattle.toolkit_model.specs.Running.{mind_on}
use Rattle.proactive_handler.specs.Boxes.{kinds_of}
use Rattle.card_model.specs.Answers.{Answered, answer, told_pending}
use Rattle.card_model.specs.Instructions.{instruction_tried, is_known, is_of_tree}
use Rattle.card_model.specs.States.{CardState, nothing_verified}
use Rattle.card_model.specs.declared.instructions.Instruction.{Instruction}
use Rattle.card_model.specs.declared.instructions.Instruction.TheVariants.{File, Pin, ManageChannel, Toolkit, Tree}
use Rattle.card_model.specs.declared.instructions.CatCommand.{CatCommand}
use Rattle.card_model.specs.declared.instructions.CatCommand.TheVariants.{Fetch, InstallApplet, DeleteApplet}
use Rattle.cat_commands.specs.Deleting.{LeavesUnregistered}
use Rattle.card_core.specs.Commands.{KindsKept}
use Rattle.card_core.specs.Cards.{boxes_kept}
use Rattle.card_core.specs.Parts.{CardParts}
use Rattle.card_core.specs.Starts.{IsReadAgain}

-- The card begins anew: the basic channel alone is open, with the MF selected, no key is verified, and each registered applet
-- woke in its box; the toolkit has nothing to remember. The box of an applet that was leaving is gone where its row is.
pub record BeginsAnew (old new : CardParts) : Type 0 where
  -- A memory was read again. Where it is that of a card each of whose applets has its box, the table is its own; else it is as it was.
  pub read : HasRead old.told (IsReadAgain old.store_mark old.boxes old.table new.table)
  pub channels : new.channels ≡ basic_channel_alone
  pub verified : new.verified ≡ nothing_verified
  pub session : new.session ≡ fresh_session
  pub boxes : new.boxes ≡ woken_boxes (rows_of new.table) (boxes_kept old.leaving (rows_of new.table) old.boxes)
  pub leaving : new.leaving ≡ None
  pub rests : new.is_due ≡ false

-- The command that the bytes name where these channels are open, or the status that refuses it for its form, its class, its
-- channel or its instruction byte (ETSI TS 102 221, 10.1 and 10.2).
unfoldable pub command_named : List (Option Selection) → List ℕ → Result Instruction StatusWord
command_named channels bytes = given (command_in bytes) WRONG_LENGTH (λ apdu. instruction_tried is_known channels apdu.class apdu.ins)

-- the answer is this status without data
pub record IsRefusedWith (status : StatusWord) (out : Answer) : Type 0 where
  pub body : out.body ≡ []
  pub status_is : out.status ≡ status

-- ---- what the table tells of an answer

-- The card may be this one: the table tells its state, and the rest is as it is there.
pub record MayBe (parts : CardParts) (card : CardState) : Type 0 where
  pub table : IsTold parts.table card.persistent
  pub channels : card.channels ≡ parts.channels
  pub verified : card.verified ≡ parts.verified
  pub session : card.session ≡ parts.session
  pub boxes : card.boxes ≡ parts.boxes

-- the card answered so, and may be the card that is left by this
pub record AnswersAs (answered : Answered) (out : Answer) (parts : CardParts) : Type 0 where
  pub body : out.body ≡ answered.body
  pub status : out.status ≡ answered.status
  pub left : MayBe parts answered.state

-- ---- what a memory of the table tells of an answer

-- some memory has the entries of the table and stands for this state
pub record IsOfMemory (table : Loaded) (state : Persistent) : Type 0 where
  pub store_mark : ℕ
  pub content : List ℕ
  pub stands : Stands store_mark content table state

-- The card may be this one: some memory of the table stands for its state, and the rest is as it is there.
pub record MayStand (parts : CardParts) (card : CardState) : Type 0 where
  pub table : IsOfMemory parts.table card.persistent
  pub channels : card.channels ≡ parts.channels
  pub verified : card.verified ≡ parts.verified
  pub session : card.session ≡ parts.session
  pub boxes : card.boxes ≡ parts.boxes

-- the card answered so, and over some memory it may be the card that is left by this
pub record AnswersStanding (answered : Answered) (out : Answer) (parts : CardParts) : Type 0 where
  pub body : out.body ≡ answered.body
  pub status : out.status ≡ answered.status
  pub left : MayStand parts answered.state

-- ---- which commands they are

-- SELECT, MANAGE CHANNEL and FETCH leave the memory alone.
abbrev pub LeavesMemory : Instruction → Type 0
LeavesMemory (File Select) = Unit {0}
LeavesMemory ManageChannel = Unit {0}
LeavesMemory (Toolkit command) = command ≡ Fetch
LeavesMemory _ = ⊥

-- a command of the toolkit, or STATUS, of which applets are told
abbrev pub ReachesApplets : Instruction → Type 0
ReachesApplets (File Status) = Unit {0}
ReachesApplets (Toolkit command) = Unit {0}
ReachesApplets _ = ⊥

-- All but those on what a file holds, and those that make, delete and resize files: their answers hang on nothing that files hold,
-- nor on where they lie.
abbrev pub NeedsNoContents : Instruction → Type 0
NeedsNoContents (File (Contents command)) = ⊥
NeedsNoContents (Tree command) = ⊥
NeedsNoContents _ = Unit {0}

-- how often these commit the table tells: all of them but those on PINs
abbrev pub CommitsByTable : Instruction → Type 0
CommitsByTable (Pin command) = ⊥
CommitsByTable instruction = NeedsNoContents instruction

-- ---- refusals that hang on nothing that files hold

-- a command on files is refused before access is tested, over what is selected
abbrev pub RefusesFile : FileCommand → List Descriptor → Selection → Apdu → StatusWord → Type 0
RefusesFile (Contents command) files selection apdu status = file_addressed command files selection apdu ≡ Err status
RefusesFile _ files selection apdu status = ⊥

-- the table refuses the command with this status, on what its channel has selected
abbrev pub RefusesByTable : Instruction → CardParts → Apdu → StatusWord → Type 0
RefusesByTable (File command) parts apdu status = RefusesFile command (descriptors_of parts.table) (unwrap_or (selected_on parts.channels (channel_of apdu.class)) AT_START) apdu status
RefusesByTable (Pin command) parts apdu status = pin_outcome command (pins_of parts.table) parts.verified apdu ≡ Err status
RefusesByTable _ parts apdu status = ⊥

-- Refused with this status without data; the whole card stays, with all that is known of its store.
pub record IsDenied (status : StatusWord) (out : Answer) (old new : CardParts) : Type 0 where
  pub refused : IsRefusedWith status out
  pub stays : new ≡ old

-- ---- what a command leaves as it was, also where it meets a fault

-- of the table, entries of files alone may be others; what the other channels have selected stays
pub record MovesFiles (channel : ℕ) (old new : CardParts) : Type 0 where
  pub table : HasOtherFiles old.table new.table
  pub channels : (other : ℕ) → other ≢ channel → selected_on new.channels other ≡ selected_on old.channels other
  pub verified : new.verified ≡ old.verified
  pub session : new.session ≡ old.session
  pub boxes : new.boxes ≡ old.boxes

-- a file is made, deleted or resized: of the table, entries of files alone may be others; what is selected may move on each channel
pub record MovesTree (old new : CardParts) : Type 0 where
  pub table : HasOtherFiles old.table new.table
  pub verified : new.verified ≡ old.verified
  pub session : new.session ≡ old.session
  pub boxes : new.boxes ≡ old.boxes

-- of the table, entries of PINs alone may be others; the verified keys move
pub record MovesPins (old new : CardParts) : Type 0 where
  pub table : new.table ≡ record old.table { pins = new.table.pins }
  pub channels : new.channels ≡ old.channels
  pub session : new.session ≡ old.session
  pub boxes : new.boxes ≡ old.boxes

-- the channels alone move
pub record MovesChannels (old new : CardParts) : Type 0 where
  pub table : new.table ≡ old.table
  pub verified : new.verified ≡ old.verified
  pub session : new.session ≡ old.session
  pub boxes : new.boxes ≡ old.boxes

-- on each shelf that had no row and has none the applet is as it was, unless it was to be installed
abbrev pub LeavesOtherUnregistered : CatCommand → Apdu → CardParts → CardParts → Type 0
LeavesOtherUnregistered command apdu old new =
    (shelf : ℕ) → (command ≡ InstallApplet → shelf ≢ apdu.p2) → (HasRowOn old.table shelf → ⊥) → (HasRowOn new.table shelf → ⊥) → mind_on new.boxes shelf ≡ mind_on old.boxes shelf

-- Of the table, the rows alone may be others, and the next sequence number where an applet is installed. No row goes but that of an
-- applet that is deleted. On a shelf that had no row and has none the applet is as it was, unless it was to be installed. Boxes keep
-- their kinds, but for that of a deleted applet, for which there is no row then.
pub record MovesToolkit (command : CatCommand) (apdu : Apdu) (old new : CardParts) : Type 0 where
  pub table : new.table ≡ record old.table { rows = new.table.rows; next = new.table.next }
  pub next : (command ≡ InstallApplet → ⊥) → new.table.next ≡ old.table.next
  pub rows_stay : (other : ℕ) → (command ≡ DeleteApplet → other ≢ apdu.p2) → HasRowOn old.table other → HasRowOn new.table other
  pub channels : new.channels ≡ old.channels
  pub verified : new.verified ≡ old.verified
  pub kinds : KindsKept command apdu new.table old.boxes new.boxes
  pub others : LeavesOtherUnregistered command apdu old new

-- STATUS, of which applets are told: of the table the rows alone may be others, and none goes; what is selected stays
pub record MovesStatus (old new : CardParts) : Type 0 where
  pub table : new.table ≡ record old.table { rows = new.table.rows }
  pub rows_stay : (other : ℕ) → HasRowOn old.table other → HasRowOn new.table other
  pub channels : new.channels ≡ old.channels
  pub verified : new.verified ≡ old.verified
  pub kinds : kinds_of new.boxes ≡ kinds_of old.boxes
  pub others : LeavesUnregistered old.table new.table old.boxes new.boxes

-- each kind of command moves its own
abbrev pub MovesItsOwn : Instruction → Apdu → CardParts → CardParts → Type 0
MovesItsOwn (File Status) apdu old new = MovesStatus old new
MovesItsOwn (File command) apdu old new = MovesFiles (channel_of apdu.class) old new
MovesItsOwn (Pin command) apdu old new = MovesPins old new
MovesItsOwn ManageChannel apdu old new = MovesChannels old new
MovesItsOwn (Toolkit command) apdu old new = MovesToolkit command apdu old new
MovesItsOwn (Tree command) apdu old new = MovesTree old new

-- ---- a command to a card of which no recovery is due, once it was answered without a fault

-- What the table tells of the answer, and what the command leaves as it was.
pub record Acts (old : CardParts) (bytes : List ℕ) (out : Answer) (new : CardParts) : Type 0 where
  pub refused : (status : StatusWord) → command_named old.channels bytes ≡ Err status → IsRefusedWith status out × (new ≡ old)
  pub answers : (card : CardState) (instruction : Instruction) → MayBe old card → command_named old.channels bytes ≡ Ok instruction → NeedsNoContents instruction → AnswersAs (answer card bytes) out new
  pub trees : (card : CardState) (instruction : Instruction) → MayStand old card → command_named old.channels bytes ≡ Ok instruction → is_of_tree instruction ≡ true → AnswersStanding (answer card bytes) out new
  pub denied : (instruction : Instruction) (apdu : Apdu) (status : StatusWord) → command_in bytes ≡ Some apdu → command_named old.channels bytes ≡ Ok instruction → RefusesByTable instruction old apdu status → IsDenied (told_pending (pending old.session) status) out old new
  pub moves : (instruction : Instruction) (apdu : Apdu) → command_in bytes ≡ Some apdu → command_named old.channels bytes ≡ Ok instruction → MovesItsOwn instruction apdu old new

-- The card began anew, and such a card took the command.
pub record ActsAnew (old : CardParts) (bytes : List ℕ) (out : Answer) (new : CardParts) : Type 0 where
  pub begun : CardParts
  pub begins : BeginsAnew old begun
  pub power : begun.is_on ≡ old.is_on
  pub acts : Acts begun bytes out new
