-- What the commands do over any store, be its bytes told or not, where nothing is due: by kinds, and as a whole.
use Rattle.std.specs.Prelude.{◌≡◌, ◌⊎◌, ℕ, List, [], ◌∷◌, length, true, false, Option, Some, Result, Ok, Err, IsOk, OnOk, OnErr}
use Rattle.uicc_types.specs.Counts.{raised_by}
use Rattle.uicc_types.specs.declared.answers.Answer.{Answer}
use Rattle.uicc_types.specs.declared.answers.StatusWord.{StatusWord}
use Rattle.apdu_form.specs.Model.{Apdu, command_in}
use Rattle.store_form.specs.declared.store.StoreFault.{StoreFault}
use Rattle.card_state.specs.Persistent.{Persistent}
use Rattle.file_model.specs.Channels.{basic_channel_alone}
use Rattle.card_commits.specs.Laws.{IsTold}
use Rattle.card_commits.specs.Performing.{CommitsAtMost}
use Rattle.toolkit_model.specs.Commands.{pending}
use Rattle.proactive_handler.specs.Boxes.{kinds_of}
use Rattle.card_model.specs.Answers.{Answered, settled, carried_out, tried, answer, told_pending}
use Rattle.card_model.specs.Instructions.{instruction_tried, is_known, is_of_tree}
use Rattle.card_model.specs.States.{CardState}
use Rattle.card_model.specs.declared.instructions.Instruction.{Instruction}
use Rattle.card_model.specs.declared.instructions.Instruction.TheVariants.{File}
use Rattle.file_model.specs.declared.commands.FileCommand.TheVariants.{Status}
use Rattle.card_core.specs.AnyStore.{BeginsAnew, command_named, IsRefusedWith, MayBe, AnswersAs, MayStand, AnswersStanding, LeavesMemory, NeedsNoContents, CommitsByTable, ReachesApplets, RefusesByTable, IsDenied, MovesStatus, MovesItsOwn, ActsAnew}
use Rattle.card_core.specs.Cards.{held_by, card_with}
use Rattle.card_core.specs.Commands.{by_instruction}
use Rattle.card_core.specs.Known.{KnownBy, IsKnown, IsAnsweredBy, SaysSo, Yields}
use Rattle.card_core.specs.Moves.{polled_on, HasRowsOf, IsServed, OnServed}
use Rattle.card_core.specs.Parts.{CardParts}
use Rattle.card_core.specs.Writing.{WritesChanges}
use Rattle.card_core.specs.declared.faults.CardFault.{CardFault}

-- Each of these states was committed once, and no other, where the command was answered; whatever comes of it, no more are
-- acknowledged.
abbrev pub CommitsServed : {X : Type 0} → Result X CardFault → Answer → CardParts → CardParts → List Persistent → Type 0
CommitsServed result out old new states =
    OnServed result out (new.commits ≡ raised_by (length states) old.commits)
    × CommitsAtMost (length states) old.commits new.commits

-- ---- a command whose instruction is known

-- What a command does that names this instruction, where nothing is due; what it comes to on a card, and how the status of a refusal
-- is told, are given.
pub record ActsOn {X : Type 0} (result : Result X StoreFault) (instruction : Instruction) (apdu : Apdu) (old new : CardParts) (out : Answer) (comes : CardState → Answered) (told : StatusWord → StatusWord) : Type 0 where
  -- it is answered as each card does that this one may be, by what its state is known by
  pub says : (by : KnownBy) (state : Persistent) → IsKnown by old state → IsAnsweredBy by instruction
      → OnOk result (SaysSo (comes (card_with false old state)) out)
  -- and so the card is left, and as often it commits
  pub yields : (by : KnownBy) (state : Persistent) → IsKnown by old state
      → Yields result by instruction old new (card_with false old state) (comes (card_with false old state)).state (comes (card_with false old state)).commits
  -- over a store that tells its bytes, its changes alone are written
  pub writes : (state : Persistent) → held_by old ≡ Some state → WritesChanges result old new (comes (card_with false old state)).changes
  -- SELECT, MANAGE CHANNEL and FETCH meet no fault
  pub done : LeavesMemory instruction → IsOk result
  -- nor does one that the table refuses, which is answered so, and all stays
  pub denied : (status : StatusWord) → RefusesByTable instruction old apdu status
      → IsOk result × IsDenied (told status) out old new
  -- it leaves what isn't its own to move, also at a fault
  pub moves : MovesItsOwn instruction apdu old new

-- the same of one that is carried out as it is, without an event
abbrev pub ActsAlone : {X : Type 0} → Result X StoreFault → Instruction → Apdu → CardParts → CardParts → Answer → Type 0
ActsAlone result instruction apdu old new out =
    ActsOn result instruction apdu old new out (λ card. settled card (carried_out instruction card apdu)) (λ status. status)

-- What STATUS does before applets are told of it: it meets no fault, commits nothing, and leaves the table, what is selected, the
-- verified keys and the boxes.
pub record ChangesNothing {X : Type 0} (result : Result X StoreFault) (old new : CardParts) : Type 0 where
  pub done : IsOk result
  pub commits : new.commits ≡ old.commits
  pub table : new.table ≡ old.table
  pub channels : new.channels ≡ old.channels
  pub verified : new.verified ≡ old.verified
  pub boxes : new.boxes ≡ old.boxes

-- The applets that are registered for STATUS are told of it.
pub record TellsApplets {X : Type 0} (result : Result X StoreFault) (old new : CardParts) : Type 0 where
  pub yields : (by : KnownBy) (state : Persistent) → IsKnown by old state
      → Yields result by (File Status) old new (card_with false old state) (polled_on (card_with false old state)).state (polled_on (card_with false old state)).commits
  pub writes : (state : Persistent) → held_by old ≡ Some state → WritesChanges result old new (polled_on (card_with false old state)).changes
  pub moves : MovesStatus old new

-- A fault stopped the toolkit: the rows of the table are those before it, or of one of the states that were to be committed, and the
-- boxes keep their kinds.
pub record StopsToolkit (old new : CardParts) (commits : CardState → List Persistent) : Type 0 where
  pub rows : (state : Persistent) → IsTold old.table state → HasRowsOf (state ∷ commits (card_with false old state)) new
  pub boxes : kinds_of new.boxes ≡ kinds_of old.boxes

-- ---- a command as it is taken

-- The command that it is, if it has the form of one; the instruction that it names, or the status that refuses it for its form,
-- class, channel or instruction byte; what it comes to on a card; and how the status of a refusal is told.
pub record Taken : Type 0 where
  pub command : Option Apdu
  pub named : Result Instruction StatusWord
  pub comes : CardState → Answered
  pub told : StatusWord → StatusWord

-- one whose form is known
abbrev pub in_form : CardParts → Apdu → Taken
in_form parts apdu = record {
  command = Some apdu;
  named = instruction_tried is_known parts.channels apdu.class apdu.ins;
  comes = λ card. settled card (by_instruction apdu card);
  told = λ status. status;
}

-- one in bytes
abbrev pub in_bytes : CardParts → List ℕ → Taken
in_bytes parts bytes = record {
  command = command_in bytes;
  named = command_named parts.channels bytes;
  comes = λ card. settled card (tried is_known card bytes);
  told = λ status. status;
}

-- one in bytes, of which the answer tells that a command is to be fetched
abbrev pub in_whole : CardParts → List ℕ → Taken
in_whole parts bytes = record {
  command = command_in bytes;
  named = command_named parts.channels bytes;
  comes = λ card. answer card bytes;
  told = told_pending (pending parts.session);
}

-- What a command does where nothing is due.
pub record ActsAs {X : Type 0} (result : Result X StoreFault) (old new : CardParts) (out : Answer) (taken : Taken) : Type 0 where
  -- what its form, its class, its channel or its instruction byte refuses is answered so, and all stays
  pub refused : (status : StatusWord) → taken.named ≡ Err status → IsOk result × IsRefusedWith status out × (new ≡ old)
  -- what names an instruction does what that does
  pub acts : (instruction : Instruction) (apdu : Apdu) → taken.command ≡ Some apdu → taken.named ≡ Ok instruction
      → ActsOn result instruction apdu old new out taken.comes taken.told
  -- a fault leaves the table
  pub table : OnErr result (new.table ≡ old.table)

-- ---- a command to a card

-- What a command does to a card that has power and of which nothing is due.
pub record ActsAtOnce {X : Type 0} (result : Result X CardFault) (old new : CardParts) (bytes : List ℕ) (out : Answer) : Type 0 where
  -- what its form, its class, its channel or its instruction byte refuses is answered so, and all stays
  pub refused : (status : StatusWord) → command_named old.channels bytes ≡ Err status
      → IsOk result × IsRefusedWith status out × (new ≡ old)
  -- where it needs nothing of what files hold, it is answered as each card does that this one may be by its table
  pub answers : (card : CardState) (instruction : Instruction) → MayBe old card
      → command_named old.channels bytes ≡ Ok instruction → NeedsNoContents instruction
      → OnServed result out (AnswersAs (answer card bytes) out new)
  -- where it makes, deletes or resizes a file, as each card does over a memory with these entries
  pub trees : (card : CardState) (instruction : Instruction) → MayStand old card
      → command_named old.channels bytes ≡ Ok instruction → is_of_tree instruction ≡ true
      → OnServed result out (AnswersStanding (answer card bytes) out new)
  -- and commits as often as such a card does; a command on PINs aside
  pub commits : (card : CardState) (instruction : Instruction) → MayBe old card
      → command_named old.channels bytes ≡ Ok instruction → CommitsByTable instruction
      → CommitsServed result out old new (answer card bytes).commits
  pub commits_trees : (card : CardState) (instruction : Instruction) → MayStand old card
      → command_named old.channels bytes ≡ Ok instruction → is_of_tree instruction ≡ true
      → CommitsServed result out old new (answer card bytes).commits
  -- SELECT, MANAGE CHANNEL and FETCH meet no fault
  pub done : (card : CardState) (instruction : Instruction) → MayBe old card
      → command_named old.channels bytes ≡ Ok instruction → LeavesMemory instruction → IsServed result out
  -- nor does a command of the toolkit, or STATUS, that commits nothing
  pub calm : (card : CardState) (instruction : Instruction) → MayBe old card
      → command_named old.channels bytes ≡ Ok instruction → ReachesApplets instruction
      → (answer card bytes).commits ≡ [] → IsServed result out
  -- nor one that makes, deletes or resizes a file and changes nothing
  pub calm_trees : (card : CardState) (instruction : Instruction) → MayStand old card
      → command_named old.channels bytes ≡ Ok instruction → is_of_tree instruction ≡ true
      → (answer card bytes).commits ≡ [] → IsServed result out
  -- nor one that the table refuses, on a file before access is tested or on PINs, which is answered so, and all stays
  pub denied : (instruction : Instruction) (apdu : Apdu) (status : StatusWord) → command_in bytes ≡ Some apdu
      → command_named old.channels bytes ≡ Ok instruction
      → RefusesByTable instruction old apdu status
      → IsOk result × IsDenied (told_pending (pending old.session) status) out old new
  -- whatever it comes to, a fault too, it leaves what isn't its own to move
  pub stays : (instruction : Instruction) (apdu : Apdu) → command_in bytes ≡ Some apdu
      → command_named old.channels bytes ≡ Ok instruction → MovesItsOwn instruction apdu old new
  -- where a fault stops it, it leaves the table
  pub stopped : IsServed result out ⊎ (new.table ≡ old.table)

-- What a command does to a card of which a restart is due: that is done first, and then a card that began anew takes the command.
pub record ActsAfterRestart {X : Type 0} (result : Result X CardFault) (old new : CardParts) (bytes : List ℕ) (out : Answer) : Type 0 where
  -- one that is refused leaves that card
  pub refused : (status : StatusWord) → command_named basic_channel_alone bytes ≡ Err status
      → OnServed result out (IsRefusedWith status out × BeginsAnew old new)
  -- what is said of a command over any store holds of that card
  pub acts : OnServed result out (ActsAnew old bytes out new)

-- A command leaves the whole card as it was where it has no power, and where nothing is due and the form, the class, the channel or
-- the instruction byte refuses the command.
abbrev pub LeavesCard : CardParts → List ℕ → Type 0
LeavesCard parts bytes =
    (parts.is_on ≡ false)
    ⊎ ((status : StatusWord) × (parts.is_due ≡ false) × (command_named parts.channels bytes ≡ Err status))
