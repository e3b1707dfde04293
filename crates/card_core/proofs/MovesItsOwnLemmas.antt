-- What a command leaves as it was.
use Rattle.std.proofs.Common.{◌≡◌, inl, inr, ℕ, Bool, true, false, List, Option, None, sym, ◌∙◌, ap, refl, subst, slice_set, Result, Ok, Err, OnOk, MatchResult, true≢false, get_or-set_other}
use Rattle.uicc_types.specs.declared.answers.Answer.{Answer}
use Rattle.uicc_types.specs.declared.answers.StatusWord.{StatusWord}
use Rattle.apdu_form.specs.Model.{Apdu}
use Rattle.store_form.specs.declared.store.StoreFault.{StoreFault}
use Rattle.card_state.specs.declared.entries.Loaded.{Loaded}
use Rattle.card_state.specs.Persistent.{Persistent}
use Rattle.access_rules.specs.declared.rules.Verified.{Verified}
use Rattle.file_model.specs.declared.selections.Selection.{Selection}
use Rattle.file_model.specs.Channels.{basic_channel_alone, selected_on}
use Rattle.file_model.specs.declared.commands.FileCommand.TheVariants.{Select, Status, Contents}
use Rattle.file_model.specs.Outcomes.{FileOutcome, settled_file}
use Rattle.file_model.specs.Selecting.{status_told, telling}
use Rattle.file_model.specs.Commands.{file_outcome}
use Rattle.card_commits.specs.Entries.{HasRowOn}
use Rattle.record_commands.specs.Tables.{HasOtherFiles}
use Rattle.applet_trait.specs.Minds.{AppletState}
use Rattle.toolkit_model.specs.Running.{mind_on}
use Rattle.proactive_handler.specs.Boxes.{kinds_of}
use Rattle.card_model.specs.declared.instructions.Instruction.{Instruction}
use Rattle.card_model.specs.declared.instructions.Instruction.TheVariants.{File, Pin, ManageChannel, Toolkit, Tree}
use Rattle.card_model.specs.Chained.{Any}
use Rattle.card_model.proofs.ChainedLemmas.{past, past_given}
use Rattle.cat_commands.specs.Deleting.{LeavesUnregistered}
use Rattle.card_core.specs.AnyStore.{BeginsAnew, command_named, IsRefusedWith, MovesFiles, MovesStatus, MovesItsOwn, ActsAnew}
use Rattle.card_core.specs.Acting.{in_whole, ActsAs, LeavesCard}
use Rattle.card_core.specs.Parts.{CardParts}
use Rattle.card_core.proofs.ActsOnLemmas.{answers_told, answers_stood}
use Rattle.card_core.proofs.ActsAsLemmas.{acts_named}

-- ---- a command on files

pub files_moved : (channel at : ℕ) (old new : CardParts) (next : Option Selection) → HasOtherFiles old.table new.table → at ≡ channel → new.channels ≡ slice_set old.channels at next → new.verified ≡ old.verified → new.session ≡ old.session → new.boxes ≡ old.boxes
    → MovesFiles channel old new
files_moved channel at old new next table same channels verified session boxes = record {
  table = table;
  channels = λ other apart_from.
      ap (λ (now : List (Option Selection)). selected_on now other) channels
      ∙ get_or-set_other old.channels at other next None (λ is. apart_from (is ∙ same));
  verified = verified;
  session = session;
  boxes = boxes;
}

pub files_kept : (channel : ℕ) (old new : CardParts) → new.table ≡ old.table → new.channels ≡ old.channels → new.verified ≡ old.verified → new.session ≡ old.session → new.boxes ≡ old.boxes → MovesFiles channel old new
files_kept channel old new table channels verified session boxes = record {
  table = table ∙ ap (λ (now : Loaded). record old.table { nodes = now.nodes }) (sym table);
  channels = λ other _. ap (λ (now : List (Option Selection)). selected_on now other) channels;
  verified = verified;
  session = session;
  boxes = boxes;
}

-- ---- after a fault

-- a recovery is due, and power may be lost
pub still_its_own : (instruction : Instruction) (apdu : Apdu) (old new : CardParts) (on due : Bool) → MovesItsOwn instruction apdu old new → MovesItsOwn instruction apdu old (record new { is_on = on; is_due = due })
still_its_own (File Status) apdu old new on due moves = record { table = moves.table; rows_stay = moves.rows_stay; channels = moves.channels; verified = moves.verified; kinds = moves.kinds; others = moves.others }
still_its_own (File Select) apdu old new on due moves = record { table = moves.table; channels = moves.channels; verified = moves.verified; session = moves.session; boxes = moves.boxes }
still_its_own (File (Contents command)) apdu old new on due moves = record { table = moves.table; channels = moves.channels; verified = moves.verified; session = moves.session; boxes = moves.boxes }
still_its_own (Pin command) apdu old new on due moves = record { table = moves.table; channels = moves.channels; session = moves.session; boxes = moves.boxes }
still_its_own ManageChannel apdu old new on due moves = record { table = moves.table; verified = moves.verified; session = moves.session; boxes = moves.boxes }
still_its_own (Toolkit command) apdu old new on due moves = record { table = moves.table; next = moves.next; rows_stay = moves.rows_stay; channels = moves.channels; verified = moves.verified; kinds = moves.kinds; others = moves.others }
still_its_own (Tree command) apdu old new on due moves = record { table = moves.table; verified = moves.verified; session = moves.session; boxes = moves.boxes }

-- ---- STATUS

-- after the command itself
pub status_moved : (old mid new : CardParts) → mid.table ≡ old.table → mid.channels ≡ old.channels → mid.verified ≡ old.verified → mid.boxes ≡ old.boxes → MovesStatus mid new → MovesStatus old new
status_moved old mid new table channels verified boxes later = record {
  table = later.table ∙ ap (λ (now : Loaded). record now { rows = new.table.rows }) table;
  rows_stay = λ other has. later.rows_stay other (subst (λ (now : Loaded). HasRowOn now other) (sym table) has);
  channels = later.channels ∙ channels;
  verified = later.verified ∙ verified;
  kinds = later.kinds ∙ ap kinds_of boxes;
  others = subst (λ (minds : List (Option AppletState)). LeavesUnregistered old.table new.table minds new.boxes) boxes (subst (λ (now : Loaded). LeavesUnregistered now new.table mid.boxes new.boxes) table later.others);
}

pub status_kept : (old new : CardParts) → new.table ≡ old.table → new.channels ≡ old.channels → new.verified ≡ old.verified → new.boxes ≡ old.boxes → MovesStatus old new
status_kept old new table channels verified boxes = record {
  table = table ∙ ap (λ (now : Loaded). record old.table { rows = now.rows }) (sym table);
  rows_stay = λ other has. subst (λ (now : Loaded). HasRowOn now other) (sym table) has;
  channels = channels;
  verified = verified;
  kinds = ap kinds_of boxes;
  others = λ shelf _ _. ap (λ (minds : List (Option AppletState)). mind_on minds shelf) boxes;
}

abbrev Keeps : Selection → FileOutcome → Type 0
Keeps selection outcome = outcome.selection ≡ selection

settled_keeps : (selection : Selection) (came : Result FileOutcome StatusWord) → MatchResult came (Keeps selection) Any → (settled_file selection came).selection ≡ selection
settled_keeps selection (Ok outcome) keeps = keeps
settled_keeps selection (Err status) keeps = refl

-- what was selected is selected still
pub status_keeps : (state : Persistent) (seen : Verified) (selection : Selection) (apdu : Apdu) → (settled_file selection (file_outcome Status state seen selection apdu)).selection ≡ selection
unfolding file_outcome status_told telling
status_keeps state seen selection apdu =
    settled_keeps selection (status_told state selection apdu)
    (past (Keeps selection) _ _ _ (past (Keeps selection) _ _ _ (past_given (Keeps selection) _ _ _ (λ file. refl))))

-- ---- after what was due

pub acts_anew : {X : Type 0} (result : Result X StoreFault) (old begun new : CardParts) (bytes : List ℕ) (out : Answer) → BeginsAnew old begun → begun.is_on ≡ old.is_on
    → ActsAs result begun new out (in_whole begun bytes) → OnOk result (ActsAnew old bytes out new)
acts_anew {X} (Ok done) old begun new bytes out begins power does = record {
  begun = begun;
  begins = begins;
  power = power;
  acts = record {
    refused = λ status named. (let gives = does.refused status named in (gives.1, gives.2));
    answers = λ card instruction may named needs. answers_told {X = X} (Ok done) instruction _ begun new bytes out _ (acts_named {X = X} (Ok done) begun new bytes out does instruction named) card may needs;
    trees = λ card instruction may named of_tree. answers_stood {X = X} (Ok done) instruction _ begun new bytes out _ (acts_named {X = X} (Ok done) begun new bytes out does instruction named) card may of_tree;
    denied = λ instruction apdu status read named refused. ((does.acts instruction apdu read named).denied status refused).1;
    moves = λ instruction apdu read named. (does.acts instruction apdu read named).moves;
  };
}
acts_anew (Err fault) old begun new bytes out begins power does = tt

-- what the form, the class, the channel or the instruction byte refuses leaves the card that began anew
pub refused_anew : (old new : CardParts) (bytes : List ℕ) (out : Answer) (status : StatusWord) → ActsAnew old bytes out new → command_named basic_channel_alone bytes ≡ Err status → IsRefusedWith status out × BeginsAnew old new
refused_anew old new bytes out status anew named =
    let gives = anew.acts.refused status (ap (λ (channels : List (Option Selection)). command_named channels bytes) anew.begins.channels ∙ named) in
    (gives.0, subst (BeginsAnew old) (sym gives.1) anew.begins)

-- a card with power is left alone where nothing is due and the command is refused so
pub left_alone : (parts : CardParts) (bytes : List ℕ) (P : Type 0) → parts.is_on ≡ true → ((status : StatusWord) → parts.is_due ≡ false → command_named parts.channels bytes ≡ Err status → P) → LeavesCard parts bytes → P
left_alone parts bytes P on refused (inl off) = absurd (true≢false (sym on ∙ off))
left_alone parts bytes P on refused (inr refusal) = refused refusal.0 refusal.1 refusal.2
