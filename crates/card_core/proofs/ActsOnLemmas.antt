-- What a command does, as the public words have it.
use Rattle.std.proofs.Common.{◌≡◌, false, true, [], List, ℕ, length, Some, Result, Ok, refl, sym, ◌∙◌, ap, subst, IsOk, OnOk}
use Rattle.uicc_types.specs.Counts.{raised_by}
use Rattle.uicc_types.specs.declared.answers.Answer.{Answer}
use Rattle.uicc_types.specs.declared.answers.StatusWord.{StatusWord}
use Rattle.apdu_form.specs.Model.{Apdu}
use Rattle.store_form.specs.declared.store.StoreFault.{StoreFault}
use Rattle.card_state.specs.Persistent.{Persistent}
use Rattle.file_model.specs.declared.commands.FileCommand.TheVariants.{Select, Status, Contents}
use Rattle.card_commits.specs.Performing.{CommitsAtMost}
use Rattle.card_model.specs.Answers.{Answered, settled, carried_out, answer}
use Rattle.card_model.specs.Instructions.{is_of_tree}
use Rattle.card_model.specs.States.{CardState}
use Rattle.card_model.specs.declared.instructions.Instruction.{Instruction}
use Rattle.card_model.specs.declared.instructions.Instruction.TheVariants.{File, Pin, ManageChannel, Toolkit, Tree}
use Rattle.card_core.specs.Acting.{ActsOn, ActsAlone}
use Rattle.card_core.specs.AnyStore.{MayBe, MayStand, AnswersAs, AnswersStanding, LeavesMemory, ReachesApplets, NeedsNoContents, CommitsByTable, RefusesByTable, IsDenied, MovesItsOwn}
use Rattle.card_core.specs.Cards.{held_by, card_with}
use Rattle.card_core.specs.Known.{KnownBy, ByStore, ByTable, ByMemory, IsKnown, IsAnsweredBy, IsCountedBy, IsCalmBy, CommitsSo, MayBeBy, SaysSo, IsLeftAt, StandsBy}
use Rattle.card_core.specs.Parts.{CardParts}
use Rattle.card_core.specs.Writing.{HasWritten, StopsWriting}
use Rattle.card_core.proofs.KnownLemmas.{finished, stopped_by, both_ok, card_by, by_table, by_memory}

answered_told : (answered : Answered) (out : Answer) (parts : CardParts) → SaysSo answered out → MayBeBy ByTable parts answered.state → AnswersAs answered out parts
answered_told answered out parts says may = record {
  body = says.body;
  status = says.status;
  left = record { table = may.known; channels = may.channels; verified = may.verified; session = may.session; boxes = may.boxes };
}

answered_stood : (answered : Answered) (out : Answer) (parts : CardParts) → SaysSo answered out → MayBeBy ByMemory parts answered.state → AnswersStanding answered out parts
answered_stood answered out parts says may = record {
  body = says.body;
  status = says.status;
  left = record { table = may.known; channels = may.channels; verified = may.verified; session = may.session; boxes = may.boxes };
}

-- how often a command that applets are told of commits the table tells
counted_reaching : (instruction : Instruction) → ReachesApplets instruction → CommitsByTable instruction
counted_reaching (File Status) reaches = tt
counted_reaching (File Select) reaches = absurd reaches
counted_reaching (File (Contents command)) reaches = absurd reaches
counted_reaching (Pin command) reaches = absurd reaches
counted_reaching ManageChannel reaches = absurd reaches
counted_reaching (Toolkit command) reaches = tt
counted_reaching (Tree command) reaches = absurd reaches

-- ---- a whole command, to a card that this may be by its table, and over a memory with these entries

module _ {X : Type 0} (result : Result X StoreFault) (instruction : Instruction) (apdu : Apdu) (old new : CardParts) (bytes : List ℕ) (out : Answer) (told : StatusWord → StatusWord)
    (does : ActsOn result instruction apdu old new out (λ card. answer card bytes) told) (card : CardState) where
  module _ (may : MayBe old card) where
    same_told : card_with false old card.persistent ≡ card
    same_told = sym (card_by ByTable old card (by_table old card may))

    pub answers_told : NeedsNoContents instruction → OnOk result (AnswersAs (answer card bytes) out new)
    answers_told needs =
        subst (λ (each : CardState). OnOk result (AnswersAs (answer each bytes) out new)) same_told
        (both_ok result _ _ _ (answered_told (answer (card_with false old card.persistent) bytes) out new) (does.says ByTable card.persistent may.table needs) ((does.yields ByTable card.persistent may.table).left needs))

    pub commits_told : CommitsByTable instruction → CommitsSo result old.commits new.commits (answer card bytes).commits
    commits_told by = subst (λ (each : CardState). CommitsSo result old.commits new.commits (answer each bytes).commits) same_told ((does.yields ByTable card.persistent may.table).commits_so by)

    pub calm_told : ReachesApplets instruction → (answer card bytes).commits ≡ [] → IsOk result
    calm_told reaches none =
        (does.yields ByTable card.persistent may.table).calm (counted_reaching instruction reaches) (ap (λ (each : CardState). (answer each bytes).commits) same_told ∙ none)

  module _ (may : MayStand old card) (of_tree : is_of_tree instruction ≡ true) where
    same_stood : card_with false old card.persistent ≡ card
    same_stood = sym (card_by ByMemory old card (by_memory old card may))

    pub answers_stood : OnOk result (AnswersStanding (answer card bytes) out new)
    answers_stood =
        subst (λ (each : CardState). OnOk result (AnswersStanding (answer each bytes) out new)) same_stood
        (both_ok result _ _ _ (answered_stood (answer (card_with false old card.persistent) bytes) out new) (does.says ByMemory card.persistent may.table of_tree) ((does.yields ByMemory card.persistent may.table).left of_tree))

    pub commits_stood : CommitsSo result old.commits new.commits (answer card bytes).commits
    commits_stood = subst (λ (each : CardState). CommitsSo result old.commits new.commits (answer each bytes).commits) same_stood ((does.yields ByMemory card.persistent may.table).commits_so of_tree)

    pub calm_stood : (answer card bytes).commits ≡ [] → IsOk result
    calm_stood none = (does.yields ByMemory card.persistent may.table).calm of_tree (ap (λ (each : CardState). (answer each bytes).commits) same_stood ∙ none)

-- ---- a command, by what its level says

module _ (instruction : Instruction) (apdu : Apdu) (old new : CardParts) (out : Answer) (moves : MovesItsOwn instruction apdu old new) where
  abbrev came_on : Persistent → Answered
  came_on state = settled (card_with false old state) (carried_out instruction (card_with false old state) apdu)

  -- it was carried out
  module _ (done : Unit {0}) where
    stands_done : (by : KnownBy) (state : Persistent) → IsKnown by old state → StandsBy by (finished done) old new (card_with false old state) (came_on state).commits
    stands_done ByStore state known = tt
    stands_done ByTable state known = tt
    stands_done ByMemory state known = tt

    pub acts_done : ((state : Persistent) → held_by old ≡ Some state → HasWritten (came_on state).changes old new)
        → ((by : KnownBy) (state : Persistent) → IsKnown by old state → IsAnsweredBy by instruction → SaysSo (came_on state) out × MayBeBy by new (came_on state).state)
        → ((by : KnownBy) (state : Persistent) → IsKnown by old state → IsCountedBy by instruction → new.commits ≡ raised_by (length (came_on state).commits) old.commits)
        → ((status : StatusWord) → RefusesByTable instruction old apdu status → IsDenied status out old new) → ActsAlone (Ok done) instruction apdu old new out
    acts_done writes answers counted denied = record {
      says = λ by state known needs. (answers by state known needs).0;
      yields = λ by state known. record { left = λ needs. (answers by state known needs).1; commits_so = counted by state known; calm = λ calm none. refl; stands = stands_done by state known };
      writes = writes;
      done = λ leaves. refl;
      denied = λ status refused. (refl, denied status refused);
      moves = moves;
    }

  -- a fault stopped it
  module _ (fault : StoreFault) (left : (state : Persistent) → held_by old ≡ Some state → IsLeftAt old new (card_with false old state) (came_on state).commits) where
    stands_stopped : (by : KnownBy) (state : Persistent) → IsKnown by old state → StandsBy by (stopped_by fault) old new (card_with false old state) (came_on state).commits
    stands_stopped ByStore state known = left state known
    stands_stopped ByTable state known = tt
    stands_stopped ByMemory state known = tt

    pub acts_stopped : ((state : Persistent) → held_by old ≡ Some state → StopsWriting (came_on state).changes old new)
        → ((by : KnownBy) (state : Persistent) → IsKnown by old state → IsCountedBy by instruction → CommitsAtMost (length (came_on state).commits) old.commits new.commits)
        → ((by : KnownBy) (state : Persistent) → IsKnown by old state → IsCalmBy by instruction → (came_on state).commits ≡ [] → ⊥)
        → (LeavesMemory instruction → ⊥) → ((status : StatusWord) → RefusesByTable instruction old apdu status → ⊥) → ActsAlone (stopped_by fault) instruction apdu old new out
    acts_stopped writes counted calm done denied = record {
      says = λ by state known needs. tt;
      yields = λ by state known. record { left = λ needs. tt; commits_so = counted by state known; calm = λ is none. absurd (calm by state known is none); stands = stands_stopped by state known };
      writes = writes;
      done = λ leaves. absurd (done leaves);
      denied = λ status refused. absurd (denied status refused);
      moves = moves;
    }
