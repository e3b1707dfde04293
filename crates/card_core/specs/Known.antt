-- By what the state of a card is known, and what a command comes to by that.
use Rattle.std.specs.Prelude.{◌≡◌, ℕ, true, List, [], ◌∷◌, length, Some, Result, Ok, Err, IsOk, OnOk, OnErr, IsSomeAnd}
use Rattle.uicc_types.specs.Counts.{raised_by}
use Rattle.uicc_types.specs.declared.answers.Answer.{Answer}
use Rattle.store_form.specs.declared.store.StoreFault.{StoreFault}
use Rattle.card_state.specs.Persistent.{Persistent}
use Rattle.card_commits.specs.Laws.{IsTold}
use Rattle.card_commits.specs.Performing.{CommitsAtMost}
use Rattle.card_model.specs.Answers.{Answered}
use Rattle.card_model.specs.Instructions.{is_of_tree}
use Rattle.card_model.specs.Runs.{IsLeft}
use Rattle.card_model.specs.States.{CardState}
use Rattle.card_model.specs.declared.instructions.Instruction.{Instruction}
use Rattle.card_core.specs.AnyStore.{IsOfMemory, NeedsNoContents, CommitsByTable}
use Rattle.card_core.specs.Cards.{held_by, card_due}
use Rattle.card_core.specs.Moves.{StopsAt}
use Rattle.card_core.specs.Parts.{CardParts}

-- The store holds it, the table of entries tells it, or some memory with these entries stands for it.
pub data KnownBy : Type 0 where
  ByStore : KnownBy
  ByTable : KnownBy
  ByMemory : KnownBy

-- the card holds this state, as far as is known: by the bytes that its store tells, by its table, or by some memory that its table is of
abbrev pub IsKnown : KnownBy → CardParts → Persistent → Type 0
IsKnown ByStore parts state = held_by parts ≡ Some state
IsKnown ByTable parts state = IsTold parts.table state
IsKnown ByMemory parts state = IsOfMemory parts.table state

-- The card may be this one: its state is known so, and the rest is as it is there.
pub record MayBeBy (by : KnownBy) (parts : CardParts) (card : CardState) : Type 0 where
  pub known : IsKnown by parts card.persistent
  pub channels : card.channels ≡ parts.channels
  pub verified : card.verified ≡ parts.verified
  pub session : card.session ≡ parts.session
  pub boxes : card.boxes ≡ parts.boxes

-- ---- which commands are told by that

-- what it answers
abbrev pub IsAnsweredBy : KnownBy → Instruction → Type 0
IsAnsweredBy ByStore instruction = Unit {0}
IsAnsweredBy ByTable instruction = NeedsNoContents instruction
IsAnsweredBy ByMemory instruction = is_of_tree instruction ≡ true

-- how often it commits
abbrev pub IsCountedBy : KnownBy → Instruction → Type 0
IsCountedBy ByStore instruction = Unit {0}
IsCountedBy ByTable instruction = CommitsByTable instruction
IsCountedBy ByMemory instruction = is_of_tree instruction ≡ true

-- that it meets no fault where it commits nothing; over a store that tells its bytes a command may read, and meet one there
abbrev pub IsCalmBy : KnownBy → Instruction → Type 0
IsCalmBy ByStore instruction = ⊥
IsCalmBy ByTable instruction = CommitsByTable instruction
IsCalmBy ByMemory instruction = is_of_tree instruction ≡ true

-- ---- what comes of a command

-- where each of these states was committed once, and no other; a fault leaves no more commits acknowledged than there are
abbrev pub CommitsSo : {X : Type 0} → Result X StoreFault → ℕ → ℕ → List Persistent → Type 0
CommitsSo (Ok done) before now states = now ≡ raised_by (length states) before
CommitsSo (Err fault) before now states = CommitsAtMost (length states) before now

-- the card answered so
pub record SaysSo (answered : Answered) (out : Answer) : Type 0 where
  pub body : out.body ≡ answered.body
  pub status : out.status ≡ answered.status

-- A fault left one of these states, as a restart finds it; so many commits as were acknowledged stand, or one more.
pub record IsLeftAt (old new : CardParts) (card : CardState) (commits : List Persistent) : Type 0 where
  pub left : IsSomeAnd (card_due new) (IsLeft card (card.persistent ∷ commits))
  pub stops : StopsAt card.persistent commits old.commits new.commits (held_by new)

-- what a fault leaves in a store that tells its bytes; of a state that is known otherwise nothing
abbrev pub StandsBy : {X : Type 0} → KnownBy → Result X StoreFault → CardParts → CardParts → CardState → List Persistent → Type 0
StandsBy ByStore result old new card commits = OnErr result (IsLeftAt old new card commits)
StandsBy ByTable result old new card commits = Unit {0}
StandsBy ByMemory result old new card commits = Unit {0}

-- What comes of a command that names this instruction to a card whose state is known so: the card after it, and its commits.
pub record Yields {X : Type 0} (result : Result X StoreFault) (by : KnownBy) (instruction : Instruction) (old new : CardParts) (card after : CardState) (commits : List Persistent) : Type 0 where
  pub left : IsAnsweredBy by instruction → OnOk result (MayBeBy by new after)
  pub commits_so : IsCountedBy by instruction → CommitsSo result old.commits new.commits commits
  pub calm : IsCalmBy by instruction → commits ≡ [] → IsOk result
  pub stands : StandsBy by result old new card commits
