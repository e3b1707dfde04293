-- A command of the toolkit, carried out over a card, and where a fault stops it (ETSI TS 102 221, 11.2).
use Rattle.std.specs.Prelude.{◌≡◌, ◌⊎◌, ℕ, ◌+◌, ◌<◌, [], ◌∷◌, length, slice_index_or, Some, option_map, Result, Ok, Err}
use Rattle.std.specs.List.{last_or}
use Rattle.uicc_types.specs.Counts.{raised_by}
use Rattle.uicc_types.specs.declared.answers.Answer.{Answer}
use Rattle.uicc_types.specs.declared.answers.StatusWord.{StatusWord}
use Rattle.uicc_types.specs.declared.answers.TheConstants.StatusWord.{DONE}
use Rattle.store_form.specs.declared.store.StoreFault.{StoreFault}
use Rattle.card_state.specs.Memory.{held}
use Rattle.card_state.specs.Persistent.{Persistent}
use Rattle.card_state.specs.States.{rows_of}
use Rattle.file_model.specs.Outcomes.{last_of}
use Rattle.card_commits.specs.Laws.{IsTold}
use Rattle.toolkit_model.specs.Passing.{passed_rows}
use Rattle.proactive_handler.specs.Counting.{Counts}
use Rattle.proactive_handler.specs.Written.{IsWritten, IsPartlyWritten}
use Rattle.proactive_handler.specs.Steps.{Scene, toolkit}
use Rattle.card_model.specs.States.{CardState}
use Rattle.card_model.specs.Toolkit.{ToolkitOutcome, states_passed}

-- The card may be this one, as far as its toolkit goes: the table tells what it holds for good, and it has this session
-- and these minds.
pub record HasToolkit (now : Scene) (card : CardState) : Type 0 where
  pub told : IsTold now.memory.table card.persistent
  pub session_is : card.session ≡ now.session
  pub boxes_are : card.boxes ≡ now.minds

-- ---- what a command comes to

-- a state after so many of the commits, and after all of them
abbrev pub state_at : ToolkitOutcome → ℕ → Persistent → Persistent
state_at outcome count persistent = slice_index_or (persistent ∷ states_passed persistent outcome) count persistent

-- the state after all commits of a command
abbrev pub last_state : ToolkitOutcome → Persistent → Persistent
last_state outcome persistent = last_of persistent (states_passed persistent outcome)

-- The toolkit is as it is defined, the store stands for the state after all commits, and of that the table tells; its
-- rows are the last that were committed. There was a commit for each state that the command passes, and no other; where it
-- passes none the bytes stay. What the commits changed was written.
pub record HasCome (outcome : ToolkitOutcome) (old new : Scene) : Type 0 where
  pub toolkit_is : toolkit new ≡ outcome.passed.state
  pub next : new.memory.table.next ≡ outcome.next_sequence
  pub stands : held new.memory ≡ option_map (last_state outcome) (held old.memory)
  pub tells : (state : Persistent) → IsTold old.memory.table state
      → IsTold new.memory.table (last_state outcome state)
  pub last_is : last_or (Some (rows_of old.memory.table)) (passed_rows outcome.passed.log)
      ≡ Some outcome.passed.state.rows
  pub counts : Counts (passed_rows outcome.passed.log) old.memory new.memory
  pub writes : IsWritten outcome.passed.log old.memory new.memory

-- A fault stopped one of the commits: the table has the rows before it, and the store stands for the state before it or
-- for the one after it. Those before it are counted, and no other.
pub record IsToolkitCutShort (outcome : ToolkitOutcome) (old new : Scene) : Type 0 where
  pub count : ℕ
  pub one_more : count < length (passed_rows outcome.passed.log)
  pub rows_are : rows_of new.memory.table
      ≡ slice_index_or (rows_of old.memory.table ∷ passed_rows outcome.passed.log) count []
  pub stands : (held new.memory ≡ option_map (state_at outcome count) (held old.memory))
      ⊎ (held new.memory ≡ option_map (state_at outcome (count + 1)) (held old.memory))
  pub commits : new.memory.commits ≡ raised_by count old.memory.commits
  pub writes : IsPartlyWritten outcome.passed.log old.memory new.memory

-- what a command comes to after Ok, or where a fault stops it
abbrev pub Comes : {X : Type 0} → ToolkitOutcome → Scene → Scene → Result X StoreFault → Type 0
Comes outcome old new (Ok result) = HasCome outcome old new
Comes outcome old new (Err fault) = IsToolkitCutShort outcome old new

-- the same, to each card that the old scene may be
abbrev pub ToolkitComesTo : {X : Type 0} → (CardState → ToolkitOutcome) → Scene → Scene
    → Result X StoreFault → Type 0
ToolkitComesTo outcome old new result = (card : CardState) → HasToolkit old card → Comes (outcome card) old new result

-- ---- how it is answered

-- refused: no data, and nothing moves
pub record IsRefused (status : StatusWord) (out : Answer) (old new : Scene) : Type 0 where
  pub body : out.body ≡ []
  pub status_is : out.status ≡ status
  pub stays : new ≡ old

-- carried out
pub record IsAnswered (outcome : ToolkitOutcome) (out : Answer) (old new : Scene) : Type 0 where
  pub body : out.body ≡ outcome.body
  pub status_is : out.status ≡ DONE
  pub comes : HasCome outcome old new

-- What is tried so is refused, carried out, or stopped by a fault. What is refused meets no fault.
abbrev pub Carries : {X : Type 0} → Result ToolkitOutcome StatusWord → Answer → Scene → Scene
    → Result X StoreFault → Type 0
Carries (Err status) out old new (Ok result) = IsRefused status out old new
Carries (Err status) out old new (Err fault) = ⊥
Carries (Ok outcome) out old new (Ok result) = IsAnswered outcome out old new
Carries (Ok outcome) out old new (Err fault) = IsToolkitCutShort outcome old new

-- the same, to each card that the old scene may be
abbrev pub CarriesOut : {X : Type 0} → (CardState → Result ToolkitOutcome StatusWord) → Answer → Scene → Scene
    → Result X StoreFault → Type 0
CarriesOut tried out old new result =
    (card : CardState) → HasToolkit old card → Carries (tried card) out old new result
