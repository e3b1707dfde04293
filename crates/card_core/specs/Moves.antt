-- How the calls of a card move it, over a store that tells its bytes; and what a command owes at a fault and without power.
use Rattle.std.specs.Prelude.{◌≡◌, ◌≢◌, ◌⊎◌, ◌↔◌, ℕ, ◌+◌, ◌≤◌, List, [], ◌∷◌, slice_index_or, true, false, length, map, Contains, Option, Some, is_some, IfSome, IsSomeAnd, Result, Ok, Err, IsOk, OnOk, OnErr, IsErrOf}
use Rattle.uicc_types.specs.Counts.{Caused, raised_by}
use Rattle.uicc_types.specs.declared.answers.Answer.{Answer}
use Rattle.uicc_types.specs.declared.answers.TheConstants.StatusWord.{MEMORY_PROBLEM}
use Rattle.store_form.specs.declared.store.StoreFault.{StoreFault}
use Rattle.card_state.specs.Persistent.{Persistent}
use Rattle.card_state.specs.States.{rows_of}
use Rattle.toolkit_model.specs.Commands.{polled}
use Rattle.card_model.specs.States.{CardState}
use Rattle.card_model.specs.Answers.{Answered, on_toolkit, answer, passed}
use Rattle.card_model.specs.Toolkit.{toolkit_of, coming_to}
use Rattle.card_model.specs.Runs.{IsLeft}
use Rattle.card_core.specs.Parts.{CardParts}
use Rattle.card_core.specs.Cards.{card_of, card_due, held_by}
use Rattle.card_core.specs.Writing.{WritesChanges}
use Rattle.card_core.specs.declared.faults.CardFault.{CardFault}
use Rattle.card_core.specs.declared.faults.CardFault.TheVariants.{PowerLost, NoPower}

-- ---- a command

-- the card answered so
pub record Answers (answered : Answered) (out : Answer) (after : Option CardState) : Type 0 where
  pub body : out.body ≡ answered.body
  pub status : out.status ≡ answered.status
  pub moved : after ≡ Some answered.state

-- the memory failed, which is answered without data; the card holds one of the states that the command passes
pub record Fails (card : CardState) (apdu : List ℕ) (out : Answer) (after : Option CardState) : Type 0 where
  pub body : out.body ≡ []
  pub status : out.status ≡ MEMORY_PROBLEM
  pub left : IsSomeAnd after (IsLeft card (passed card apdu))

-- What a command does to a card whose store tells its bytes. Without power it does nothing.
abbrev pub Transmits : {X : Type 0} → Result X CardFault → Option CardState → Option CardState → List ℕ → Answer → Type 0
Transmits (Ok _) before after apdu out = IfSome before (λ card. Answers (answer card apdu) out after ⊎ Fails card apdu out after)
Transmits (Err PowerLost) before after apdu out = IfSome before (λ card. IsSomeAnd after (IsLeft card (passed card apdu)))
Transmits (Err NoPower) before after apdu out = after ≡ before

-- the card answered that the memory failed
pub record AnswersFailure {X : Type 0} (result : Result X CardFault) (out : Answer) : Type 0 where
  pub answered : IsOk result
  pub status : out.status ≡ MEMORY_PROBLEM

-- the card answered, and not that
abbrev pub IsServed : {X : Type 0} → Result X CardFault → Answer → Type 0
IsServed result out = IsOk result × (out.status ≢ MEMORY_PROBLEM)

-- where it did, this holds
abbrev pub OnServed : {X : Type 0} → Result X CardFault → Answer → Type 0 → Type 0
OnServed result out Holds = OnOk result (out.status ≢ MEMORY_PROBLEM → Holds)

-- A fault stopped what commits these states, one after the other, to a store that stood for this one. So many commits were
-- acknowledged, and each of those is counted; it stands for the state after them, or after one more.
pub record StopsAt (state : Persistent) (states : List Persistent) (before now : ℕ) (after : Option Persistent) : Type 0 where
  pub place : ℕ
  pub counted : now ≡ raised_by place before
  pub reached : ℕ
  pub near : (reached ≡ place) ⊎ (reached ≡ place + 1)
  pub within : reached ≤ length states
  pub stands : after ≡ Some (slice_index_or (state ∷ states) reached state)

-- What is due after a fault, and what a card says of one. Before is the answer as it was before the command.
pub record TellsFaults {X : Type 0} (result : Result X CardFault) (new : CardParts) (before out : Answer) : Type 0 where
  -- 6581 comes without data
  pub no_data : AnswersFailure result out → out.body ≡ []
  -- a restart is due after it, and after a loss of power
  pub due : AnswersFailure result out → new.is_due ≡ true
  pub due_off : result ≡ Err PowerLost → new.is_due ≡ true
  -- and after no other answer
  pub rests : OnServed result out (new.is_due ≡ false)
  -- where there is no answer there is no data, and the status is that before
  pub empty : OnErr result (out.body ≡ [])
  pub silent : OnErr result (out.status ≡ before.status)

-- What a card does without power, and when it has it.
pub record TellsPower {X : Type 0} (result : Result X CardFault) (old new : CardParts) : Type 0 where
  pub no_power : (result ≡ Err NoPower) ↔ (old.is_on ≡ false)
  -- a loss of power leaves it without
  pub off : result ≡ Err PowerLost → new.is_on ≡ false
  -- one that answered has power
  pub on : OnOk result (new.is_on ≡ true)

-- The store stays the one that it was, and each fault was counted, and no other.
pub record KeepsCardStore {X : Type 0} (result : Result X CardFault) (old new : CardParts) (out : Answer) : Type 0 where
  -- whether it tells its bytes
  pub told : is_some new.told ≡ is_some old.told
  pub mark : new.store_mark ≡ old.store_mark
  pub cause : Caused old.meter new.meter (AnswersFailure result out) (IsErrOf result PowerLost)

-- ---- inside a command

-- what comes of telling the applets of STATUS
abbrev pub polled_on : CardState → Answered
polled_on card = on_toolkit card (coming_to card [] (polled (toolkit_of card)))

-- what comes of the whole command: it is answered, or after a fault the card is left as one that such a fault leaves
abbrev pub Comes : {X : Type 0} → Result X StoreFault → Option CardState → List ℕ → Answer → Option CardState → Option CardState → Type 0
Comes (Ok _) before apdu out after due = IfSome before (λ card. Answers (answer card apdu) out after)
Comes (Err _) before apdu out after due = IfSome before (λ card. IsSomeAnd due (IsLeft card (passed card apdu)))

-- Where the store tells its bytes, each of these states is committed once, and no other; where a fault stops that, it stands for the
-- one after the commits that were acknowledged, or after one more.
pub record CommitsStates {X : Type 0} (result : Result X StoreFault) (old new : CardParts) (states : CardState → List Persistent) : Type 0 where
  pub commits : OnOk result (IfSome (card_of old) (λ card. new.commits ≡ raised_by (length (states card)) old.commits))
  pub stopped : OnErr result (IfSome (card_of old) (λ card. StopsAt card.persistent (states card) old.commits new.commits (held_by new)))

-- the rows of the table are those of one of these states
abbrev pub HasRowsOf : List Persistent → CardParts → Type 0
HasRowsOf states parts = Contains (map (λ state. state.rows) states) (rows_of parts.table)

-- A whole command was answered.
pub record IsAnswered {X : Type 0} (result : Result X StoreFault) (old new : CardParts) (bytes : List ℕ) (out : Answer) : Type 0 where
  -- the card and the answer are the abstract card's, or a fault left one of the states that the command passes
  pub comes : Comes result (card_of old) bytes out (card_of new) (card_due new)
  -- what it has to commit was committed
  pub counts : CommitsStates result old new (λ card. (answer card bytes).commits)
  -- and what it changes was written, and no other byte
  pub writes : IfSome (card_of old) (λ card. WritesChanges result old new (answer card bytes).changes)
  -- no answer is 6581, and a fault leaves no data
  pub usual : OnOk result (out.status.0 ≢ MEMORY_PROBLEM.0)
  pub empty : OnErr result (out.body ≡ [])
