-- What a trace shows of the commands of the toolkit: those that were fetched, and the responses that were accepted.
use Rattle.std.specs.Prelude.{◌≡◌, ℕ, ◌==◌, Bool, true, false, if◌then◌else◌, List, [], ◌∷◌, ◌++◌, slice_index_or, All, Option, Some, None, is_some, ⊤}
use Rattle.std.specs.List.{list_any}
use Rattle.std.specs.Option.{option_to_list}
use Rattle.uicc_types.specs.declared.answers.StatusWord.{StatusWord}
use Rattle.uicc_types.specs.declared.answers.TheConstants.StatusWord.{MEMORY_PROBLEM}
use Rattle.uicc_types.specs.declared.runs.Step.{Step}
use Rattle.uicc_types.specs.declared.runs.TraceItem.{TraceItem}
use Rattle.uicc_types.specs.declared.runs.TraceItem.TheVariants as item
use Rattle.toolkit_model.specs.Commands.{unanswered}
use Rattle.card_model.specs.Answers.{is_carried_out}
use Rattle.card_model.specs.Instructions.{is_known, has_toolkit}
use Rattle.card_model.specs.Runs.{IsRun}
use Rattle.card_model.specs.States.{Machine, IsGood}
use Rattle.card_laws.specs.ToolkitRuns.{HasBytes}

-- the second byte of a command tells its instruction (ISO/IEC 7816-4, 5.1)
abbrev pub ins_of : List ℕ → ℕ
ins_of bytes = slice_index_or bytes 1 0

-- a command of the toolkit was fetched, a response was accepted, or all applets wake
pub data Signal : Type 0 where
  Fetches : Signal
  Accepts : Signal
  Wakes : Signal

-- FETCH and TERMINAL RESPONSE (ETSI TS 102 221, 11.2.3 and 11.2.4) that were carried out
abbrev pub done_signal : ℕ → Option Signal
done_signal ins = if ins == 0x12 then Some Fetches else if ins == 0x14 then Some Accepts else None

-- after a failure of the memory all applets wake
abbrev pub answer_signal : List ℕ → StatusWord → Option Signal
answer_signal bytes status = if status.0 == MEMORY_PROBLEM.0 then Some Wakes else if is_carried_out status then done_signal (ins_of bytes) else None

-- the answer to a command comes next
abbrev pub next_signal : List ℕ → List TraceItem → Option Signal
next_signal bytes (item.Answer body status ∷ more) = answer_signal bytes status
next_signal bytes _ = None

-- the commands that were fetched, the responses that were accepted and the wakes of all applets, as a trace shows them
abbrev pub signals : List TraceItem → List Signal
signals [] = []
signals (item.Command bytes ∷ more) = option_to_list (next_signal bytes more) ++ signals more
signals (item.Answer body status ∷ more) = signals more
signals (item.Cut ∷ more) = Wakes ∷ signals more
signals (item.Off ∷ more) = signals more
signals (item.Reset ∷ more) = Wakes ∷ signals more
signals (item.EepromFailed ∷ more) = Wakes ∷ signals more

-- Beginning with whether a command was fetched and not answered: a command is fetched only where none is, and a response is accepted
-- only where one is. So between two commands that are fetched a response is accepted, or all applets wake.
abbrev pub Alternate : Bool → List Signal → Type 0
Alternate held [] = ⊤
Alternate held (Fetches ∷ more) = (held ≡ false) × Alternate true more
Alternate held (Accepts ∷ more) = (held ≡ true) × Alternate false more
Alternate held (Wakes ∷ more) = Alternate false more

-- of every trace of a good card that runs applets
abbrev pub TracesAlternate : Type 0
TracesAlternate =
    (old new : Machine) (steps : List Step) (items : List TraceItem) → has_toolkit is_known ≡ true → IsGood old.card → All HasBytes steps → IsRun old steps items new
    → Alternate (is_some (unanswered old.card.session)) (signals items)

-- a response was accepted, or all applets woke
abbrev pub is_ending : Signal → Bool
is_ending Fetches = false
is_ending Accepts = true
is_ending Wakes = true

-- between two commands that are fetched there is one of these
abbrev pub EndsBetween : List Signal → Type 0
EndsBetween seen = (early between late : List Signal) → seen ≡ early ++ (Fetches ∷ (between ++ (Fetches ∷ late))) → list_any is_ending between ≡ true

-- So it is in each run of a good card that runs applets.
abbrev pub FetchesAreAnswered : Type 0
FetchesAreAnswered =
    (old new : Machine) (steps : List Step) (items : List TraceItem) → has_toolkit is_known ≡ true → IsGood old.card → All HasBytes steps → IsRun old steps items new → EndsBetween (signals items)
